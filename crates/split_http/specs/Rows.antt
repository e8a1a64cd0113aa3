-- The rows of the router.
use Rattle.std.specs.Prelude.{ℕ, List, [], ◌∷◌, ◌++◌, codes, map}
use Rattle.matchit.specs.Rows.{RowsOf, param_token}
use Rattle.matchit.specs.Router.{RouteOf}
use Rattle.split_http.specs.Places.{Endpoint, creation, tails}

-- a route below `/instances/{id}`
abbrev pub below : List ℕ × Endpoint → List ℕ × RouteOf Endpoint
below (tail, endpoint) = (
  codes "/instances/" ++ param_token ∷ tail,
  record {
    pattern = codes "/instances/" ++ param_token ∷ tail;
    text = codes "/instances/{id}" ++ tail;
    names = (12, 14) ∷ [];
    value = endpoint;
  },
)

-- all routes, in the router's order
abbrev pub route_rows : RowsOf (RouteOf Endpoint)
route_rows =
    map below tails
    ++ (codes "/instances", record { pattern = codes "/instances"; text = codes "/instances"; names = []; value = creation })
    ∷ []
