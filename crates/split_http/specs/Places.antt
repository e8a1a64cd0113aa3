-- The routes, which of them a path has, and where a request leads.
use Rattle.std.specs.Prelude.{◌≡◌, ◌≢◌, ℕ, ◌<◌, ◌⊎◌, ◌^◌, ◌==◌, nat_eq, Bool, true, false, not, List, [], ◌∷◌, take, drop, codes, decimal, bytes_eq, Option, Some, None, option_and_then, Result, Ok, Err, if◌then◌else◌}
use Rattle.std.specs.List.{starts_with, prefix_len}
use Rattle.split_http.specs.declared.head.Verb.{Verb}
use Rattle.split_http.specs.declared.head.Verb.TheVariants.{Get, Head, Post, Other}
use Rattle.split_http.specs.declared.replies.Allow.{Allow}
use Rattle.split_http.specs.declared.replies.Allow.TheVariants as allows
use Rattle.split_http.specs.declared.routes.Place.{Place}
use Rattle.split_http.specs.declared.routes.Place.TheVariants.{Instances, Instance, Audit, Bids, Bid, Certificate, Close, Division, Report, Winner, Withdraw}
use Rattle.split_http.specs.declared.routes.Route.{Route}
use Rattle.split_http.specs.declared.routes.RouteFault.{RouteFault}
use Rattle.split_http.specs.declared.routes.RouteFault.TheVariants.{NoRoute, Method}

-- how many bytes come before the first slash
abbrev pub id_len : List ℕ → ℕ
id_len bytes = prefix_len (λ b. not (b == 47)) bytes

-- a place with its methods
abbrev pub Endpoint : Type 0
Endpoint = Place × Allow

-- `/instances`
abbrev pub creation : Endpoint
creation = (Instances, allows.Post)

-- the routes below `/instances/{id}`: what follows the id, and where that leads, in the order of their bytes, with a longer text before what it begins with
abbrev pub tails : List (List ℕ × Endpoint)
tails =
    (codes "/audit", (Audit, allows.GetHead))
    ∷ (codes "/bids", (Bids, allows.Post))
    ∷ (codes "/bid", (Bid, allows.GetHead))
    ∷ (codes "/certificate", (Certificate, allows.GetHead))
    ∷ (codes "/close", (Close, allows.Post))
    ∷ (codes "/division", (Division, allows.GetHead))
    ∷ (codes "/report", (Report, allows.GetHead))
    ∷ (codes "/winner", (Winner, allows.GetHead))
    ∷ (codes "/withdraw", (Withdraw, allows.Post))
    ∷ ([], (Instance, allows.GetHead))
    ∷ []

-- the place of this tail in the list, if it is there
abbrev pub endpoint_in : List (List ℕ × Endpoint) → List ℕ → Option Endpoint
endpoint_in [] tail = None
endpoint_in ((text, endpoint) ∷ rest) tail = if bytes_eq text tail then Some endpoint else endpoint_in rest tail

-- what comes after `/instances/`: an id, which is not empty, and a tail
abbrev pub endpoint_after_slash : List ℕ → Option Endpoint
endpoint_after_slash rest = if id_len rest == 0 then None else endpoint_in tails (drop (id_len rest) rest)

-- what comes after `/instances`
abbrev pub endpoint_after_word : List ℕ → Option Endpoint
endpoint_after_word [] = Some creation
endpoint_after_word (b ∷ rest) = if 47 == b then endpoint_after_slash rest else None

-- where a path leads
abbrev pub endpoint_of : List ℕ → Option Endpoint
endpoint_of path = if starts_with nat_eq path (codes "/instances") then endpoint_after_word (drop 10 path) else None

-- the bytes of the id: between `/instances/` and the next slash or the end
abbrev pub id_text : List ℕ → List ℕ
id_text path = take (id_len (drop 11 path)) (drop 11 path)

-- the bytes are the id in plain decimal, from 1 to 2^32 - 1, or none such and the id is 0
abbrev pub IsId : List ℕ → ℕ → Type 0
IsId text id = ((0 < id) × (id < 2 ^ 32) × (text ≡ decimal id)) ⊎ ((id ≡ 0) × ((n : ℕ) → 0 < n → n < 2 ^ 32 → text ≢ decimal n))

-- the method is among them
abbrev pub has_verb : Allow → Verb → Bool
has_verb allows.Post Post = true
has_verb allows.Post Get = false
has_verb allows.Post Head = false
has_verb allows.Post Other = false
has_verb allows.GetHead Get = true
has_verb allows.GetHead Head = true
has_verb allows.GetHead Post = false
has_verb allows.GetHead Other = false

-- where a request leads: to the place where its path leads, which has the method, with its id; or nowhere
abbrev pub IsRouted : Verb → Option (List ℕ) → Result Route RouteFault → Type 0
IsRouted verb path (Ok route) =
    (bytes : List ℕ) × (path ≡ Some bytes)
    × ((allow : Allow) × (endpoint_of bytes ≡ Some (route.place, allow)) × (has_verb allow verb ≡ true))
    × IsId (id_text bytes) route.id
IsRouted verb path (Err NoRoute) = option_and_then endpoint_of path ≡ None
IsRouted verb path (Err (Method allow)) =
    (place : Place) × (option_and_then endpoint_of path ≡ Some (place, allow)) × (has_verb allow verb ≡ false)
