-- A case has one least route.
use Rattle.std.proofs.Common.{◌≡◌, ◌≢◌, ℕ, List}
use Rattle.std.specs.Cmp.Lexicographic.{slice_cmp}
use Rattle.std.specs.Ordering.{nat_cmp}
use Rattle.std.specs.declared.cmp.Ordering.TheVariants.{Less}
use Rattle.std.proofs.lemmas.List.Elements.{All-contains}
use Rattle.bid_rules.specs.declared.cases.FareCase.{FareCase}
use Rattle.bid_rules.specs.Orders.{orders}
use Rattle.bid_rules.specs.Fares.{IsLeastRoute, legs_along, riders_of, route_cost}
use Rattle.split_lemmas.proofs.ListOrder.{same_from_neither}

-- two least routes are the same
pub same_route : (case : FareCase) (route other : List ℕ) → IsLeastRoute case route → IsLeastRoute case other → route ≡ other
same_route case route other h g = same_from_neither route other (not_before other route g h) (not_before route other h g)
  where
    not_before : (a b : List ℕ) → IsLeastRoute case a → IsLeastRoute case b → slice_cmp nat_cmp b a ≢ Less
    not_before a b h g = All-contains (λ o. legs_along case 0 o ≡ route_cost case 0 (riders_of case) → slice_cmp nat_cmp o a ≢ Less) (orders (riders_of case)) b h.first g.order g.cheapest
