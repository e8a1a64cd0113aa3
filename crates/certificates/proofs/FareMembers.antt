-- The case with the most members: it stays valid, and its lines are the same.
use Rattle.std.proofs.Common.{◌≡◌, ◌^◌, ℕ, zero, suc, pos, ◌-◌, List, length, refl, ap, ◌∙◌, arith}
use Rattle.std.specs.List.{range_with_len}
use Rattle.bid_rules.specs.declared.cases.FareCase.{FareCase}
use Rattle.bid_rules.specs.Coalitions.{riders_in, start_of}
use Rattle.bid_rules.specs.Facts.{IsValidFareCase}
use Rattle.bid_rules.specs.Fares.{route_cost}
use Rattle.bid_rules.specs.declared.limits.TheConstants.{MOST_RIDERS}
use Rattle.best_laws.specs.Entries.{costs_from}
use Rattle.cert_reader.specs.Sets.{starts}
use Rattle.shapley_core.specs.Members.{with_members}
use Rattle.split_lemmas.proofs.MappedLists.{map_same}
use Rattle.certificates.specs.FareLines.{cost_line, cost_lines}

-- a valid case stays one with the most members
pub still_valid : (case : FareCase) → IsValidFareCase case → IsValidFareCase (with_members case MOST_RIDERS)
still_valid case valid =
    let shape = valid.facts.shape in
    let few = shape.members_high in
    record {
      facts = record {
        shape = record { members_low = omega arith; members_high = omega arith; places_low = shape.places_low; places_high = shape.places_high; table = record { rows = shape.table.rows; columns = shape.table.columns } };
        cents = valid.facts.cents;
        own_legs = valid.facts.own_legs;
      };
      rising = valid.rising;
      members = λ k d l. let h = valid.members k d l in (h.0, omega (arith, h.1, few));
      some = valid.some;
      each = valid.each;
      places = valid.places;
    }

-- that the number of members does not change what a route costs, as the law has it
abbrev pub SameRoutes : Type 0
SameRoutes = (case : FareCase) (members from : ℕ) (riders : List ℕ) → route_cost (with_members case members) from riders ≡ route_cost case from riders

-- where a route starts
start_same : (case : FareCase) (members at : ℕ) → start_of (with_members case members) at ≡ start_of case at
start_same case members zero = refl
start_same case members (suc rider) = refl

-- the lines of costs
pub lines_same : SameRoutes → (case : FareCase) (members : ℕ) → cost_lines (with_members case members) ≡ cost_lines case
lines_same routes case members = map_same (cost_line (with_members case members)) (cost_line case) (range_with_len 1 (2 ^ length case.at.items - 1))
    (λ set. map_same (λ at. pos (costs_from (with_members case members) at set)) (λ at. pos (costs_from case at set)) (starts (length case.at.items) set)
    (λ at. ap pos (ap (λ from. route_cost (with_members case members) from (riders_in set)) (start_same case members at) ∙ routes case members (start_of case at) (riders_in set))))
