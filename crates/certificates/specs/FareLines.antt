-- What the canonical certificate of fares says: the case, what the routes of all sets of riders cost, and the solver's route and fares.
use Rattle.std.specs.Prelude.{ℕ, ℤ, pos, List, length, map}
use Rattle.bid_rules.specs.declared.cases.FareCase.{FareCase}
use Rattle.best_laws.specs.Entries.{costs_from}
use Rattle.cert_reader.specs.Sets.{sets_of, starts}
use Rattle.cert_reader.specs.Layout.{FaresView}
use Rattle.shapley_core.specs.declared.division.FareDivision.{FareDivision}
use Rattle.split_frac.specs.Frac.{fraction_of}

-- what the route of a set costs from the origin, and then from the place of each rider who is not in the set
abbrev pub cost_line : FareCase → ℕ → List ℤ
cost_line case set = map (λ at. pos (costs_from case at set)) (starts (length case.at.items) set)

-- what the routes of all sets of riders cost, by the numbers of the sets
abbrev pub cost_lines : FareCase → List (List ℤ)
cost_lines case = map (cost_line case) (sets_of (length case.at.items))

-- what the canonical certificate of fares says for the solver's division
abbrev pub canonical_fares : FareCase → FareDivision → FaresView
canonical_fares case division = record {
  places = case.facts.places;
  flag = pos case.facts.flag;
  legs = map (λ row. map pos row.items) case.facts.legs.items;
  who = map pos case.who.items;
  at = map pos case.at.items;
  sets = cost_lines case;
  route = map pos division.route.items;
  fares = map fraction_of division.fares.items;
}
