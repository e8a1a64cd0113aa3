-- The division of a shared fare that the solver gives for a case.
use Rattle.std.specs.Prelude.{◌≡◌, ℕ, pos, ◌+◌, ◌*◌, ◌≤◌, length, map, All, unsigned_abs}
use Rattle.std.specs.Int.{◌∣◌}
use Rattle.bid_rules.specs.declared.cases.FareCase.{FareCase}
use Rattle.bid_rules.specs.Fares.{FareBest, coalition_cost, riders_of}
use Rattle.bid_rules.specs.Fractions.{IsQuotient, sum_of_fractions}
use Rattle.bid_rules.specs.Orders.{factorial}
use Rattle.bid_rules.specs.declared.limits.TheConstants.{MOST_FARE_CENTS, MOST_RIDERS}
use Rattle.split_frac.specs.Frac.{fraction_of}
use Rattle.split_frac.specs.declared.frac.Frac.{Frac}
use Rattle.shapley_core.specs.declared.division.FareDivision.{FareDivision}

-- a fare is a whole number of n!-ths of a cent, no further from 0 than a flag fall and a leg for each rider cost at most
pub record IsFareInRange (riders : ℕ) (fare : Frac) : Type 0 where
  pub parts : fare.den ∣ factorial riders
  pub few_parts : fare.den ≤ factorial MOST_RIDERS
  pub size : unsigned_abs fare.num ≤ MOST_FARE_CENTS * (MOST_RIDERS + 1) * fare.den

-- the division of the case: the best fares and route, the cost of all riders, to which the fares sum, and what each set of riders costs
pub record IsFareDivision (case : FareCase) (division : FareDivision) : Type 0 where
  pub best : FareBest case (map fraction_of division.fares.items) division.route.items
  pub total : division.total ≡ coalition_cost case (riders_of case)
  pub sum : IsQuotient (sum_of_fractions (map fraction_of division.fares.items)) (pos division.total) 1
  pub costs : division.costs ≡ case
  pub few_riders : length case.at.items ≤ MOST_RIDERS
  pub ranges : All (IsFareInRange (length case.at.items)) division.fares.items
