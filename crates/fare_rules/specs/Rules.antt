-- The five rules that a certificate of fares keeps. They show that its fares and route are the best (Shapley 1953).
use Rattle.std.specs.Prelude.{ℕ, pos, ◌-◌, ◌^◌, ◌≤ℤ◌, List, [], ◌∷◌, length, All}
use Rattle.std.specs.List.{AllZip, range_with_len}
use Rattle.std.specs.List.Sorted.{IsPermutation}
use Rattle.bid_rules.specs.Facts.{IsValidFareCase}
use Rattle.bid_rules.specs.Fares.{riders_of, sum_of_marginal_costs}
use Rattle.bid_rules.specs.Fractions.{IsQuotient}
use Rattle.bid_rules.specs.Orders.{factorial}
use Rattle.best_laws.specs.Entries.{IsLowestRoute}
use Rattle.fare_rules.specs.Entries.{HasLines, entry_of}
use Rattle.cert_reader.specs.Layout.{FaresView}
use Rattle.fare_rules.specs.Printed.{printed_case, printed_route}
use Rattle.rule_verdicts.specs.Verdicts.{rule_at}

-- rule 1: the printed numbers are 0 or more, and they form a valid case: the flag fall and the legs in range, no cost from a place to itself, and members from
-- 1 to 10 in rising order, each with a place
pub record HasCase (view : FaresView) : Type 0 where
  pub flag : pos 0 ≤ℤ view.flag
  pub legs : All (λ row. All (λ cents. pos 0 ≤ℤ cents) row) view.legs
  pub who : All (λ member. pos 0 ≤ℤ member) view.who
  pub at : All (λ place. pos 0 ≤ℤ place) view.at
  pub valid : IsValidFareCase (printed_case view)

-- rule 3: the printed route has the riders 1 to n in some order
pub record HasRoute (view : FaresView) : Type 0 where
  pub positive : All (λ rider. pos 1 ≤ℤ rider) view.route
  pub order : IsPermutation (range_with_len 1 (length view.at)) (printed_route view)

-- rule 5: the fare of each rider is the mean of what the rider adds to the cost, over all orders of the riders
abbrev pub AreMeans : FaresView → Type 0
AreMeans view = AllZip (λ rider fare. IsQuotient fare (sum_of_marginal_costs (printed_case view) rider) (factorial (length view.at))) (riders_of (printed_case view)) view.fares

-- the five rules of a certificate of fares, in order
abbrev pub rules_of_fares : FaresView → List (Type 0)
rules_of_fares view = HasCase view ∷ HasLines (printed_case view) (length view.at) view.sets ∷ HasRoute view
    ∷ IsLowestRoute (printed_case view) (entry_of (length view.at) view.sets) 0 (2 ^ length view.at - 1) (printed_route view) ∷ AreMeans view ∷ []

-- the rule of fares with this number, counted from 1
abbrev pub fares_rule : FaresView → ℕ → Type 0
fares_rule view number = rule_at (rules_of_fares view) number
