-- Printed numbers, as those of a case.
use Rattle.std.proofs.Common.{ℕ, ℤ, pos, List, All, arith, ◌≤ℤ◌}
use Rattle.bid_rules.specs.declared.limits.TheConstants.{ITEM_ROOM, MOST_RENT}
use Rattle.cert_reader.specs.Layout.{RentView}
use Rattle.rent_rules.specs.Rules.{HasCase}
use Rattle.rule_verdicts.specs.Ranges.{AreBetween}
use Rattle.split_lemmas.proofs.PrintedNumbers.{rows_bounded}

-- numbers from 1 to n are 1 or more
pub positive_from : (n : ℕ) (xs : List ℤ) → AreBetween 1 n xs → All (λ x. pos 1 ≤ℤ x) xs
positive_from n xs h k d l = (h k d l).0

-- the values of a printed case that is valid are from 0 to the greatest rent
pub case_bounded : (view : RentView) → HasCase view → All (AreBetween 0 MOST_RENT) view.values
case_bounded view h = rows_bounded ITEM_ROOM MOST_RENT view.values h.values (λ k other l. let most = h.valid.sums k other l in let small = h.valid.facts.1.1 in omega (arith, most, small))
