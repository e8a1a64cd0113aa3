-- How many riders a case and a set have.
use Rattle.std.proofs.Common.{ℕ, ◌^◌, ◌<◌, ◌≤◌, length, arith, subst}
use Rattle.std.specs.List.{range_with_len}
use Rattle.std.proofs.lemmas.List.FromFn.{length-range_with_len}
use Rattle.std.proofs.lemmas.List.Sums.{length-filter, count_by-le-length}
use Rattle.bid_rules.specs.declared.cases.FareCase.{FareCase}
use Rattle.bid_rules.specs.declared.limits.TheConstants.{MOST_RIDERS}
use Rattle.bid_rules.specs.Coalitions.{has_rider, riders_in}
use Rattle.bid_rules.specs.Facts.{IsValidFareCase}
use Rattle.split_lemmas.proofs.ListPlaces.{rising_few}
use Rattle.best_laws.proofs.SetNumbers.{riders_in-first}

-- a case has at most as many riders as there may be members
pub riders_few : (case : FareCase) → IsValidFareCase case → length case.at.items ≤ MOST_RIDERS
riders_few case valid = omega (arith, valid.each, valid.facts.shape.members_high, rising_few case.who.items case.facts.members valid.rising valid.members)

-- and a set of them no more than they
pub set_few : (n set : ℕ) → set < 2 ^ n → length (riders_in set) ≤ n
set_few n set small = subst (λ xs. length xs ≤ n) (riders_in-first n set small)
    (omega (arith, length-filter (has_rider set) (range_with_len 1 n), count_by-le-length (has_rider set) (range_with_len 1 n), length-range_with_len 1 n))
