-- A narrower choice has no greater bound.
use Rattle.std.proofs.Common.{ℕ, ◌≤◌, List, [], ◌∷◌, arith, subst}
use Rattle.std.specs.List.{AllZip}
use Rattle.bid_rules.specs.declared.pair.Pair.{Pair}
use Rattle.bid_rules.specs.Pairs.{IsAtMost}
use Rattle.nash_bounds.specs.Bound.{IsBound}

-- a list below one that is below a third is below the third, entry by entry
pub AllZip-trans : (xs ys zs : List ℕ) → AllZip ◌≤◌ xs ys → AllZip ◌≤◌ ys zs → AllZip ◌≤◌ xs zs
AllZip-trans [] [] [] a b = tt
AllZip-trans [] [] (z ∷ zs) a b = absurd b
AllZip-trans [] (y ∷ ys) zs a b = absurd a
AllZip-trans (x ∷ xs) [] zs a b = absurd a
AllZip-trans (x ∷ xs) (y ∷ ys) [] a b = absurd b
AllZip-trans (x ∷ xs) (y ∷ ys) (z ∷ zs) a b = (let h : x ≤ y = a.0 in let k : y ≤ z = b.0 in (let r : x ≤ z = omega arith in r), AllZip-trans xs ys zs a.1 b.1)

-- with higher lows, lower highs and a lower top the bound is no greater
pub narrower : (low high low' high' : List ℕ) (top top' : ℕ) (before after : Pair) → AllZip ◌≤◌ low low' → AllZip ◌≤◌ high' high → top' ≤ top
    → IsBound low high top before → IsBound low' high' top' after → IsAtMost after before
narrower low high low' high' top top' before after a b c old new =
    let us = new.reached.0 in
    let within = new.reached.1 in
    subst (λ (p : Pair). IsAtMost p before) new.reached.2 (old.greatest us (record {
      above = AllZip-trans low low' us a within.above;
      below = AllZip-trans us high' high within.below b;
      total = (let h = within.total in omega arith);
    }))
