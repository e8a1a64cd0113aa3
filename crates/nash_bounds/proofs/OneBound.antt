-- The bound as a function is the bound.
use Rattle.std.proofs.Common.{◌≡◌, ℕ, suc, zero, ◌-◌, ◌<◌, ◌≤◌, List, arith, refl, sym, ap, ◌∙◌, subst, ◌⊎◌, inl, inr, sum, All, nat_le, true, false}
use Rattle.std.specs.List.{AllZip}
use Rattle.std.proofs.lemmas.Bool.{cases_lt}
use Rattle.std.proofs.lemmas.Bool.Decides.{nat_tests}
use Rattle.bid_rules.specs.declared.pair.Pair.{Pair}
use Rattle.split_lemmas.proofs.PairOrder.{same_from_at_most}
use Rattle.bid_rules.specs.Pairs.{IsAtMost}
use Rattle.nash_bounds.specs.Bound.{IsBound}
use Rattle.nash_bounds.specs.Levels.{level_sum, entries_at_level, level_under, bound_of}
use Rattle.nash_bounds.specs.Raised.{Reaches}
use Rattle.nash_bounds.proofs.RaisedEntries.{level_start, level_full, filled_full, filled_sum, is_bound}
use Rattle.bid_rules.specs.declared.limits.TheConstants.{WHOLE_POINTS}

-- the level fits, and the next one does not, unless it is the last
under : (n : ℕ) (low high : List ℕ) (top : ℕ) → level_sum 0 low high ≤ top
    → (level_under n low high top ≤ n) × (level_sum (level_under n low high top) low high ≤ top)
    × ((level_under n low high top ≡ n) ⊎ (top < level_sum (suc (level_under n low high top)) low high))
unfolding level_under
under zero low high top h = (omega arith, h, inl refl)
under (suc n) low high top h =
    elim (cases_lt top (level_sum (suc n) low high)) [
      | inl l ↦ (
          let no : nat_le (level_sum (suc n) low high) top ≡ false = grind (arith, nat_tests) in
          let rest = under n low high top h in
          rw no (
            let a = rest.0 in omega arith,
            rest.1,
            elim rest.2 [
              | inl e ↦ inr (subst (λ m. top < level_sum (suc m) low high) (sym e) l)
              | inr g ↦ inr g
            ],
          ))
      | inr l ↦ (
          let yes : nat_le (level_sum (suc n) low high) top ≡ true = grind (arith, nat_tests) in
          rw yes (omega arith, l, inl refl))
    ]

-- a level that fits and whose next does not, or the highest, with the rest on the first that rise, reaches the top
pub reaches : (low high : List ℕ) (top level : ℕ) → AllZip ◌≤◌ low high → All (λ h. h ≤ WHOLE_POINTS) high → level ≤ WHOLE_POINTS → level_sum level low high ≤ top
    → (level ≡ WHOLE_POINTS) ⊎ (top < level_sum (suc level) low high) → Reaches low high top level (top - level_sum level low high)
reaches low high top level order small l fits (inr above) =
    let total = filled_sum level (top - level_sum level low high) low high in
    (l, inl (total ∙ omega arith))
reaches low high top level order small l fits (inl e) =
    let top_sum : level_sum WHOLE_POINTS low high ≤ top = subst (λ n. level_sum n low high ≤ top) e fits in
    subst (λ n. Reaches low high top n (top - level_sum n low high)) (sym e) (full low high top order small top_sum)
  where
    full : (low high : List ℕ) (top : ℕ) → AllZip ◌≤◌ low high → All (λ h. h ≤ WHOLE_POINTS) high → level_sum WHOLE_POINTS low high ≤ top → Reaches low high top WHOLE_POINTS (top - level_sum WHOLE_POINTS low high)
    full low high top order small le =
        let is = level_full low high order small in
        let same = filled_full (top - level_sum WHOLE_POINTS low high) low high order small in
        let total = filled_sum WHOLE_POINTS 0 low high in
        let e : sum (entries_at_level WHOLE_POINTS 0 low high) ≡ sum high = ap sum is in
        (omega arith, inr (same, omega arith))

-- the pair of the entries raised as high as fits is the bound
pub bound_of-is : (low high : List ℕ) (top : ℕ) → AllZip ◌≤◌ low high → All (λ h. h ≤ WHOLE_POINTS) high → sum low ≤ top → IsBound low high top (bound_of low high top)
unfolding bound_of
bound_of-is low high top order small h =
    let start = level_start low high order in
    let found = under WHOLE_POINTS low high top (omega arith) in
    is_bound low high top (level_under WHOLE_POINTS low high top) (top - level_sum (level_under WHOLE_POINTS low high top) low high) order
    (reaches low high top (level_under WHOLE_POINTS low high top) order small found.0 found.1 found.2)

-- there is one bound
pub same_bound : (low high : List ℕ) (top : ℕ) (a b : Pair) → IsBound low high top a → IsBound low high top b → a ≡ b
same_bound low high top a b first second =
    let le : IsAtMost a b = subst (λ (p : Pair). IsAtMost p b) first.reached.2 (second.greatest first.reached.0 first.reached.1) in
    let ge : IsAtMost b a = subst (λ (p : Pair). IsAtMost p a) second.reached.2 (first.greatest second.reached.0 second.reached.1) in
    same_from_at_most a b le ge
