-- The next good to move, found good by good.
use Rattle.std.proofs.Common.{◌≡◌, ℕ, ◌+◌, ◌<◌, ◌≤◌, Bool, true, false, arith, sym, ◌∙◌, ◌⊎◌, inl, inr, ⊎_elim, subst}
use Rattle.std.proofs.lemmas.Bool.{cases_lt}
use Rattle.bid_rules.specs.declared.goods.GoodsCase.{GoodsCase}
use Rattle.winner_definition.specs.Winners.{may_move, moves_before}
use Rattle.winner_definition.specs.Moving.{IsNextOf, is_gone}
use Rattle.winner_definition.proofs.MovingOrder.{may_lesser, through, total}

-- no test holds and fails
differ : {b : Bool} → b ≡ true → b ≡ false → ⊥
differ h k = cc

-- one of some goods and one more is that one, or among them
cases_next : (other count : ℕ) → other ≤ count + 1 → (other ≡ count + 1) ⊎ (other ≤ count)
cases_next other count h = ⊎_elim (λ (s : count < other). inl (omega arith)) (λ (s : other ≤ count). inr s) (cases_lt count other)

-- a good that may not move is passed over
pub next_skip : (case : GoodsCase) (player last next count : ℕ) → IsNextOf case player last count next
    → may_move case player (count + 1) ≡ false → IsNextOf case player last (count + 1) next
next_skip case player last next count before not = record {
  within = omega (arith, before.within);
  may = before.may;
  least = λ other l h may gone. ⊎_elim
      (λ (is : other ≡ count + 1). absurd (differ (subst (λ g. may_move case player g ≡ true) is may) not))
      (λ (old : other ≤ count). before.least other l old may gone)
      (cases_next other count h);
}

-- one that has moved is too
pub next_gone : (case : GoodsCase) (player last next count : ℕ) → IsNextOf case player last count next
    → is_gone case player last (count + 1) ≡ true → IsNextOf case player last (count + 1) next
next_gone case player last next count before not = record {
  within = omega (arith, before.within);
  may = before.may;
  least = λ other l h may gone. ⊎_elim
      (λ (is : other ≡ count + 1). absurd (differ not (subst (λ g. is_gone case player last g ≡ false) is gone)))
      (λ (old : other ≤ count). before.least other l old may gone)
      (cases_next other count h);
}

-- one before the best so far is the best
pub next_take : (case : GoodsCase) (player last next count : ℕ) → IsNextOf case player last count next
    → may_move case player (count + 1) ≡ true → is_gone case player last (count + 1) ≡ false → (next ≡ 0) ⊎ (moves_before case (count + 1) next ≡ true)
    → IsNextOf case player last (count + 1) (count + 1)
next_take case player last next count before may gone first = record {
  within = omega arith;
  may = λ some. (may, gone);
  least = λ other l h may_other gone_other. (
    omega arith,
    ⊎_elim
        (λ (is : other ≡ count + 1). inl is)
        (λ (old : other ≤ count).
        let found = before.least other l old may_other gone_other in
        inr (⊎_elim
        (λ (none : next ≡ 0). let some = found.0 in absurd (omega arith))
        (λ (earlier : moves_before case (count + 1) next ≡ true). ⊎_elim
        (λ (is : other ≡ next). subst (λ g. moves_before case (count + 1) g ≡ true) (sym is) earlier)
        (λ (later : moves_before case next other ≡ true). through case (count + 1) next other (may_lesser case player (count + 1) may) (may_lesser case player next (before.may found.0).0) (may_lesser case player other may_other) earlier later)
        found.1)
        first))
        (cases_next other count h),
  );
}

-- one after it is not
pub next_keep : (case : GoodsCase) (player last next count : ℕ) → IsNextOf case player last count next
    → (next ≡ 0 → ⊥) → moves_before case (count + 1) next ≡ false → IsNextOf case player last (count + 1) next
next_keep case player last next count before some later = record {
  within = omega (arith, before.within);
  may = before.may;
  least = λ other l h may gone. ⊎_elim
      (λ (is : other ≡ count + 1). (there, ⊎_elim (λ (same : count + 1 ≡ next). inl (is ∙ same)) (λ (after : moves_before case next (count + 1) ≡ true). inr (subst (λ g. moves_before case next g ≡ true) (sym is) after)) (total case (count + 1) next later)))
      (λ (old : other ≤ count). before.least other l old may gone)
      (cases_next other count h);
}
  where
    there : 0 < next
    there = ⊎_elim (λ (s : 0 < next). s) (λ (s : next ≤ 0). absurd (some (omega arith))) (cases_lt 0 next)
