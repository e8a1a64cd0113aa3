-- Allocations that begin after the answer's first owners, and stay below it or equal it, are no better than the answer.
use Rattle.std.proofs.Common.{◌≡◌, ℕ, List, [], ◌∷◌, ◌++◌, length, take, true, false, Bool, refl, sym, ◌∙◌, Ordering, ◌⊎◌, inl, inr, ⊎_elim}
use Rattle.std.specs.Cmp.Lexicographic.{slice_cmp}
use Rattle.std.specs.Ordering.{nat_cmp, ordering_then}
use Rattle.std.specs.declared.cmp.Ordering.TheVariants.{Less, Equal, Greater}
use Rattle.bid_rules.specs.declared.goods.GoodsCase.{GoodsCase}
use Rattle.bid_rules.specs.declared.pair.Pair.{Pair}
use Rattle.bid_rules.specs.Goods.{IsBehind, pair_of}
use Rattle.bid_rules.specs.Pairs.{IsAtMost, IsLess, is_less}
use Rattle.nash_bounds.specs.LeftOut.{is_after, is_greater}
use Rattle.split_lemmas.proofs.PairOrder.{less-from, not_less, same_from_at_most}
use Rattle.estate_bounds.specs.Weighted.{PairStaysBelow}

-- what begins with a list that is after the front of another is after that one
after_front : (front rest answer : List ℕ) → slice_cmp nat_cmp front (take (length front) answer) ≡ Greater → slice_cmp nat_cmp (front ++ rest) answer ≡ Greater
after_front [] rest answer h = cc
after_front (x ∷ front) rest [] h = refl
after_front (x ∷ front) rest (y ∷ answer) h = split (nat_cmp x y) h (after_front front rest answer)
  where
    split : (o : Ordering) → ordering_then o (slice_cmp nat_cmp front (take (length front) answer)) ≡ Greater
        → (slice_cmp nat_cmp front (take (length front) answer) ≡ Greater → slice_cmp nat_cmp (front ++ rest) answer ≡ Greater)
        → ordering_then o (slice_cmp nat_cmp (front ++ rest) answer) ≡ Greater
    split Less h more = cc
    split Equal h more = more h
    split Greater h more = refl

-- a pair that is at most another is smaller or the same
pub less_or_same : (a b : Pair) → IsAtMost a b → IsLess a b ⊎ (a ≡ b)
less_or_same a b most = split (is_less a b) refl
  where
    split : (o : Bool) → is_less a b ≡ o → IsLess a b ⊎ (a ≡ b)
    split true e = inl (less-from a b e)
    split false e = inr (same_from_at_most a b most (not_less a b e))

-- a test that says so
greater_is : (o : Ordering) → is_greater o ≡ true → o ≡ Greater
greater_is Less h = cc
greater_is Equal h = cc
greater_is Greater h = refl

-- owners that come after the answer's may have its pair
pub behind_after : (case : GoodsCase) (answer owners rest : List ℕ) → is_after answer owners ≡ true → IsAtMost (pair_of case (owners ++ rest)) (pair_of case answer) → IsBehind case (owners ++ rest) answer
behind_after case answer owners rest after most = ⊎_elim
    (λ (less : IsLess (pair_of case (owners ++ rest)) (pair_of case answer)). inl less)
    (λ (same : pair_of case (owners ++ rest) ≡ pair_of case answer).
    let later : slice_cmp nat_cmp (owners ++ rest) answer ≡ Greater = after_front owners rest answer (greater_is (slice_cmp nat_cmp owners (take (length owners) answer)) after) in
    inr (same, λ earlier. (let wrong : Greater ≡ Less = sym later ∙ earlier in cc)))
    (less_or_same (pair_of case (owners ++ rest)) (pair_of case answer) most)

-- others have to stay below it
pub behind_if : (case : GoodsCase) (answer owners rest : List ℕ) (after : Bool) → is_after answer owners ≡ after → PairStaysBelow after (pair_of case (owners ++ rest)) (pair_of case answer)
    → IsBehind case (owners ++ rest) answer
behind_if case answer owners rest true is most = behind_after case answer owners rest is most
behind_if case answer owners rest false is less = inl less
