-- The ways to close the owners of the first few goods, and what follows once all are closed.
use Rattle.std.proofs.Common.{◌≡◌, ◌≢◌, ℕ, List, [], ◌∷◌, ◌++◌, length, take, true, false, Bool, arith, refl, ap, sym, ◌∙◌, subst, Ordering, ◌⊎◌, inl, inr, ⊎_elim, length-append, append-nil, append_assoc}
use Rattle.std.specs.Cmp.Lexicographic.{slice_cmp}
use Rattle.std.specs.Ordering.{nat_cmp, ordering_then, ordering_reverse}
use Rattle.std.specs.declared.cmp.Ordering.TheVariants.{Less, Equal, Greater}
use Rattle.std.proofs.lemmas.Cmp.{nat_list_cmp_total}
use Rattle.std.proofs.lemmas.Map.Lookups.{exact_bytes}
use Rattle.bid_rules.specs.declared.goods.GoodsCase.{GoodsCase}
use Rattle.bid_rules.specs.declared.pair.Pair.{Pair}
use Rattle.bid_rules.specs.Goods.{GoodsBest, IsAllocation, IsBehind, pair_of}
use Rattle.bid_rules.specs.Pairs.{IsAtMost, IsLess, is_less}
use Rattle.nash_bounds.specs.Prefixes.{prefix_bound}
use Rattle.split_lemmas.proofs.PairOrder.{at_most_itself, at_most_less, less-from, less_at_most, less_not, not_less, same_from_at_most}
use Rattle.split_lemmas.proofs.ListOrder.{same_from_neither}
use Rattle.prefix_trees.specs.Closed.{BeginsClosed, IsAllBehind, IsClosed, IsFarBelow}

-- a best allocation that is no better than the answer is the answer
behind_is : (case : GoodsCase) (answer best : List ℕ) → IsAllocation case answer → GoodsBest case best → IsBehind case best answer → best ≡ answer
behind_is case answer best whole is behind = ⊎_elim
    (λ (less : IsLess (pair_of case answer) (pair_of case best)). ⊎_elim
    (λ (other : IsLess (pair_of case best) (pair_of case answer)).
    absurd (less_not (pair_of case best) (pair_of case answer) other (less_at_most (pair_of case answer) (pair_of case best) less)))
    (λ (same : (pair_of case best ≡ pair_of case answer) × (slice_cmp nat_cmp best answer ≡ Less → ⊥)).
    absurd (less_not (pair_of case answer) (pair_of case best) less (subst (λ (p : Pair). IsAtMost p (pair_of case answer)) (sym same.0) (at_most_itself (pair_of case answer)))))
    behind)
    (λ (same : (pair_of case answer ≡ pair_of case best) × (slice_cmp nat_cmp answer best ≡ Less → ⊥)). ⊎_elim
    (λ (other : IsLess (pair_of case best) (pair_of case answer)).
    absurd (less_not (pair_of case best) (pair_of case answer) other (subst (λ (p : Pair). IsAtMost p (pair_of case best)) (sym same.0) (at_most_itself (pair_of case best)))))
    (λ (again : (pair_of case best ≡ pair_of case answer) × (slice_cmp nat_cmp best answer ≡ Less → ⊥)). same_from_neither best answer again.1 same.1)
    behind)
    (is.best answer whole)

-- what begins with a list that is after the front of another is after that one
after_front : (front rest answer : List ℕ) → slice_cmp nat_cmp front (take (length front) answer) ≡ Greater → slice_cmp nat_cmp (front ++ rest) answer ≡ Greater
after_front [] rest answer h = cc
after_front (x ∷ front) rest [] h = refl
after_front (x ∷ front) rest (y ∷ answer) h = split (nat_cmp x y) h (after_front front rest answer)
  where
    split : (o : Ordering) → ordering_then o (slice_cmp nat_cmp front (take (length front) answer)) ≡ Greater
        → (slice_cmp nat_cmp front (take (length front) answer) ≡ Greater → slice_cmp nat_cmp (front ++ rest) answer ≡ Greater)
        → ordering_then o (slice_cmp nat_cmp (front ++ rest) answer) ≡ Greater
    split Less h more = cc
    split Equal h more = more h
    split Greater h more = refl

-- a pair that is at most another is smaller or the same
less_or_same : (a b : Pair) → IsAtMost a b → IsLess a b ⊎ (a ≡ b)
less_or_same a b most = split (is_less a b) refl
  where
    split : (o : Bool) → is_less a b ≡ o → IsLess a b ⊎ (a ≡ b)
    split true e = inl (less-from a b e)
    split false e = inr (same_from_at_most a b most (not_less a b e))

-- when a prefix may be left out, in the words of the law of `nash_bounds`
abbrev pub MayBeLeft : GoodsCase → List ℕ → List ℕ → Type 0
MayBeLeft case answer owners =
    IsLess (prefix_bound case owners) (pair_of case answer)
    ⊎ ((prefix_bound case owners ≡ pair_of case answer) × (slice_cmp nat_cmp owners (take (length owners) answer) ≡ Greater))

-- an allocation that begins with such a prefix is no better than the answer
below_behind : (case : GoodsCase) (answer front rest : List ℕ) → IsAtMost (pair_of case (front ++ rest)) (prefix_bound case front) → MayBeLeft case answer front → IsBehind case (front ++ rest) answer
below_behind case answer front rest most h = ⊎_elim
    (λ (less : IsLess (prefix_bound case front) (pair_of case answer)). inl (at_most_less (pair_of case (front ++ rest)) (prefix_bound case front) (pair_of case answer) most less))
    (λ (same : (prefix_bound case front ≡ pair_of case answer) × (slice_cmp nat_cmp front (take (length front) answer) ≡ Greater)).
    let after = after_front front rest answer same.1 in
    ⊎_elim
    (λ (less : IsLess (pair_of case (front ++ rest)) (pair_of case answer)). inl less)
    (λ (e : pair_of case (front ++ rest) ≡ pair_of case answer). inr (e, λ less. let f : Less ≡ Greater = sym less ∙ after in cc))
    (less_or_same (pair_of case (front ++ rest)) (pair_of case answer) (subst (IsAtMost (pair_of case (front ++ rest))) same.0 most)))
    h

-- so such a prefix is closed
pub plain_closed : (case : GoodsCase) (answer owners : List ℕ)
    → ((rest : List ℕ) → IsAllocation case (owners ++ rest) → IsAtMost (pair_of case (owners ++ rest)) (prefix_bound case owners))
    → MayBeLeft case answer owners → IsAllocation case answer → IsClosed case answer owners
plain_closed case answer owners below left whole rest best =
    behind_is case answer (owners ++ rest) whole best (below_behind case answer owners rest (below rest best.allocation) left)

-- and one with no better allocation
pub behind_closed : (case : GoodsCase) (answer owners : List ℕ) → IsAllocation case answer → IsAllBehind case answer owners → IsClosed case answer owners
behind_closed case answer owners whole behind rest best = behind_is case answer (owners ++ rest) whole best (behind rest best.allocation)

-- and one with less welfare than the answer in each allocation
pub below_closed : (case : GoodsCase) (answer owners : List ℕ) → IsAllocation case answer → IsFarBelow case answer owners → IsClosed case answer owners
below_closed case answer owners whole below rest best = behind_is case answer (owners ++ rest) whole best (inl (below rest best.allocation))

-- the answer itself has no more goods to give
pub own_closed : (case : GoodsCase) (answer : List ℕ) → IsAllocation case answer → IsClosed case answer answer
own_closed case answer whole [] best = append-nil answer
own_closed case answer whole (o ∷ rest) best =
    let long = whole.each in
    let longer = best.allocation.each in
    absurd (omega (arith, length-append answer (o ∷ rest)))

-- what is closed is so for longer lists
pub longer_closed : (case : GoodsCase) (answer owners more : List ℕ) → IsClosed case answer owners → IsClosed case answer (owners ++ more)
longer_closed case answer owners more closed rest best =
    let same = append_assoc owners more rest in
    same ∙ closed (more ++ rest) (subst (GoodsBest case) same best)

-- two lists are the same or not
same_or_not : (xs ys : List ℕ) → (xs ≡ ys) ⊎ (xs ≢ ys)
same_or_not xs ys = split (slice_cmp nat_cmp xs ys) refl
  where
    itself : slice_cmp nat_cmp xs xs ≡ Less → ⊥
    itself h = let e : Less ≡ Greater = sym h ∙ nat_list_cmp_total.antisymm xs xs ∙ ap ordering_reverse h in cc

    itself_after : slice_cmp nat_cmp xs xs ≡ Greater → ⊥
    itself_after h = let e : Greater ≡ Less = sym h ∙ nat_list_cmp_total.antisymm xs xs ∙ ap ordering_reverse h in cc

    split : (o : Ordering) → slice_cmp nat_cmp xs ys ≡ o → (xs ≡ ys) ⊎ (xs ≢ ys)
    split Less e = inr (λ same. itself (subst (λ zs. slice_cmp nat_cmp xs zs ≡ Less) (sym same) e))
    split Equal e = inl (exact_bytes xs ys e)
    split Greater e = inr (λ same. itself_after (subst (λ zs. slice_cmp nat_cmp xs zs ≡ Greater) (sym same) e))

-- if no other allocation is the best, the answer is, since one is
pub alone_best : (case : GoodsCase) (answer : List ℕ) → (owners : List ℕ) × GoodsBest case owners
    → ((others : List ℕ) → IsAllocation case others → others ≢ answer → GoodsBest case others → ⊥) → GoodsBest case answer
alone_best case answer (owners, best) none = ⊎_elim
    (λ (same : owners ≡ answer). subst (GoodsBest case) same best)
    (λ (other : owners ≢ answer). absurd (none owners best.allocation other best))
    (same_or_not owners answer)

-- and so it is if each allocation begins with closed owners
pub fronts_best : (case : GoodsCase) (answer : List ℕ) → (owners : List ℕ) × GoodsBest case owners
    → ((allocation : List ℕ) → IsAllocation case allocation → BeginsClosed case answer allocation) → GoodsBest case answer
fronts_best case answer (owners, best) each =
    let begins = each owners best.allocation in
    let same : owners ≡ answer = begins.begins ∙ begins.closed begins.rest (subst (GoodsBest case) begins.begins best) in
    subst (GoodsBest case) same best
