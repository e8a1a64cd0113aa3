-- What the rules on leaves give: the answer is best.
use Rattle.std.proofs.Common.{arith, refl, ◌≡◌, ◌∙◌, ap, sym, ◌<◌, ◌≤◌, ◌↔◌, ◌++◌, ◌∷◌, [], List, ℕ, subst, length, take, true, false, Bool, ◌⊎◌, inl, inr, ⊎_elim, Ordering}
use Rattle.std.specs.Cmp.Lexicographic.{slice_cmp}
use Rattle.std.specs.Ordering.{nat_cmp, ordering_then, ordering_reverse}
use Rattle.std.specs.declared.cmp.Ordering.TheVariants.{Less, Equal, Greater}
use Rattle.std.proofs.lemmas.Bool.{cases_lt}
use Rattle.std.proofs.lemmas.Cmp.{nat_list_cmp_total}
use Rattle.std.proofs.lemmas.List.{take-append-le, take_all}
use Rattle.bid_rules.specs.declared.goods.GoodsCase.{GoodsCase}
use Rattle.bid_rules.specs.declared.pair.Pair.{Pair}
use Rattle.bid_rules.specs.Goods.{GoodsBest, IsAllocation, IsBehind, IsValidGoodsCase, pair_of, player_count}
use Rattle.bid_rules.specs.Pairs.{IsAtMost, IsLess, is_less}
use Rattle.nash_bounds.specs.LeftOut.{may_be_left}
use Rattle.nash_bounds.specs.Prefixes.{prefix_bound}
use Rattle.split_lemmas.proofs.PairOrder.{at_most_less, less-from, less_not, not_less, same_from_at_most}
use Rattle.goods_rules.specs.Rules.{IsRuledTree, leaf_rule}
use Rattle.goods_rules.specs.Tree.{IsTree}
use Rattle.goods_rules.proofs.RulesTogether.{Both, subtree_both}
use Rattle.goods_rules.proofs.TreeCovers.{tree_covers}

-- what begins with a list that is after the front of another is after that one
after_front : (front rest answer : List ℕ) → slice_cmp nat_cmp front (take (length front) answer) ≡ Greater → slice_cmp nat_cmp (front ++ rest) answer ≡ Greater
after_front [] rest answer h = cc
after_front (x ∷ front) rest [] h = refl
after_front (x ∷ front) rest (y ∷ answer) h = split (nat_cmp x y) h (after_front front rest answer)
  where
    split : (o : Ordering) → ordering_then o (slice_cmp nat_cmp front (take (length front) answer)) ≡ Greater
        → (slice_cmp nat_cmp front (take (length front) answer) ≡ Greater → slice_cmp nat_cmp (front ++ rest) answer ≡ Greater)
        → ordering_then o (slice_cmp nat_cmp (front ++ rest) answer) ≡ Greater
    split Less h more = cc
    split Equal h more = more h
    split Greater h more = refl

-- a pair that is at most another is smaller or the same
less_or_same : (a b : Pair) → IsAtMost a b → IsLess a b ⊎ (a ≡ b)
less_or_same a b most = split (is_less a b) refl
  where
    split : (o : Bool) → is_less a b ≡ o → IsLess a b ⊎ (a ≡ b)
    split true e = inl (less-from a b e)
    split false e = inr (same_from_at_most a b most (not_less a b e))

-- nothing is before itself
not_before : (xs : List ℕ) → slice_cmp nat_cmp xs xs ≡ Less → ⊥
not_before xs h = let e : Less ≡ Greater = sym h ∙ nat_list_cmp_total.antisymm xs xs ∙ ap ordering_reverse h in cc

-- nothing is after itself
not_after : (xs : List ℕ) → slice_cmp nat_cmp xs xs ≡ Greater → ⊥
not_after xs h = let e : Greater ≡ Less = sym h ∙ nat_list_cmp_total.antisymm xs xs ∙ ap ordering_reverse h in cc

-- when a prefix may be left out, in the words of the law of `nash_bounds`
abbrev pub MayBeLeft : GoodsCase → List ℕ → List ℕ → Type 0
MayBeLeft case answer owners =
    IsLess (prefix_bound case owners) (pair_of case answer)
    ⊎ ((prefix_bound case owners ≡ pair_of case answer) × (slice_cmp nat_cmp owners (take (length owners) answer) ≡ Greater))

-- an allocation that begins with such a prefix is no better than the answer
below_behind : (case : GoodsCase) (answer front rest : List ℕ) → IsAtMost (pair_of case (front ++ rest)) (prefix_bound case front) → MayBeLeft case answer front → IsBehind case (front ++ rest) answer
below_behind case answer front rest most h = ⊎_elim
    (λ (less : IsLess (prefix_bound case front) (pair_of case answer)). inl (at_most_less (pair_of case (front ++ rest)) (prefix_bound case front) (pair_of case answer) most less))
    (λ (same : (prefix_bound case front ≡ pair_of case answer) × (slice_cmp nat_cmp front (take (length front) answer) ≡ Greater)).
    let after = after_front front rest answer same.1 in
    ⊎_elim
    (λ (less : IsLess (pair_of case (front ++ rest)) (pair_of case answer)). inl less)
    (λ (e : pair_of case (front ++ rest) ≡ pair_of case answer). inr (e, λ less. let f : Less ≡ Greater = sym less ∙ after in cc))
    (less_or_same (pair_of case (front ++ rest)) (pair_of case answer) (subst (IsAtMost (pair_of case (front ++ rest))) same.0 most)))
    h

-- the front of the answer itself may not be left out
pub front_not_left : (case : GoodsCase) (answer front rest : List ℕ) → answer ≡ front ++ rest → IsAtMost (pair_of case (front ++ rest)) (prefix_bound case front) → MayBeLeft case answer front → ⊥
front_not_left case answer front rest is most h = ⊎_elim
    (λ (less : IsLess (prefix_bound case front) (pair_of case answer)).
    less_not (prefix_bound case front) (pair_of case answer) less (subst (λ xs. IsAtMost (pair_of case xs) (prefix_bound case front)) (sym is) most))
    (λ (same : (prefix_bound case front ≡ pair_of case answer) × (slice_cmp nat_cmp front (take (length front) answer) ≡ Greater)).
    let own : take (length front) answer ≡ front = ap (take (length front)) is ∙ take-append-le (length front) front rest (at_most (length front)) ∙ take_all (length front) front (at_most (length front)) in
    let itself : slice_cmp nat_cmp front front ≡ Greater = subst (λ xs. slice_cmp nat_cmp front xs ≡ Greater) own same.1 in
    not_after front itself)
    h
  where
    at_most : (n : ℕ) → n ≤ n
    at_most n = omega arith

-- the three rules on leaves together
abbrev Leaves : GoodsCase → List ℕ → List ℕ → ℕ → Type 0
Leaves case answer = Both (Both (leaf_rule case answer 4) (leaf_rule case answer 5)) (leaf_rule case answer 6)

-- the trees of the three rules are one tree
joined : (case : GoodsCase) (answer marks : List ℕ) → IsRuledTree case answer 4 marks → IsRuledTree case answer 5 marks → IsRuledTree case answer 6 marks
    → IsTree (Leaves case answer) (player_count case) case.facts.goods marks
joined case answer marks a b d =
    let two = subtree_both (leaf_rule case answer 4) (leaf_rule case answer 5) (player_count case) case.facts.goods [] marks [] [] a b in
    (subtree_both (Both (leaf_rule case answer 4) (leaf_rule case answer 5)) (leaf_rule case answer 6) (player_count case) case.facts.goods [] marks [] [] two.0 d).0

-- the answer of a tree that keeps the rules is best
pub tree_best : (case : GoodsCase) (answer marks : List ℕ)
    → ((case : GoodsCase) (owners rest : List ℕ) → IsValidGoodsCase case → IsAllocation case (owners ++ rest) → IsAtMost (pair_of case (owners ++ rest)) (prefix_bound case owners))
    → ((case : GoodsCase) (answer owners : List ℕ) → may_be_left case answer owners ≡ true ↔ MayBeLeft case answer owners)
    → IsValidGoodsCase case → IsAllocation case answer → IsRuledTree case answer 4 marks → IsRuledTree case answer 5 marks → IsRuledTree case answer 6 marks → GoodsBest case answer
tree_best case answer marks below left valid allocation a b d = record {
  allocation = allocation;
  best = λ others h. behind others h;
}
  where
    stands : (front : List ℕ) → Leaves case answer front 45 → may_be_left case answer front ≡ true
    stands front leaf = ⊎_elim
        (λ (l : length front < case.facts.goods). leaf.0.0 refl l)
        (λ (full : case.facts.goods ≤ length front). leaf.0.1 refl full)
        (cases_lt (length front) case.facts.goods)

    cut : (front xs : List ℕ) → Leaves case answer front 45 → IsAllocation case (front ++ xs) → IsBehind case (front ++ xs) answer
    cut front xs leaf whole = below_behind case answer front xs (below case front xs valid whole) ((left case answer front).0 (stands front leaf))

    behind : (others : List ℕ) → IsAllocation case others → IsBehind case others answer
    behind others h = tree_covers (Leaves case answer) (λ xs. IsAllocation case xs → IsBehind case xs answer) (player_count case) case.facts.goods marks
        (record {
          cut = λ front xs leaf. cut front xs leaf;
          answer = λ front leaf whole. subst (λ xs. IsBehind case xs answer) (sym (leaf.1 refl)) (inr (refl, not_before answer));
        }) (joined case answer marks a b d) others h.each h.owned h
