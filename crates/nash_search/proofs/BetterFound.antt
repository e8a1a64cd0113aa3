-- The better of two that are best among some.
use Rattle.std.proofs.Common.{◌≡◌, ℕ, List, [], ◌++◌, Ordering, Bool, true, false, not, ◌↔◌, Option, Some, None, arith, refl, sym, ap, ◌∙◌, subst, inl, inr}
use Rattle.std.specs.Option.{option_to_list}
use Rattle.std.specs.Cmp.Lexicographic.{slice_cmp}
use Rattle.std.specs.Ordering.{nat_cmp, ordering_reverse}
use Rattle.std.specs.declared.cmp.Ordering.TheVariants.{Less, Equal, Greater}
use Rattle.std.proofs.lemmas.Cmp.{nat_list_cmp_total, tied_itself}
use Rattle.std.proofs.lemmas.Map.Lookups.{exact_bytes}
use Rattle.std.proofs.lemmas.List.Elements.{All-append, All-cons, All-nil, All-weaker, Contains-append_left, Contains-append_right}
use Rattle.bid_rules.specs.declared.goods.GoodsCase.{GoodsCase}
use Rattle.bid_rules.specs.declared.pair.Pair.{Pair}
use Rattle.bid_rules.specs.Goods.{IsBehind, pair_of}
use Rattle.bid_rules.specs.Pairs.{IsLess}
use Rattle.split_lemmas.proofs.PairOrder.{less_at_most, less_through}
use Rattle.nash_search.specs.Best.{IsFoundBest, IsKept, list_of}
use Rattle.nash_search.specs.declared.found.Found.{Found}

-- not before one that is not before a third
not_before : (a b d : List ℕ) → (slice_cmp nat_cmp a b ≡ Less → ⊥) → (slice_cmp nat_cmp b d ≡ Less → ⊥) → slice_cmp nat_cmp a d ≡ Less → ⊥
not_before a b d h k l = go (slice_cmp nat_cmp b d) refl
  where
    go : (o : Ordering) → slice_cmp nat_cmp b d ≡ o → ⊥
    go Less e = k e
    go Equal e = h (subst (λ x. slice_cmp nat_cmp a x ≡ Less) (sym (exact_bytes b d e)) l)
    go Greater e = h (nat_list_cmp_total.trans a d b l (nat_list_cmp_total.antisymm d b ∙ ap ordering_reverse e))

-- two lists are not before each other
both_before : (a b : List ℕ) → slice_cmp nat_cmp a b ≡ Less → slice_cmp nat_cmp b a ≡ Less → ⊥
both_before a b h k = let e : slice_cmp nat_cmp b a ≡ Greater = nat_list_cmp_total.antisymm b a ∙ ap ordering_reverse h in let f : Less ≡ Greater = sym k ∙ e in cc

-- where two have the same pair and the first comes before, the second is no better
pub same_ahead : (case : GoodsCase) (a b : Found) (before : Bool) → before ≡ true ↔ slice_cmp nat_cmp a.list.items b.list.items ≡ Less → a.pair ≡ b.pair → a.pair ≡ pair_of case a.list.items → b.pair ≡ pair_of case b.list.items
    → not before ≡ false → IsBehind case b.list.items a.list.items
same_ahead case a b before is same own other h = inr (sym other ∙ sym same ∙ own, both_before a.list.items b.list.items (is.0 (yes_before before h)))
  where
    yes_before : (t : Bool) → not t ≡ false → t ≡ true
    yes_before true e = refl
    yes_before false e = cc

-- where the first is no better than the second, and the second is no better than a third, the first is no better than the third
behind_trans : (case : GoodsCase) (a b d : List ℕ) → IsBehind case a b → IsBehind case b d → IsBehind case a d
behind_trans case a b d (inl l) (inl m) = inl (less_through (pair_of case a) (pair_of case b) (pair_of case d) l (less_at_most (pair_of case b) (pair_of case d) m))
behind_trans case a b d (inl l) (inr f) = inl (subst (λ (p : Pair). IsLess (pair_of case a) p) f.0 l)
behind_trans case a b d (inr e) (inl m) = inl (subst (λ (p : Pair). IsLess p (pair_of case d)) (sym e.0) m)
behind_trans case a b d (inr e) (inr f) = inr (e.0 ∙ f.0, not_before a b d e.1 f.1)

-- the second is kept where the first is no better
pub second_kept : (case : GoodsCase) (xs ys : List (List ℕ)) (a b : Found) → IsFoundBest case xs (Some a) → IsFoundBest case ys (Some b) → IsBehind case a.list.items b.list.items → IsFoundBest case (xs ++ ys) (Some b)
second_kept case xs ys a b one two behind = record {
  best = (
    Contains-append_right xs ys b.list.items two.best.0,
    All-append (λ x. IsBehind case x b.list.items) xs ys
        (All-weaker (λ x. IsBehind case x a.list.items) (λ x. IsBehind case x b.list.items) (λ x h. behind_trans case x a.list.items b.list.items h behind) xs one.best.1) two.best.1,
  );
  pair = two.pair;
}

-- the first is kept where the second is no better
pub first_kept : (case : GoodsCase) (xs ys : List (List ℕ)) (a b : Found) → IsFoundBest case xs (Some a) → IsFoundBest case ys (Some b) → IsBehind case b.list.items a.list.items → IsFoundBest case (xs ++ ys) (Some a)
first_kept case xs ys a b one two behind = record {
  best = (
    Contains-append_left xs ys a.list.items one.best.0,
    All-append (λ x. IsBehind case x a.list.items) xs ys one.best.1
        (All-weaker (λ x. IsBehind case x b.list.items) (λ x. IsBehind case x a.list.items) (λ x h. behind_trans case x b.list.items a.list.items h behind) ys two.best.1),
  );
  pair = one.pair;
}

-- one allocation is the best of itself
pub own_best : (case : GoodsCase) (found : Option Found) → IsKept case found → IsFoundBest case (option_to_list (list_of found)) found
own_best case None h = record { best = refl; pair = tt }
own_best case (Some a) h = record {
  best = (
    (0, omega arith, refl),
    All-cons (λ x. IsBehind case x a.list.items) a.list.items [] (inr (refl, λ e. let t = tied_itself nat_list_cmp_total a.list.items in absurd (cc))) (All-nil (λ x. IsBehind case x a.list.items)),
  );
  pair = h;
}
