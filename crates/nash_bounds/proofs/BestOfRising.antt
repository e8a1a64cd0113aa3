-- The best of a rising list of allocations is best among all of them, and the first of equals.
use Rattle.bid_rules.specs.Goods.{pair_of, IsBehind}
use Rattle.std.proofs.Common.{◌≡◌, ℕ, List, [], ◌∷◌, fold, cond, Bool, true, false, Option, Some, None, arith, refl, sym, ◌∙◌, subst, ◌⊎◌, inl, inr, All, IfSome}
use Rattle.std.proofs.lemmas.List.Elements.{All-nil, All-cons, All-head, All-tail}
use Rattle.std.proofs.lemmas.Bool.Decides.{nat_tests}
use Rattle.std.proofs.lemmas.Cmp.{nat_list_cmp_total, tied_itself}
use Rattle.std.specs.Cmp.Lexicographic.{slice_cmp}
use Rattle.std.specs.Ordering.{nat_cmp}
use Rattle.std.specs.declared.cmp.Ordering.TheVariants.{Less}
use Rattle.bid_rules.specs.declared.goods.GoodsCase.{GoodsCase}
use Rattle.bid_rules.specs.declared.pair.Pair.{Pair}
use Rattle.bid_rules.specs.Pairs.{IsLess}
use Rattle.bid_rules.specs.Pairs.{is_less}
use Rattle.nash_bounds.specs.Allocations.{keep}
use Rattle.split_lemmas.proofs.PairOrder.{less-from, same_pair}

-- each list comes before all later ones
abbrev pub Rising : List (List ℕ) → Type 0
Rising [] = Unit {0}
Rising (x ∷ xs) = All (λ y. slice_cmp nat_cmp x y ≡ Less) xs × Rising xs

-- a pair that is not below another is above it or the same
not_less : (a x : Pair) → is_less a x ≡ false → IsLess x a ⊎ ((x.count ≡ a.count) × (x.product ≡ a.product))
not_less a x h = grind (arith, nat_tests)

-- a pair below one that is below a third is below the third
less_behind : (a x r : Pair) → IsLess a x → IsLess x r → IsLess a r
less_behind a x r h l = grind arith

-- an allocation is no better than itself
behind_itself : (case : GoodsCase) (a : List ℕ) → IsBehind case a a
behind_itself case a = inr (refl, λ h. let e = tied_itself nat_list_cmp_total a in absurd (cc))

-- where the first is below the second, and the second is no better than a third, the first is below the third
behind_through : (case : GoodsCase) (a x r : List ℕ) → IsLess (pair_of case a) (pair_of case x) → IsBehind case x r → IsLess (pair_of case a) (pair_of case r)
behind_through case a x r l (inl m) = less_behind (pair_of case a) (pair_of case x) (pair_of case r) l m
behind_through case a x r l (inr e) = subst (λ (p : Pair). IsLess (pair_of case a) p) e.0 l

-- one after the best so far that is not better
behind_after : (case : GoodsCase) (a x r : List ℕ) → IsLess (pair_of case x) (pair_of case a) ⊎ (((pair_of case x).count ≡ (pair_of case a).count) × ((pair_of case x).product ≡ (pair_of case a).product))
    → slice_cmp nat_cmp a x ≡ Less → IsBehind case a r → IsBehind case x r
behind_after case a x r (inl l) b h = inl (behind_through case x a r l h)
behind_after case a x r (inr e) b (inl m) = inl (subst (λ (p : Pair). IsLess p (pair_of case r)) (sym (same_pair (pair_of case x) (pair_of case a) e.0 e.1)) m)
behind_after case a x r (inr e) b (inr f) = inr (same_pair (pair_of case x) (pair_of case a) e.0 e.1 ∙ f.0, λ g. f.1 (nat_list_cmp_total.trans a x r b g))

-- the one that is kept at the end: neither the first nor any other is better
abbrev pub Wins : GoodsCase → List ℕ → List (List ℕ) → List ℕ → Type 0
Wins case acc xs r = (fold (keep case) (Some acc) xs ≡ Some r) × IsBehind case acc r × All (λ x. IsBehind case x r) xs

-- in a rising list whose entries come after the one that is kept, what is kept at the end is best
pub first_of : (case : GoodsCase) (acc : List ℕ) (xs : List (List ℕ)) → All (λ y. slice_cmp nat_cmp acc y ≡ Less) xs → Rising xs → (r : List ℕ) × Wins case acc xs r
first_of case acc [] a s = (acc, (refl, behind_itself case acc, All-nil (λ x. IsBehind case x acc)))
first_of case acc (x ∷ xs) a s =
    let B : List ℕ → Type 0 = λ y. slice_cmp nat_cmp acc y ≡ Less in
    go (is_less (pair_of case acc) (pair_of case x)) refl (All-head B x xs a) (first_of case x xs s.0 s.1) (first_of case acc xs (All-tail B x xs a) s.1)
  where
    go : (t : Bool) → is_less (pair_of case acc) (pair_of case x) ≡ t → slice_cmp nat_cmp acc x ≡ Less → ((r : List ℕ) × Wins case x xs r) → ((r : List ℕ) × Wins case acc xs r)
        → (r : List ℕ) × ((fold (keep case) (cond t (Some x) (Some acc)) xs ≡ Some r) × IsBehind case acc r × All (λ y. IsBehind case y r) (x ∷ xs))
    go true h b one two =
        let r = one.0 in
        let w = one.1 in
        (r, (w.0, inl (behind_through case acc x r (less-from (pair_of case acc) (pair_of case x) h) w.1), All-cons (λ y. IsBehind case y r) x xs w.1 w.2))
    go false h b one two =
        let r = two.0 in
        let w = two.1 in
        (r, (w.0, w.1, All-cons (λ y. IsBehind case y r) x xs (behind_after case acc x r (not_less (pair_of case acc) (pair_of case x) h) b w.1) w.2))

-- the best of a whole rising list
pub best_of_rising : (case : GoodsCase) (xs : List (List ℕ)) (r : List ℕ) → Rising xs → fold (keep case) None xs ≡ Some r → All (λ x. IsBehind case x r) xs
best_of_rising case [] r s e = All-nil (λ x. IsBehind case x r)
best_of_rising case (x ∷ xs) r s e =
    let found = first_of case x xs s.0 s.1 in
    let same : found.0 ≡ r = (let w : fold (keep case) (Some x) xs ≡ Some found.0 = found.1.0 in let v : fold (keep case) (Some x) xs ≡ Some r = e in cc) in
    subst (λ (q : List ℕ). All (λ y. IsBehind case y q) (x ∷ xs)) same (All-cons (λ y. IsBehind case y found.0) x xs found.1.1 found.1.2)

-- what holds of all holds of the best
pub best_is : (case : GoodsCase) (P : List ℕ → Type 0) (xs : List (List ℕ)) (old : Option (List ℕ)) (r : List ℕ) → All P xs → IfSome old P → fold (keep case) old xs ≡ Some r → P r
best_is case P [] None r a h e = absurd (cc)
best_is case P [] (Some o) r a h e = (let s : o ≡ r = cc in subst P s h)
best_is case P (x ∷ xs) None r a h e = best_is case P xs (Some x) r (All-tail P x xs a) (All-head P x xs a) e
best_is case P (x ∷ xs) (Some o) r a h e = best_is case P xs (cond (is_less (pair_of case o) (pair_of case x)) (Some x) (Some o)) r (All-tail P x xs a) (one (is_less (pair_of case o) (pair_of case x))) e
  where
    one : (t : Bool) → IfSome (cond t (Some x) (Some o)) P
    one true = All-head P x xs a
    one false = h

-- where something has been kept, something stays
pub first_kept : (case : GoodsCase) (x : List ℕ) (xs : List (List ℕ)) → fold (keep case) (Some x) xs ≡ None → ⊥
first_kept case x [] e = absurd (cc)
first_kept case x (y ∷ ys) e = go (is_less (pair_of case x) (pair_of case y)) e (first_kept case y ys) (first_kept case x ys)
  where
    go : (t : Bool) → fold (keep case) (cond t (Some y) (Some x)) ys ≡ None → (fold (keep case) (Some y) ys ≡ None → ⊥) → (fold (keep case) (Some x) ys ≡ None → ⊥) → ⊥
    go true h one two = one h
    go false h one two = two h
