-- A tree that keeps several rules keeps them together.
use Rattle.std.proofs.Common.{◌≡◌, ℕ, zero, suc, List, [], ◌∷◌, ◌++◌, arith, sym, ◌∙◌, subst, ⊎_elim, inl, inr}
use Rattle.std.specs.List.{range_with_len}
use Rattle.goods_rules.specs.Tree.{Children, Subtree}

-- both rules on leaves
abbrev pub Both : (List ℕ → ℕ → Type 0) → (List ℕ → ℕ → Type 0) → List ℕ → ℕ → Type 0
Both p q prefix mark = p prefix mark × q prefix mark

-- subtrees of children under two rules are subtrees under both
children_both : (walk other joint : List ℕ → List ℕ → List ℕ → Type 0) → ((prefix marks r s : List ℕ) → walk prefix marks r → other prefix marks s → joint prefix marks r × (r ≡ s))
    → (prefix owners marks r s : List ℕ) → Children walk prefix owners marks r → Children other prefix owners marks s → Children joint prefix owners marks r × (r ≡ s)
children_both walk other joint both prefix [] marks r s a b = (a, a ∙ sym b)
children_both walk other joint both prefix (o ∷ os) marks r s (m, w, ws) (k, v, vs) =
    let one = both (prefix ++ o ∷ []) marks m k w v in
    let more = children_both walk other joint both prefix os m r s ws (subst (λ x. Children other prefix os x s) (sym one.1) vs) in
    ((m, one.0, more.0), more.1)

-- a subtree under two rules is one under both
pub subtree_both : (p q : List ℕ → ℕ → Type 0) (n d : ℕ) (prefix marks r s : List ℕ) → Subtree p n d prefix marks r → Subtree q n d prefix marks s → Subtree (Both p q) n d prefix marks r × (r ≡ s)
subtree_both p q n zero prefix [] r s a b = absurd a
subtree_both p q n zero prefix (m ∷ ms) r s a b = ((a.0, (a.1, b.1), a.2), a.2 ∙ sym b.2)
subtree_both p q n (suc d) prefix [] r s a b = absurd a
subtree_both p q n (suc d) prefix (m ∷ ms) r s a b = ⊎_elim
    (λ x. ⊎_elim
    (λ y. (inl (x.0, (x.1, y.1), x.2), x.2 ∙ sym y.2))
    (λ y. absurd (let e = x.0 in let f = y.0 in omega arith))
    b)
    (λ x. ⊎_elim
    (λ y. absurd (let e = x.0 in let f = y.0 in omega arith))
    (λ y.
    let kids = children_both (Subtree p n d) (Subtree q n d) (Subtree (Both p q) n d) (subtree_both p q n d) prefix (range_with_len 1 n) ms r s x.1 y.1 in
    (inr (x.0, kids.0), kids.1))
    b)
    a
