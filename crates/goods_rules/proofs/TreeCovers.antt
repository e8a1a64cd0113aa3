-- A tree whose leaves are as the rules ask leaves no allocation out.
use Rattle.std.proofs.Common.{◌≡◌, ℕ, zero, suc, ◌+◌, ◌<◌, ◌≤◌, List, [], ◌∷◌, ◌++◌, length, arith, sym, subst, append_assoc, append-nil, ⊎_elim, length-append}
use Rattle.std.proofs.lemmas.Bool.{cases_lt}
use Rattle.std.proofs.lemmas.List.Elements.{All-head, All-tail}
use Rattle.std.specs.List.{range_with_len}
use Rattle.nash_bounds.specs.OwnerLists.{ArePlayers}
use Rattle.goods_rules.specs.Tree.{Children, IsTree, Subtree}

-- a rule on leaves under which no allocation below a leaf is better than the answer
pub record Covers (leaf : List ℕ → ℕ → Type 0) (fine : List ℕ → Type 0) : Type 0 where
  pub cut : (prefix xs : List ℕ) → leaf prefix 45 → fine (prefix ++ xs)
  pub answer : (prefix : List ℕ) → leaf prefix 61 → fine prefix

-- each child of a node has its subtree
child : (walk : List ℕ → List ℕ → List ℕ → Type 0) (prefix : List ℕ) (k a : ℕ) (marks rest : List ℕ) (owner : ℕ) → a ≤ owner → owner < a + k → Children walk prefix (range_with_len a k) marks rest
    → (from : List ℕ) × (to : List ℕ) × walk (prefix ++ owner ∷ []) from to
child walk prefix zero a marks rest owner low high h = absurd (omega arith)
child walk prefix (suc k) a marks rest owner low high (middle, first, others) = ⊎_elim
    (λ (l : a < owner). child walk prefix k (a + 1) middle rest owner (omega arith) (omega arith) others)
    (λ (e : owner ≤ a). (marks, middle, subst (λ o. walk (prefix ++ o ∷ []) marks middle) (let is : a ≡ owner = omega arith in is) first))
    (cases_lt a owner)

-- a subtree whose leaves are as the rules ask says of every allocation that begins with its prefix that it is no better
pub subtree_covers : (leaf : List ℕ → ℕ → Type 0) (fine : List ℕ → Type 0) (n g r : ℕ) (prefix marks rest xs : List ℕ) → Covers leaf fine → Subtree leaf n r prefix marks rest
    → length prefix + r ≡ g → length xs ≡ r → ArePlayers n xs → fine (prefix ++ xs)
subtree_covers leaf fine n g zero prefix [] rest xs c h e long players = absurd h
subtree_covers leaf fine n g zero prefix (mark ∷ marks) rest [] c (kind, is, end) e long players = ⊎_elim
    (λ (m : mark ≡ 45). c.cut prefix [] (subst (leaf prefix) m is))
    (λ (m : mark ≡ 61). subst fine (sym (append-nil prefix)) (c.answer prefix (subst (leaf prefix) m is)))
    kind
subtree_covers leaf fine n g zero prefix (mark ∷ marks) rest (x ∷ xs) c h e long players = absurd (omega arith)
subtree_covers leaf fine n g (suc r) prefix [] rest xs c h e long players = absurd h
subtree_covers leaf fine n g (suc r) prefix (mark ∷ marks) rest [] c h e long players = absurd (omega arith)
subtree_covers leaf fine n g (suc r) prefix (mark ∷ marks) rest (x ∷ xs) c h e long players = ⊎_elim
    (λ a. c.cut prefix (x ∷ xs) (subst (leaf prefix) a.0 a.1))
    (λ b.
    let owner = All-head (λ (o : ℕ). (1 ≤ o) × (o ≤ n)) x xs players in
    let low = owner.0 in
    let high = owner.1 in
    let one = child (Subtree leaf n r) prefix n 1 marks rest x low (omega arith) b.1 in
    let longer : length (prefix ++ x ∷ []) + r ≡ g = omega (arith, length-append prefix (x ∷ [])) in
    subst fine (append_assoc prefix (x ∷ []) xs) (subtree_covers leaf fine n g r (prefix ++ x ∷ []) one.0 one.1 xs c one.2 longer (omega arith) (All-tail (λ (o : ℕ). (1 ≤ o) × (o ≤ n)) x xs players)))
    h

-- a tree says of every allocation that it is no better
pub tree_covers : (leaf : List ℕ → ℕ → Type 0) (fine : List ℕ → Type 0) (n g : ℕ) (marks : List ℕ) → Covers leaf fine → IsTree leaf n g marks → (xs : List ℕ) → length xs ≡ g → ArePlayers n xs → fine xs
tree_covers leaf fine n g marks c h xs long players = subtree_covers leaf fine n g g [] marks [] xs c h (omega arith) long players
