-- How a path walks a tree: one mark at a node, and what is to come after it.
use Rattle.std.proofs.Common.{◌≡◌, ℕ, zero, suc, ◌+◌, ◌-◌, ◌<◌, ◌≤◌, List, [], ◌∷◌, ◌++◌, length, reverse, arith, refl, sym, ap, ◌∙◌, subst, ⊎_elim, ◌⊎◌, inl, inr, ◌≢◌, ◌↔◌, Bool, true, false, IsTrue}
use Rattle.std.proofs.lemmas.List.{reverse-append, length-reverse}
use Rattle.std.specs.List.{range_with_len}
use Rattle.goods_rules.specs.Ahead.{FinishesBehind, FinishesAt, FinishesTree}
use Rattle.goods_rules.specs.Tree.{Children, Subtree}

-- a list back to front, from its first element
reverse_cons : (x : ℕ) (xs : List ℕ) → reverse (x ∷ xs) ≡ reverse xs ++ x ∷ []
reverse_cons x xs = reverse-append (x ∷ []) xs

-- the path of a node that is the next: `+` goes down to its first child
pub plus_down : (leaf : List ℕ → ℕ → Type 0) (n g : ℕ) (path marks : List ℕ) → 1 ≤ n → length path < g → FinishesAt leaf n g path (43 ∷ marks) → FinishesAt leaf n g (1 ∷ path) marks
plus_down leaf n g path marks some low (rest, walk, after) =
    let r : ℕ = g - suc (length path) in
    let deep : g - length path ≡ suc r = omega arith in
    let kids : Children (Subtree leaf n r) (reverse path) (range_with_len 1 n) marks rest = opened r (subst (λ d. Subtree leaf n d (reverse path) (43 ∷ marks) rest) deep walk) in
    let m : ℕ = n - 1 in
    let more : n ≡ suc m = omega arith in
    let first : (middle : List ℕ) × Subtree leaf n r (reverse path ++ 1 ∷ []) marks middle × Children (Subtree leaf n r) (reverse path) (range_with_len 2 m) middle rest =
    subst (λ k. Children (Subtree leaf n r) (reverse path) (range_with_len 1 k) marks rest) more kids in
    (first.0, subst (λ xs. Subtree leaf n r xs marks first.0) (sym (reverse_cons 1 path)) first.1, (rest, first.2, after))
  where
    opened : (r : ℕ) → Subtree leaf n (suc r) (reverse path) (43 ∷ marks) rest → Children (Subtree leaf n r) (reverse path) (range_with_len 1 n) marks rest
    opened r h = ⊎_elim (λ a. absurd (let no : 43 ≡ 45 = a.0 in omega arith)) (λ b. b.1) h

-- a leaf is as the rule asks, and its node was read whole
pub leaf_up : (leaf : List ℕ → ℕ → Type 0) (n g mark : ℕ) (path marks : List ℕ) → mark ≢ 43 → FinishesAt leaf n g path (mark ∷ marks) → leaf (reverse path) mark × FinishesBehind leaf n g path marks
leaf_up leaf n g mark path marks other (rest, walk, after) = closed (g - length path) walk
  where
    closed : (r : ℕ) → Subtree leaf n r (reverse path) (mark ∷ marks) rest → leaf (reverse path) mark × FinishesBehind leaf n g path marks
    closed zero h = (h.1, subst (FinishesBehind leaf n g path) h.2 after)
    closed (suc r) h = ⊎_elim (λ a. (a.1, subst (FinishesBehind leaf n g path) a.2 after)) (λ b. absurd (other b.0)) h

-- after a node that was read whole, its next sibling comes
pub sibling_next : (leaf : List ℕ → ℕ → Type 0) (n g owner : ℕ) (up marks : List ℕ) → owner < n → FinishesBehind leaf n g (owner ∷ up) marks → FinishesAt leaf n g ((owner + 1) ∷ up) marks
sibling_next leaf n g owner up marks low (rest, kids, after) =
    let r : ℕ = g - suc (length up) in
    let m : ℕ = n - (owner + 1) in
    let more : n - owner ≡ suc m = omega arith in
    let first : (middle : List ℕ) × Subtree leaf n r (reverse up ++ (owner + 1) ∷ []) marks middle × Children (Subtree leaf n r) (reverse up) (range_with_len (owner + 1 + 1) m) middle rest =
    subst (λ k. Children (Subtree leaf n r) (reverse up) (range_with_len (owner + 1) k) marks rest) more kids in
    (first.0, subst (λ xs. Subtree leaf n r xs marks first.0) (sym (reverse_cons (owner + 1) up)) first.1, (rest, first.2, after))

-- or, after the last one, its parent was read whole
pub parent_done : (leaf : List ℕ → ℕ → Type 0) (n g owner : ℕ) (up marks : List ℕ) → n ≤ owner → FinishesBehind leaf n g (owner ∷ up) marks → FinishesBehind leaf n g up marks
parent_done leaf n g owner up marks last (rest, kids, after) =
    let none : n - owner ≡ 0 = omega arith in
    subst (FinishesBehind leaf n g up) (let e : rest ≡ marks = subst (λ k. Children (Subtree leaf n (g - suc (length up))) (reverse up) (range_with_len (owner + 1) k) marks rest) none kids in e) after

-- and back: what is to come at the first child is what is to come at the node, with its `+`
pub down_back : (leaf : List ℕ → ℕ → Type 0) (n g : ℕ) (path marks : List ℕ) → 1 ≤ n → length path < g → FinishesAt leaf n g (1 ∷ path) marks → FinishesAt leaf n g path (43 ∷ marks)
down_back leaf n g path marks some low (middle, walk, (rest, kids, after)) =
    let r : ℕ = g - suc (length path) in
    let deep : suc r ≡ g - length path = omega arith in
    let m : ℕ = n - 1 in
    let more : suc m ≡ n = omega arith in
    let all : Children (Subtree leaf n r) (reverse path) (range_with_len 1 (suc m)) marks rest = (middle, subst (λ xs. Subtree leaf n r xs marks middle) (reverse_cons 1 path) walk, kids) in
    let node : Subtree leaf n (suc r) (reverse path) (43 ∷ marks) rest = inr (refl, subst (λ k. Children (Subtree leaf n r) (reverse path) (range_with_len 1 k) marks rest) more all) in
    (rest, subst (λ d. Subtree leaf n d (reverse path) (43 ∷ marks) rest) deep node, after)

-- what is to come at a leaf: the leaf as the rule asks, then what is to come after its node
pub leaf_back : (leaf : List ℕ → ℕ → Type 0) (n g mark : ℕ) (path marks : List ℕ) → ((mark ≡ 45) ⊎ ((mark ≡ 61) × (g ≤ length path))) → leaf (reverse path) mark → FinishesBehind leaf n g path marks → FinishesAt leaf n g path (mark ∷ marks)
leaf_back leaf n g mark path marks kind is after = (marks, at (g - length path) refl kind, after)
  where
    at : (r : ℕ) → r ≡ g - length path → ((mark ≡ 45) ⊎ ((mark ≡ 61) × (g ≤ length path))) → Subtree leaf n r (reverse path) (mark ∷ marks) marks
    at zero e k = (⊎_elim (λ a. inl a) (λ b. inr b.0) k, is, refl)
    at (suc r) e k = ⊎_elim (λ a. inl (a, is, refl)) (λ b. absurd (let full = b.1 in omega arith)) k

-- what is to come at a node is what is to come after the sibling before it
pub next_back : (leaf : List ℕ → ℕ → Type 0) (n g owner : ℕ) (up marks : List ℕ) → owner < n → FinishesAt leaf n g ((owner + 1) ∷ up) marks → FinishesBehind leaf n g (owner ∷ up) marks
next_back leaf n g owner up marks low (middle, walk, (rest, kids, after)) =
    let r : ℕ = g - suc (length up) in
    let m : ℕ = n - (owner + 1) in
    let more : suc m ≡ n - owner = omega arith in
    let all : Children (Subtree leaf n r) (reverse up) (range_with_len (owner + 1) (suc m)) marks rest = (middle, subst (λ xs. Subtree leaf n r xs marks middle) (reverse_cons (owner + 1) up) walk, kids) in
    (rest, subst (λ k. Children (Subtree leaf n r) (reverse up) (range_with_len (owner + 1) k) marks rest) more all, after)

-- and what is to come after a node is what is to come after its last child
pub parent_back : (leaf : List ℕ → ℕ → Type 0) (n g owner : ℕ) (up marks : List ℕ) → n ≤ owner → FinishesBehind leaf n g up marks → FinishesBehind leaf n g (owner ∷ up) marks
parent_back leaf n g owner up marks last after =
    let none : 0 ≡ n - owner = omega arith in
    (marks, subst (λ k. Children (Subtree leaf n (g - suc (length up))) (reverse up) (range_with_len (owner + 1) k) marks marks) none refl, after)

-- a mark that cannot come at a node
pub no_mark : (leaf : List ℕ → ℕ → Type 0) (n g mark : ℕ) (path marks : List ℕ) → (mark ≡ 45 → ⊥) → (mark ≡ 61 → length path < g) → (mark ≡ 43 → g ≤ length path) → FinishesAt leaf n g path (mark ∷ marks) → ⊥
no_mark leaf n g mark path marks minus equals plus (rest, walk, after) = at (g - length path) refl walk
  where
    at : (r : ℕ) → r ≡ g - length path → Subtree leaf n r (reverse path) (mark ∷ marks) rest → ⊥
    at zero e h = ⊎_elim minus (λ b. let low = equals b in omega arith) h.0
    at (suc r) e h = ⊎_elim (λ a. minus a.0) (λ b. let high = plus b.0 in omega arith) h

-- where a node comes next, some mark is to come
pub no_end : (leaf : List ℕ → ℕ → Type 0) (n g : ℕ) (path : List ℕ) → FinishesAt leaf n g path [] → ⊥
no_end leaf n g path (rest, walk, after) = at (g - length path) walk
  where
    at : (r : ℕ) → Subtree leaf n r (reverse path) [] rest → ⊥
    at zero h = h
    at (suc r) h = h

-- a list back to front, from its last element
pub reverse_push : (xs : List ℕ) (x : ℕ) → reverse (xs ++ x ∷ []) ≡ x ∷ reverse xs
reverse_push xs x = reverse-append xs (x ∷ [])

-- after a last child, its parent was read whole, too
pub climb_step : (leaf : List ℕ → ℕ → Type 0) (n g last : ℕ) (all front : List ℕ) → all ≡ front ++ last ∷ [] → n ≤ last → (marks : List ℕ) → FinishesBehind leaf n g (reverse all) marks ↔ FinishesBehind leaf n g (reverse front) marks
climb_step leaf n g last all front e full marks =
    let is : reverse all ≡ last ∷ reverse front = ap reverse e ∙ reverse_push front last in
    subst (λ p. FinishesBehind leaf n g p marks ↔ FinishesBehind leaf n g (reverse front) marks) (sym is)
    (parent_done leaf n g last (reverse front) marks full, parent_back leaf n g last (reverse front) marks full)

-- after a node with a later sibling, that sibling comes next
pub climb_next : (leaf : List ℕ → ℕ → Type 0) (n g last : ℕ) (all front : List ℕ) → all ≡ front ++ last ∷ [] → last < n → (marks : List ℕ) → FinishesBehind leaf n g (reverse all) marks ↔ FinishesAt leaf n g (reverse (front ++ (last + 1) ∷ [])) marks
climb_next leaf n g last all front e low marks =
    let is : reverse all ≡ last ∷ reverse front = ap reverse e ∙ reverse_push front last in
    let to : reverse (front ++ (last + 1) ∷ []) ≡ (last + 1) ∷ reverse front = reverse_push front (last + 1) in
    subst (λ p. FinishesBehind leaf n g p marks ↔ FinishesAt leaf n g (reverse (front ++ (last + 1) ∷ [])) marks) (sym is)
    (subst (λ p. FinishesBehind leaf n g (last ∷ reverse front) marks ↔ FinishesAt leaf n g p marks) (sym to)
    (sibling_next leaf n g last (reverse front) marks low, next_back leaf n g last (reverse front) marks low))

-- two equivalences in turn
pub both_ways : {P Q R : Type 0} → P ↔ Q → Q ↔ R → P ↔ R
both_ways a b = (λ p. b.0 (a.0 p), λ r. a.1 (b.1 r))

-- a list of no elements
pub empty_path : (xs : List ℕ) → length xs ≤ 0 → xs ≡ []
empty_path [] h = refl
empty_path (x ∷ xs) h = absurd (omega arith)

-- `+` at a node, by owners from the first to the last
pub mark_plus : (leaf : List ℕ → ℕ → Type 0) (n g : ℕ) (path longer : List ℕ) → longer ≡ path ++ 1 ∷ [] → 1 ≤ n → length path < g → (marks : List ℕ) → FinishesAt leaf n g (reverse path) (43 ∷ marks) ↔ FinishesAt leaf n g (reverse longer) marks
mark_plus leaf n g path longer e some low marks =
    let is : 1 ∷ reverse path ≡ reverse longer = sym (ap reverse e ∙ reverse_push path 1) in
    subst (λ p. FinishesAt leaf n g (reverse path) (43 ∷ marks) ↔ FinishesAt leaf n g p marks) is
    (plus_down leaf n g (reverse path) marks some (omega (arith, length-reverse path)), down_back leaf n g (reverse path) marks some (omega (arith, length-reverse path)))

-- no mark is to come just where the tree was read whole
pub end_state : (leaf : List ℕ → ℕ → Type 0) (n g : ℕ) (whole : Bool) (path marks : List ℕ) → marks ≡ [] → IsTrue whole ↔ FinishesTree leaf n g whole path marks
end_state leaf n g true path marks e = (λ h. e, λ h. refl)
end_state leaf n g false path marks e = (λ h. absurd (cc), λ h. absurd (no_end leaf n g (reverse path) (subst (λ m. FinishesAt leaf n g (reverse path) m) e h)))

-- what is to come of a tree that was not read whole
pub ahead_false : (leaf : List ℕ → ℕ → Type 0) (n g : ℕ) (whole : Bool) (path longer marks rest : List ℕ) → whole ≡ false → FinishesAt leaf n g (reverse path) marks ↔ FinishesAt leaf n g (reverse longer) rest → FinishesTree leaf n g whole path marks ↔ FinishesTree leaf n g whole longer rest
ahead_false leaf n g true path longer marks rest e h = absurd (cc)
ahead_false leaf n g false path longer marks rest e h = h
