-- How a walk goes through a tree: one node, and what is to come after it.
use Rattle.std.proofs.Common.{◌≡◌, ℕ, zero, suc, ◌+◌, ◌-◌, ◌<◌, ◌≤◌, List, [], ◌∷◌, ◌++◌, All, length, reverse, take, drop, arith, refl, sym, ap, ◌∙◌, subst, ⊎_elim, inl, inr, ◌↔◌, Bool, true, false, IsTrue, append-nil, append_assoc, length-append}
use Rattle.std.proofs.lemmas.List.{reverse-append, length-reverse, reverse-reverse, take-append-drop, take-append-le, take_all, length-take-le, length-drop}
use Rattle.std.proofs.lemmas.List.Elements.{All-head, All-tail}
use Rattle.std.specs.List.{range_with_len}
use Rattle.prefix_trees.specs.Ahead.{FinishesBehind, FinishesAt, FinishesTree, IsNextAfter}
use Rattle.prefix_trees.specs.Tree.{Children, IsTree, Subtree}

-- a list back to front, from its first element
reverse_cons : {X : Type 0} (x : X) (xs : List X) → reverse (x ∷ xs) ≡ reverse xs ++ x ∷ []
reverse_cons x xs = reverse-append (x ∷ []) xs

-- and from its last element
reverse_push : {X : Type 0} (xs : List X) (x : X) → reverse (xs ++ x ∷ []) ≡ x ∷ reverse xs
reverse_push xs x = reverse-append xs (x ∷ [])

-- two equivalences in turn
pub both_ways : {P Q R : Type 0} → P ↔ Q → Q ↔ R → P ↔ R
both_ways a b = (λ p. b.0 (a.0 p), λ r. a.1 (b.1 r))

-- the children of a node with so many goods behind them
abbrev Kids : {N : Type 0} → (N → Type 0) → (List ℕ → List N → N → Type 0) → ℕ → ℕ → List ℕ → List N → ℕ → List N → List N → Type 0
Kids inner leaf n g prefix above owner = Subtree inner leaf n g (prefix ++ owner ∷ []) above

-- an inner node goes down to its first child
down : {N : Type 0} (inner : N → Type 0) (leaf : List ℕ → List N → N → Type 0) (n g : ℕ) (path : List ℕ) (tops : List N) (node : N) (nodes : List N) → 1 ≤ n → length path < g → inner node
    → FinishesAt inner leaf n g path tops (node ∷ nodes) → FinishesAt inner leaf n g (1 ∷ path) (node ∷ tops) nodes
down {N = N} inner leaf n g path tops node nodes some low is (rest, walk, after) =
    let r : ℕ = g - suc (length path) in
    let deep : g - length path ≡ suc r = omega arith in
    let kids : Children (Kids inner leaf n r (reverse path) (reverse tops ++ node ∷ [])) (range_with_len 1 n) nodes rest =
    opened r (subst (λ d. Subtree inner leaf n d (reverse path) (reverse tops) (node ∷ nodes) rest) deep walk) in
    let m : ℕ = n - 1 in
    let more : n ≡ suc m = omega arith in
    let here : Children (Kids inner leaf n r (reverse path) (reverse (node ∷ tops))) (range_with_len 1 (suc m)) nodes rest =
    subst (λ xs. Children (Kids inner leaf n r (reverse path) xs) (range_with_len 1 (suc m)) nodes rest) (sym (reverse_cons node tops))
    (subst (λ k. Children (Kids inner leaf n r (reverse path) (reverse tops ++ node ∷ [])) (range_with_len 1 k) nodes rest) more kids) in
    (here.0, subst (λ xs. Subtree inner leaf n r xs (reverse (node ∷ tops)) nodes here.0) (sym (reverse_cons 1 path)) here.1, (rest, here.2, after))
  where
    opened : (r : ℕ) → Subtree inner leaf n (suc r) (reverse path) (reverse tops) (node ∷ nodes) rest → Children (Kids inner leaf n r (reverse path) (reverse tops ++ node ∷ [])) (range_with_len 1 n) nodes rest
    opened r h = ⊎_elim (λ a. absurd (a.0.0 is)) (λ b. b.1) h

-- and back: what is to come at the first child is what is to come at the node, with it
up : {N : Type 0} (inner : N → Type 0) (leaf : List ℕ → List N → N → Type 0) (n g : ℕ) (path : List ℕ) (tops : List N) (node : N) (nodes : List N) → 1 ≤ n → length path < g → inner node
    → FinishesAt inner leaf n g (1 ∷ path) (node ∷ tops) nodes → FinishesAt inner leaf n g path tops (node ∷ nodes)
up inner leaf n g path tops node nodes some low is (middle, walk, (rest, kids, after)) =
    let r : ℕ = g - suc (length path) in
    let deep : suc r ≡ g - length path = omega arith in
    let m : ℕ = n - 1 in
    let more : suc m ≡ n = omega arith in
    let all : Children (Kids inner leaf n r (reverse path) (reverse (node ∷ tops))) (range_with_len 1 (suc m)) nodes rest =
    (middle, subst (λ xs. Subtree inner leaf n r xs (reverse (node ∷ tops)) nodes middle) (reverse_cons 1 path) walk, kids) in
    let here : Subtree inner leaf n (suc r) (reverse path) (reverse tops) (node ∷ nodes) rest =
    inr (
      is,
      subst (λ k. Children (Kids inner leaf n r (reverse path) (reverse tops ++ node ∷ [])) (range_with_len 1 k) nodes rest) more
          (subst (λ xs. Children (Kids inner leaf n r (reverse path) xs) (range_with_len 1 (suc m)) nodes rest) (reverse_cons node tops) all),
    ) in
    (rest, subst (λ d. Subtree inner leaf n d (reverse path) (reverse tops) (node ∷ nodes) rest) deep here, after)

-- an inner node, by owners from the first to the last
pub inner_node : {N : Type 0} (inner : N → Type 0) (leaf : List ℕ → List N → N → Type 0) (n g : ℕ) (path longer : List ℕ) (above below : List N) (node : N) (nodes : List N)
    → longer ≡ path ++ 1 ∷ [] → below ≡ above ++ node ∷ [] → 1 ≤ n → length path < g → inner node
    → FinishesAt inner leaf n g (reverse path) (reverse above) (node ∷ nodes) ↔ FinishesAt inner leaf n g (reverse longer) (reverse below) nodes
inner_node {N = N} inner leaf n g path longer above below node nodes e f some low is =
    let same : 1 ∷ reverse path ≡ reverse longer = sym (ap reverse e ∙ reverse_push path 1) in
    let tops : node ∷ reverse above ≡ reverse below = sym (ap reverse f ∙ reverse_push above node) in
    subst (λ p. FinishesAt inner leaf n g (reverse path) (reverse above) (node ∷ nodes) ↔ FinishesAt inner leaf n g p (reverse below) nodes) same
    (subst (λ (ts : List N). FinishesAt inner leaf n g (reverse path) (reverse above) (node ∷ nodes) ↔ FinishesAt inner leaf n g (1 ∷ reverse path) ts nodes) tops
    (down inner leaf n g (reverse path) (reverse above) node nodes some (omega (arith, length-reverse path)) is, up inner leaf n g (reverse path) (reverse above) node nodes some (omega (arith, length-reverse path)) is))

-- there is no inner node where all goods are given
pub no_inner : {N : Type 0} (inner : N → Type 0) (leaf : List ℕ → List N → N → Type 0) (n g : ℕ) (path : List ℕ) (above : List N) (node : N) (nodes : List N) → g ≤ length path → inner node
    → FinishesAt inner leaf n g (reverse path) (reverse above) (node ∷ nodes) → ⊥
no_inner inner leaf n g path above node nodes full is (rest, walk, after) = at (g - length (reverse path)) (omega (arith, length-reverse path)) walk
  where
    at : (r : ℕ) → r ≡ 0 → Subtree inner leaf n r (reverse (reverse path)) (reverse (reverse above)) (node ∷ nodes) rest → ⊥
    at zero e h = h.0.0 is
    at (suc r) e h = absurd (omega arith)

-- a leaf: it is as the rule asks, and its node was read whole
pub leaf_node : {N : Type 0} (inner : N → Type 0) (leaf : List ℕ → List N → N → Type 0) (n g : ℕ) (path : List ℕ) (above : List N) (node : N) (nodes : List N) → (inner node → ⊥)
    → FinishesAt inner leaf n g (reverse path) (reverse above) (node ∷ nodes) ↔ leaf path above node × FinishesBehind inner leaf n g (reverse path) (reverse above) nodes
leaf_node {N = N} inner leaf n g path above node nodes other = (
  λ h. from h.0 h.2 (g - length (reverse path)) h.1,
  λ h. (nodes, to (g - length (reverse path)) h.0, h.1),
)
  where
    is : leaf (reverse (reverse path)) (reverse (reverse above)) node ≡ leaf path above node
    is = ap (λ p. leaf p (reverse (reverse above)) node) (reverse-reverse path) ∙ ap (λ (ts : List N). leaf path ts node) (reverse-reverse above)

    from : (rest : List N) → FinishesBehind inner leaf n g (reverse path) (reverse above) rest → (r : ℕ) → Subtree inner leaf n r (reverse (reverse path)) (reverse (reverse above)) (node ∷ nodes) rest
        → leaf path above node × FinishesBehind inner leaf n g (reverse path) (reverse above) nodes
    from rest after zero h = (subst (λ P. P) is h.0.1, subst (FinishesBehind inner leaf n g (reverse path) (reverse above)) h.1 after)
    from rest after (suc r) h = ⊎_elim
        (λ a. (subst (λ P. P) is a.0.1, subst (FinishesBehind inner leaf n g (reverse path) (reverse above)) a.1 after))
        (λ b. absurd (other b.0))
        h

    to : (r : ℕ) → leaf path above node → Subtree inner leaf n r (reverse (reverse path)) (reverse (reverse above)) (node ∷ nodes) nodes
    to zero h = ((other, subst (λ P. P) (sym is) h), refl)
    to (suc r) h = inl ((other, subst (λ P. P) (sym is) h), refl)

-- after a node that was read whole, its next sibling comes
sibling_next : {N : Type 0} (inner : N → Type 0) (leaf : List ℕ → List N → N → Type 0) (n g owner : ℕ) (up : List ℕ) (top : N) (tops nodes : List N) → owner < n
    → FinishesBehind inner leaf n g (owner ∷ up) (top ∷ tops) nodes → FinishesAt inner leaf n g ((owner + 1) ∷ up) (top ∷ tops) nodes
sibling_next {N = N} inner leaf n g owner up top tops nodes low (rest, kids, after) =
    let r : ℕ = g - suc (length up) in
    let m : ℕ = n - (owner + 1) in
    let more : n - owner ≡ suc m = omega arith in
    let first : Children (Kids inner leaf n r (reverse up) (reverse (top ∷ tops))) (range_with_len (owner + 1) (suc m)) nodes rest =
    subst (λ k. Children (Kids inner leaf n r (reverse up) (reverse (top ∷ tops))) (range_with_len (owner + 1) k) nodes rest) more kids in
    (first.0, subst (λ xs. Subtree inner leaf n r xs (reverse (top ∷ tops)) nodes first.0) (sym (reverse_cons (owner + 1) up)) first.1, (rest, first.2, after))

-- what is to come at a node is what is to come after the sibling before it
next_back : {N : Type 0} (inner : N → Type 0) (leaf : List ℕ → List N → N → Type 0) (n g owner : ℕ) (up : List ℕ) (top : N) (tops nodes : List N) → owner < n
    → FinishesAt inner leaf n g ((owner + 1) ∷ up) (top ∷ tops) nodes → FinishesBehind inner leaf n g (owner ∷ up) (top ∷ tops) nodes
next_back inner leaf n g owner up top tops nodes low (middle, walk, (rest, kids, after)) =
    let r : ℕ = g - suc (length up) in
    let m : ℕ = n - (owner + 1) in
    let more : suc m ≡ n - owner = omega arith in
    let all : Children (Kids inner leaf n r (reverse up) (reverse (top ∷ tops))) (range_with_len (owner + 1) (suc m)) nodes rest =
    (middle, subst (λ xs. Subtree inner leaf n r xs (reverse (top ∷ tops)) nodes middle) (reverse_cons (owner + 1) up) walk, kids) in
    (rest, subst (λ k. Children (Kids inner leaf n r (reverse up) (reverse (top ∷ tops))) (range_with_len (owner + 1) k) nodes rest) more all, after)

-- after the last child, its parent was read whole
parent_done : {N : Type 0} (inner : N → Type 0) (leaf : List ℕ → List N → N → Type 0) (n g owner : ℕ) (up : List ℕ) (top : N) (tops nodes : List N) → n ≤ owner
    → FinishesBehind inner leaf n g (owner ∷ up) (top ∷ tops) nodes → FinishesBehind inner leaf n g up tops nodes
parent_done inner leaf n g owner up top tops nodes last (rest, kids, after) =
    let none : n - owner ≡ 0 = omega arith in
    subst (FinishesBehind inner leaf n g up tops)
    (let e : rest ≡ nodes = subst (λ k. Children (Kids inner leaf n (g - suc (length up)) (reverse up) (reverse (top ∷ tops))) (range_with_len (owner + 1) k) nodes rest) none kids in e) after

-- and what is to come after a node is what is to come after its last child
parent_back : {N : Type 0} (inner : N → Type 0) (leaf : List ℕ → List N → N → Type 0) (n g owner : ℕ) (up : List ℕ) (top : N) (tops nodes : List N) → n ≤ owner
    → FinishesBehind inner leaf n g up tops nodes → FinishesBehind inner leaf n g (owner ∷ up) (top ∷ tops) nodes
parent_back inner leaf n g owner up top tops nodes last after =
    let none : 0 ≡ n - owner = omega arith in
    (nodes, subst (λ k. Children (Kids inner leaf n (g - suc (length up)) (reverse up) (reverse (top ∷ tops))) (range_with_len (owner + 1) k) nodes nodes) none refl, after)

-- after last children, the node above them was read whole
past_last : {N : Type 0} (inner : N → Type 0) (leaf : List ℕ → List N → N → Type 0) (n g : ℕ) (front last : List ℕ) (above tops nodes : List N) → length tops ≡ length last → All (λ owner. n ≤ owner) last
    → FinishesBehind inner leaf n g (reverse (front ++ last)) (reverse (above ++ tops)) nodes ↔ FinishesBehind inner leaf n g (reverse front) (reverse above) nodes
past_last {N = N} inner leaf n g front [] above [] nodes count full =
    let to : reverse front ≡ reverse (front ++ []) = ap reverse (sym (append-nil front)) in
    let also : reverse above ≡ reverse (above ++ []) = ap reverse (sym (append-nil above)) in
    subst (λ p. FinishesBehind inner leaf n g p (reverse (above ++ [])) nodes ↔ FinishesBehind inner leaf n g (reverse front) (reverse above) nodes) to
    (subst (λ (ts : List N). FinishesBehind inner leaf n g (reverse front) ts nodes ↔ FinishesBehind inner leaf n g (reverse front) (reverse above) nodes) also (λ h. h, λ h. h))
past_last inner leaf n g front [] above (top ∷ tops) nodes count full = absurd (omega arith)
past_last inner leaf n g front (owner ∷ last) above [] nodes count full = absurd (omega arith)
past_last {N = N} inner leaf n g front (owner ∷ last) above (top ∷ tops) nodes count full =
    let high = All-head (λ (o : ℕ). n ≤ o) owner last full in
    let further = past_last inner leaf n g (front ++ owner ∷ []) last (above ++ top ∷ []) tops nodes (omega arith) (All-tail (λ (o : ℕ). n ≤ o) owner last full) in
    let here : FinishesBehind inner leaf n g (reverse (front ++ owner ∷ [])) (reverse (above ++ top ∷ [])) nodes ↔ FinishesBehind inner leaf n g (reverse front) (reverse above) nodes =
    subst (λ p. FinishesBehind inner leaf n g p (reverse (above ++ top ∷ [])) nodes ↔ FinishesBehind inner leaf n g (reverse front) (reverse above) nodes) (sym (reverse_push front owner))
    (subst (λ (ts : List N). FinishesBehind inner leaf n g (owner ∷ reverse front) ts nodes ↔ FinishesBehind inner leaf n g (reverse front) (reverse above) nodes) (sym (reverse_push above top))
    (parent_done inner leaf n g owner (reverse front) top (reverse above) nodes high, parent_back inner leaf n g owner (reverse front) top (reverse above) nodes high)) in
    subst (λ p. FinishesBehind inner leaf n g (reverse p) (reverse (above ++ top ∷ tops)) nodes ↔ FinishesBehind inner leaf n g (reverse front) (reverse above) nodes) (append_assoc front (owner ∷ []) last)
    (subst (λ (ts : List N). FinishesBehind inner leaf n g (reverse ((front ++ owner ∷ []) ++ last)) (reverse ts) nodes ↔ FinishesBehind inner leaf n g (reverse front) (reverse above) nodes) (append_assoc above (top ∷ []) tops)
    (both_ways further here))

-- the first elements of a list and the others
pub record Parted {X : Type 0} (xs : List X) (m k : ℕ) : Type 0 where
  pub front : List X
  pub last : List X
  pub is : xs ≡ front ++ last
  pub many : length front ≡ m
  pub others : length last ≡ k

pub parted : {X : Type 0} (xs : List X) (m k : ℕ) → length xs ≡ m + k → Parted xs m k
parted xs m k count = record {
  front = take m xs;
  last = drop m xs;
  is = sym (take-append-drop m xs);
  many = length-take-le m xs (omega arith);
  others = length-drop m xs ∙ (let e : length xs - m ≡ k = omega arith in e);
}

-- one element
pub only_one : {X : Type 0} (xs : List X) → length xs ≡ 1 → (x : X) × (xs ≡ x ∷ [])
only_one [] count = absurd (omega arith)
only_one (x ∷ []) count = (x, refl)
only_one (x ∷ y ∷ xs) count = absurd (omega arith)

-- behind last children comes the next sibling of the node above them
next_of : {N : Type 0} (inner : N → Type 0) (leaf : List ℕ → List N → N → Type 0) (n g owner : ℕ) (front last : List ℕ) (top : N) (above tops nodes : List N) → owner < n → length tops ≡ length last
    → All (λ other. n ≤ other) last
    → FinishesBehind inner leaf n g (reverse ((front ++ owner ∷ []) ++ last)) (reverse ((above ++ top ∷ []) ++ tops)) nodes ↔ FinishesAt inner leaf n g (reverse (front ++ (owner + 1) ∷ [])) (reverse (above ++ top ∷ [])) nodes
next_of {N = N} inner leaf n g owner front last top above tops nodes low count full =
    let past = past_last inner leaf n g (front ++ owner ∷ []) last (above ++ top ∷ []) tops nodes count full in
    let here : FinishesBehind inner leaf n g (owner ∷ reverse front) (top ∷ reverse above) nodes ↔ FinishesAt inner leaf n g ((owner + 1) ∷ reverse front) (top ∷ reverse above) nodes =
    (sibling_next inner leaf n g owner (reverse front) top (reverse above) nodes low, next_back inner leaf n g owner (reverse front) top (reverse above) nodes low) in
    let one : FinishesBehind inner leaf n g (reverse (front ++ owner ∷ [])) (top ∷ reverse above) nodes ↔ FinishesAt inner leaf n g (reverse (front ++ (owner + 1) ∷ [])) (top ∷ reverse above) nodes =
    subst (λ p. FinishesBehind inner leaf n g p (top ∷ reverse above) nodes ↔ FinishesAt inner leaf n g (reverse (front ++ (owner + 1) ∷ [])) (top ∷ reverse above) nodes) (sym (reverse_push front owner))
    (subst (λ p. FinishesBehind inner leaf n g (owner ∷ reverse front) (top ∷ reverse above) nodes ↔ FinishesAt inner leaf n g p (top ∷ reverse above) nodes) (sym (reverse_push front (owner + 1))) here) in
    both_ways past
    (subst (λ (ts : List N). FinishesBehind inner leaf n g (reverse (front ++ owner ∷ [])) ts nodes ↔ FinishesAt inner leaf n g (reverse (front ++ (owner + 1) ∷ [])) ts nodes) (sym (reverse_push above top)) one)

-- so what is to come after a node is what is to come from the next one on
pub next_after : {N : Type 0} (inner : N → Type 0) (leaf : List ℕ → List N → N → Type 0) (n g : ℕ) (old : List ℕ) (ended : Bool) (new : List ℕ) (above tops nodes : List N)
    → length above ≡ length old → tops ≡ take (length new) above → IsNextAfter n old ended new
    → FinishesBehind inner leaf n g (reverse old) (reverse above) nodes ↔ FinishesTree inner leaf n g ended new tops nodes
next_after inner leaf n g old true new above tops nodes count to (full, none) = past_last inner leaf n g [] old [] above nodes count full
next_after {N = N} inner leaf n g old false new above tops nodes count to (front, owner, last, is, low, full, next) =
    let long = ap length is in
    let short = ap length next in
    let both : Parted above (length (front ++ owner ∷ [])) (length last) = parted above (length (front ++ owner ∷ [])) (length last) (omega (arith, count, long, length-append (front ++ owner ∷ []) last)) in
    let ends : Parted both.front (length front) 1 = parted both.front (length front) 1 (omega (arith, both.many, length-append front (owner ∷ []))) in
    let (top, single) = only_one ends.last ends.others in
    let split : both.front ≡ ends.front ++ top ∷ [] = ends.is ∙ ap (λ (ts : List N). ends.front ++ ts) single in
    let whole : above ≡ (ends.front ++ top ∷ []) ++ both.last = both.is ∙ ap (λ (ts : List N). ts ++ both.last) split in
    let as_many : length new ≡ length both.front = omega (arith, short, both.many, length-append front (owner ∷ []), length-append front ((owner + 1) ∷ [])) in
    let kept : tops ≡ ends.front ++ top ∷ [] = to ∙ ap (λ m. take m above) as_many ∙ ap (take (length both.front)) both.is ∙ take-append-le (length both.front) both.front both.last (omega arith)
    ∙ take_all (length both.front) both.front (omega arith) ∙ split in
    let step = next_of inner leaf n g owner front last top ends.front both.last nodes low both.others full in
    subst (λ (ts : List N). FinishesBehind inner leaf n g (reverse old) (reverse above) nodes ↔ FinishesAt inner leaf n g (reverse new) (reverse ts) nodes) (sym kept)
    (subst (λ p. FinishesBehind inner leaf n g (reverse old) (reverse above) nodes ↔ FinishesAt inner leaf n g (reverse p) (reverse (ends.front ++ top ∷ [])) nodes) (sym next)
    (subst (λ p. FinishesBehind inner leaf n g (reverse p) (reverse above) nodes ↔ FinishesAt inner leaf n g (reverse (front ++ (owner + 1) ∷ [])) (reverse (ends.front ++ top ∷ [])) nodes) (sym is)
    (subst (λ (ts : List N). FinishesBehind inner leaf n g (reverse ((front ++ owner ∷ []) ++ last)) (reverse ts) nodes ↔ FinishesAt inner leaf n g (reverse (front ++ (owner + 1) ∷ [])) (reverse (ends.front ++ top ∷ [])) nodes) (sym whole)
    step)))

-- where a node comes next, some node is to come
no_end : {N : Type 0} (inner : N → Type 0) (leaf : List ℕ → List N → N → Type 0) (n g : ℕ) (path : List ℕ) (tops : List N) → FinishesAt inner leaf n g path tops [] → ⊥
no_end inner leaf n g path tops (rest, walk, after) = at (g - length path) walk
  where
    at : (r : ℕ) → Subtree inner leaf n r (reverse path) (reverse tops) [] rest → ⊥
    at zero h = h
    at (suc r) h = h

-- no node is to come just where the tree was read whole
pub end_state : {N : Type 0} (inner : N → Type 0) (leaf : List ℕ → List N → N → Type 0) (n g : ℕ) (whole : Bool) (path : List ℕ) (above nodes : List N) → nodes ≡ []
    → IsTrue whole ↔ FinishesTree inner leaf n g whole path above nodes
end_state inner leaf n g true path above nodes e = (λ h. e, λ h. refl)
end_state {N = N} inner leaf n g false path above nodes e =
    (λ h. absurd (cc), λ h. absurd (no_end inner leaf n g (reverse path) (reverse above) (subst (λ (m : List N). FinishesAt inner leaf n g (reverse path) (reverse above) m) e h)))

-- at the root the whole tree is to come
pub root_tree : {N : Type 0} (inner : N → Type 0) (leaf : List ℕ → List N → N → Type 0) (n g : ℕ) (nodes : List N) → FinishesAt inner leaf n g [] [] nodes ↔ IsTree inner leaf n g nodes
root_tree {N = N} inner leaf n g nodes = (
  λ h. subst (λ (rest : List N). Subtree inner leaf n g [] [] nodes rest) h.2 (subst (λ d. Subtree inner leaf n d [] [] nodes h.0) none h.1),
  λ h. ([], subst (λ d. Subtree inner leaf n d [] [] nodes []) (sym none) h, refl),
)
  where
    none : g - 0 ≡ g
    none = omega arith

-- the next node is no deeper
pub next_no_longer : (n : ℕ) (old : List ℕ) (ended : Bool) (new : List ℕ) → IsNextAfter n old ended new → length new ≤ length old
next_no_longer n old true new (full, none) = let e = ap length none in omega arith
next_no_longer n old false new (front, owner, last, is, low, full, next) =
    let a = ap length is in
    let b = ap length next in
    omega (arith, length-append (front ++ owner ∷ []) last, length-append front (owner ∷ []), length-append front ((owner + 1) ∷ []))
