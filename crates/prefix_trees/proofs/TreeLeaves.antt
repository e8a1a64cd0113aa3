-- The leaves of a tree: what holds of each, and the one with which an allocation begins.
use Rattle.std.proofs.Common.{arith, refl, ◌≡◌, ◌∙◌, ap, sym, ◌+◌, ◌-◌, ◌<◌, ◌≤◌, ◌++◌, ◌∷◌, [], List, ℕ, zero, suc, subst, length, append-nil, append_assoc, inl, inr, ⊎_elim}
use Rattle.std.proofs.lemmas.List.Elements.{All-head, All-tail}
use Rattle.std.specs.List.{range_with_len}
use Rattle.nash_bounds.specs.OwnerLists.{ArePlayers}
use Rattle.prefix_trees.specs.Leaves.{AnyLeaf, LeadsToLeaf}
use Rattle.prefix_trees.specs.Tree.{Children, Subtree}

-- the children of a node, whatever is asked of leaves
abbrev Shape : {N : Type 0} → (N → Type 0) → ℕ → ℕ → ℕ → List N → List N → Type 0
Shape inner n d owner = Subtree inner AnyLeaf n d [] []

-- and by a rule
abbrev Kids : {N : Type 0} → (N → Type 0) → (List ℕ → List N → N → Type 0) → ℕ → ℕ → List ℕ → List N → ℕ → List N → List N → Type 0
Kids inner leaf n d p above owner = Subtree inner leaf n d (p ++ owner ∷ []) above

-- children end at one place
children_end : {N : Type 0} (one other : ℕ → List N → List N → Type 0) → ((owner : ℕ) (nodes r s : List N) → one owner nodes r → other owner nodes s → r ≡ s)
    → (owners : List ℕ) (nodes r s : List N) → Children one owners nodes r → Children other owners nodes s → r ≡ s
children_end one other same [] nodes r s a b = a ∙ sym b
children_end {N = N} one other same (o ∷ os) nodes r s (m, w, ws) (k, v, vs) =
    children_end one other same os m r s ws (subst (λ (x : List N). Children other os x s) (sym (same o nodes m k w v)) vs)

-- and so does a subtree, whatever is asked of its leaves
pub subtree_end : {N : Type 0} (inner : N → Type 0) (leaf other : List ℕ → List N → N → Type 0) (n d : ℕ) (p q : List ℕ) (us vs nodes r s : List N) → Subtree inner leaf n d p us nodes r → Subtree inner other n d q vs nodes s → r ≡ s
subtree_end inner leaf other n zero p q us vs [] r s a b = absurd a
subtree_end inner leaf other n zero p q us vs (m ∷ ms) r s a b = a.1 ∙ sym b.1
subtree_end inner leaf other n (suc d) p q us vs [] r s a b = absurd a
subtree_end inner leaf other n (suc d) p q us vs (m ∷ ms) r s a b = ⊎_elim
    (λ x. ⊎_elim (λ y. x.1 ∙ sym y.1) (λ y. absurd (x.0.0 y.0)) b)
    (λ x. ⊎_elim
    (λ y. absurd (y.0.0 x.0))
    (λ y. children_end (Kids inner leaf n d p (us ++ m ∷ [])) (Kids inner other n d q (vs ++ m ∷ []))
    (λ o. subtree_end inner leaf other n d (p ++ o ∷ []) (q ++ o ∷ []) (us ++ m ∷ []) (vs ++ m ∷ [])) (range_with_len 1 n) ms r s x.1 y.1)
    b)
    a

-- children are children where less is asked of each
children_any : {N : Type 0} (one other : ℕ → List N → List N → Type 0) → ((owner : ℕ) (nodes r : List N) → one owner nodes r → other owner nodes r)
    → (owners : List ℕ) (nodes r : List N) → Children one owners nodes r → Children other owners nodes r
children_any one other so [] nodes r h = h
children_any one other so (o ∷ os) nodes r (m, w, ws) = (m, so o nodes m w, children_any one other so os m r ws)

-- a subtree is one anywhere, where nothing is asked of leaves
pub subtree_any : {N : Type 0} (inner : N → Type 0) (leaf : List ℕ → List N → N → Type 0) (n d : ℕ) (p q : List ℕ) (us vs nodes r : List N) → Subtree inner leaf n d p us nodes r → Subtree inner AnyLeaf n d q vs nodes r
subtree_any inner leaf n zero p q us vs [] r h = absurd h
subtree_any inner leaf n zero p q us vs (m ∷ ms) r h = ((h.0.0, tt), h.1)
subtree_any inner leaf n (suc d) p q us vs [] r h = absurd h
subtree_any inner leaf n (suc d) p q us vs (m ∷ ms) r (inl h) = inl ((h.0.0, tt), h.1)
subtree_any inner leaf n (suc d) p q us vs (m ∷ ms) r (inr h) = inr (
  h.0,
  children_any (Kids inner leaf n d p (us ++ m ∷ [])) (Kids inner AnyLeaf n d q (vs ++ m ∷ []))
      (λ o. subtree_any inner leaf n d (p ++ o ∷ []) (q ++ o ∷ []) (us ++ m ∷ []) (vs ++ m ∷ [])) (range_with_len 1 n) ms r h.1,
)

-- the subtree of one child comes behind those of the children before it
child_at : {N : Type 0} (kid : ℕ → List N → List N → Type 0) (k a b : ℕ) (nodes r : List N) → b < k → Children kid (range_with_len a k) nodes r
    → (behind after : List N) × Children kid (range_with_len a b) nodes behind × kid (a + b) behind after
child_at kid zero a b nodes r low h = absurd (omega arith)
child_at kid (suc k) a zero nodes r low (m, w, ws) = (nodes, m, refl, let e : a ≡ a + 0 = omega arith in subst (λ o. kid o nodes m) e w)
child_at kid (suc k) a (suc b) nodes r low (m, w, ws) =
    let (behind, after, before, here) = child_at kid k (a + 1) b m r (omega arith) ws in
    let e : (a + 1) + b ≡ a + suc b = omega arith in
    (behind, after, (m, w, before), subst (λ o. kid o behind after) e here)

-- the child of an owner
child_of : {N : Type 0} (kid : ℕ → List N → List N → Type 0) (n owner : ℕ) (nodes r : List N) → 1 ≤ owner → owner ≤ n → Children kid (range_with_len 1 n) nodes r
    → (behind after : List N) × Children kid (range_with_len 1 (owner - 1)) nodes behind × kid owner behind after
child_of kid n owner nodes r low high h =
    let (behind, after, before, here) = child_at kid n 1 (owner - 1) nodes r (omega arith) h in
    let e : 1 + (owner - 1) ≡ owner = omega arith in
    (behind, after, before, subst (λ o. kid o behind after) e here)

-- one child more
children_more : {N : Type 0} (kid : ℕ → List N → List N → Type 0) (k a : ℕ) (nodes here next : List N) → Children kid (range_with_len a k) nodes here → kid (a + k) here next → Children kid (range_with_len a (suc k)) nodes next
children_more {N = N} kid zero a nodes here next h w =
    let e : a + 0 ≡ a = omega arith in
    (next, subst (λ (from : List N). kid a from next) h (subst (λ o. kid o here next) e w), refl)
children_more kid (suc k) a nodes here next (m, v, vs) w =
    let e : a + suc k ≡ (a + 1) + k = omega arith in
    (m, v, children_more kid k (a + 1) m here next vs (subst (λ o. kid o here next) e w))

-- what is asked of a leaf is asked of it as it is named
leaf_as : {N : Type 0} (leaf : List ℕ → List N → N → Type 0) (p q : List ℕ) (us vs : List N) (m node : N) → p ≡ q → us ≡ vs → m ≡ node → leaf p us m → leaf q vs node
leaf_as {N = N} leaf p q us vs m node e f h is = subst (leaf q vs) h (subst (λ (ts : List N). leaf q ts m) f (subst (λ xs. leaf xs us m) e is))

-- what is asked of the leaves holds of each leaf
pub each_leaf : {N : Type 0} (inner : N → Type 0) (leaf : List ℕ → List N → N → Type 0) (n : ℕ) (owners : List ℕ) (d : ℕ) (p : List ℕ) (us nodes r tops : List N) (node : N) → Subtree inner leaf n d p us nodes r
    → LeadsToLeaf inner n us owners d nodes tops node → leaf (p ++ owners) tops node
each_leaf inner leaf n [] d p us [] r tops node h leads = absurd leads
each_leaf inner leaf n [] zero p us (m ∷ ms) r tops node h leads = leaf_as leaf p (p ++ []) us tops m node (sym (append-nil p)) (sym leads.0) leads.1 h.0.1
each_leaf inner leaf n [] (suc d) p us (m ∷ ms) r tops node (inl h) leads = leaf_as leaf p (p ++ []) us tops m node (sym (append-nil p)) (sym leads.0) leads.1 h.0.1
each_leaf inner leaf n [] (suc d) p us (m ∷ ms) r tops node (inr h) leads = absurd (leads.2 h.0)
each_leaf inner leaf n (o ∷ os) zero p us nodes r tops node h leads = absurd leads
each_leaf inner leaf n (o ∷ os) (suc d) p us [] r tops node h leads = absurd leads
each_leaf inner leaf n (o ∷ os) (suc d) p us (m ∷ ms) r tops node (inl h) leads = absurd (h.0.0 leads.0)
each_leaf {N = N} inner leaf n (o ∷ os) (suc d) p us (m ∷ ms) r tops node (inr h) (plus, low, high, (behind, before, on)) =
    let (here, after, others, child) = child_of (Kids inner leaf n d p (us ++ m ∷ [])) n o ms r low high h.1 in
    let e : here ≡ behind =
    children_end (Kids inner leaf n d p (us ++ m ∷ [])) (Shape inner n d) (λ k. subtree_end inner leaf AnyLeaf n d (p ++ k ∷ []) [] (us ++ m ∷ []) []) (range_with_len 1 (o - 1)) ms here behind others before in
    let same : (p ++ o ∷ []) ++ os ≡ p ++ o ∷ os = append_assoc p (o ∷ []) os in
    subst (λ xs. leaf xs tops node) same
    (each_leaf inner leaf n os d (p ++ o ∷ []) (us ++ m ∷ []) here after tops node child (subst (λ (x : List N). LeadsToLeaf inner n (us ++ m ∷ []) os d x tops node) (sym e) on))

-- a node whose leaves all are as a rule asks
abbrev Ruled : {N : Type 0} → (N → Type 0) → (List ℕ → List N → N → Type 0) → ℕ → ℕ → List ℕ → List N → List N → Type 0
Ruled {N = N} inner leaf n d p us nodes = (owners : List ℕ) (tops : List N) (node : N) → LeadsToLeaf inner n us owners d nodes tops node → leaf (p ++ owners) tops node

-- children from one on, of each of whose leaves something holds
ruled_children : {N : Type 0} (inner : N → Type 0) (leaf : List ℕ → List N → N → Type 0) (n d : ℕ) (p : List ℕ) (us : List N)
    → ((p : List ℕ) (us nodes r : List N) → Subtree inner AnyLeaf n d [] [] nodes r → Ruled inner leaf n d p us nodes → Subtree inner leaf n d p us nodes r)
    → (k a : ℕ) (nodes here r : List N) → a + k ≤ n
    → ((owner : ℕ) (behind : List N) (owners : List ℕ) (tops : List N) (node : N) → 1 ≤ owner → owner ≤ n → Children (Shape inner n d) (range_with_len 1 (owner - 1)) nodes behind
    → LeadsToLeaf inner n us owners d behind tops node → leaf (p ++ owner ∷ owners) tops node)
    → Children (Shape inner n d) (range_with_len 1 a) nodes here → Children (Shape inner n d) (range_with_len (1 + a) k) here r → Children (Kids inner leaf n d p us) (range_with_len (1 + a) k) here r
ruled_children inner leaf n d p us ruled zero a nodes here r most each before h = h
ruled_children inner leaf n d p us ruled (suc k) a nodes here r most each before (m, w, ws) =
    let own : Subtree inner leaf n d (p ++ (1 + a) ∷ []) us here m =
    ruled (p ++ (1 + a) ∷ []) us here m w
    (λ owners tops node on.
    let e : (1 + a) - 1 ≡ a = omega arith in
    let same : (p ++ (1 + a) ∷ []) ++ owners ≡ p ++ (1 + a) ∷ owners = append_assoc p ((1 + a) ∷ []) owners in
    subst (λ xs. leaf xs tops node) (sym same)
    (each (1 + a) here owners tops node (omega arith) (omega arith) (subst (λ b. Children (Shape inner n d) (range_with_len 1 b) nodes here) (sym e) before) on)) in
    let past : Children (Shape inner n d) (range_with_len 1 (suc a)) nodes m = children_more (Shape inner n d) a 1 nodes here m before w in
    let next : (1 + a) + 1 ≡ 1 + suc a = omega arith in
    let rest = ruled_children inner leaf n d p us ruled k (suc a) nodes m r (omega arith) each past (subst (λ b. Children (Shape inner n d) (range_with_len b k) m r) next ws) in
    (m, own, subst (λ b. Children (Kids inner leaf n d p us) (range_with_len b k) m r) (sym next) rest)

-- what holds of each leaf holds of the leaves
pub ruled_by_leaves : {N : Type 0} (inner : N → Type 0) (leaf : List ℕ → List N → N → Type 0) (n d : ℕ) (p : List ℕ) (us nodes r : List N) → Subtree inner AnyLeaf n d [] [] nodes r → Ruled inner leaf n d p us nodes
    → Subtree inner leaf n d p us nodes r
ruled_by_leaves inner leaf n zero p us [] r h each = absurd h
ruled_by_leaves inner leaf n zero p us (m ∷ ms) r h each = ((h.0.0, leaf_as leaf (p ++ []) p us us m m (append-nil p) refl refl (each [] us m (refl, refl, h.0.0))), h.1)
ruled_by_leaves inner leaf n (suc d) p us [] r h each = absurd h
ruled_by_leaves inner leaf n (suc d) p us (m ∷ ms) r (inl h) each = inl ((h.0.0, leaf_as leaf (p ++ []) p us us m m (append-nil p) refl refl (each [] us m (refl, refl, h.0.0))), h.1)
ruled_by_leaves inner leaf n (suc d) p us (m ∷ ms) r (inr h) each =
    let shape : Children (Shape inner n d) (range_with_len 1 n) ms r =
    children_any (Kids inner AnyLeaf n d [] ([] ++ m ∷ [])) (Shape inner n d) (λ o. subtree_any inner AnyLeaf n d ([] ++ o ∷ []) [] ([] ++ m ∷ []) []) (range_with_len 1 n) ms r h.1 in
    inr (
      h.0,
      ruled_children inner leaf n d p (us ++ m ∷ []) (ruled_by_leaves inner leaf n d) n 0 ms ms r (omega arith)
          (λ owner behind owners tops node low high before on. each (owner ∷ owners) tops node (h.0, low, high, (behind, before, on))) refl shape,
    )

-- a list of owners begins with those of a leaf
pub some_leaf : {N : Type 0} (inner : N → Type 0) (n d : ℕ) (us nodes r : List N) (xs : List ℕ) → Subtree inner AnyLeaf n d [] [] nodes r → length xs ≡ d → ArePlayers n xs
    → (front rest : List ℕ) × (tops : List N) × (node : N) × (xs ≡ front ++ rest) × LeadsToLeaf inner n us front d nodes tops node
some_leaf inner n zero us [] r xs h long players = absurd h
some_leaf inner n zero us (m ∷ ms) r xs h long players = ([], xs, us, m, refl, (refl, refl, h.0.0))
some_leaf inner n (suc d) us [] r xs h long players = absurd h
some_leaf inner n (suc d) us (m ∷ ms) r xs (inl h) long players = ([], xs, us, m, refl, (refl, refl, h.0.0))
some_leaf inner n (suc d) us (m ∷ ms) r [] (inr h) long players = absurd (omega arith)
some_leaf inner n (suc d) us (m ∷ ms) r (x ∷ xs) (inr h) long players =
    let owner = All-head (λ (o : ℕ). (1 ≤ o) × (o ≤ n)) x xs players in
    let shape : Children (Shape inner n d) (range_with_len 1 n) ms r =
    children_any (Kids inner AnyLeaf n d [] ([] ++ m ∷ [])) (Shape inner n d) (λ o. subtree_any inner AnyLeaf n d ([] ++ o ∷ []) [] ([] ++ m ∷ []) []) (range_with_len 1 n) ms r h.1 in
    let (behind, after, before, here) = child_of (Shape inner n d) n x ms r owner.0 owner.1 shape in
    let (front, rest, tops, node, is, on) = some_leaf inner n d (us ++ m ∷ []) behind after xs here (omega arith) (All-tail (λ (o : ℕ). (1 ≤ o) × (o ≤ n)) x xs players) in
    (x ∷ front, rest, tops, node, ap (λ ys. x ∷ ys) is, (h.0, owner.0, owner.1, (behind, before, on)))

-- and with those of no other
pub one_leaf_only : {N : Type 0} (inner : N → Type 0) (n : ℕ) (front other : List ℕ) (d : ℕ) (us vs nodes : List N) (rest more : List ℕ) (tops ends : List N) (node leaf : N)
    → LeadsToLeaf inner n us front d nodes tops node → LeadsToLeaf inner n vs other d nodes ends leaf → front ++ rest ≡ other ++ more → (other ≡ front) × (leaf ≡ node)
one_leaf_only inner n [] [] d us vs [] rest more tops ends node leaf a b e = absurd a
one_leaf_only inner n [] [] d us vs (m ∷ ms) rest more tops ends node leaf a b e = (refl, sym b.1 ∙ a.1)
one_leaf_only inner n [] (o ∷ os) zero us vs nodes rest more tops ends node leaf a b e = absurd b
one_leaf_only inner n [] (o ∷ os) (suc d) us vs [] rest more tops ends node leaf a b e = absurd b
one_leaf_only inner n [] (o ∷ os) (suc d) us vs (m ∷ ms) rest more tops ends node leaf a b e = absurd (a.2 b.0)
one_leaf_only inner n (o ∷ os) [] zero us vs nodes rest more tops ends node leaf a b e = absurd a
one_leaf_only inner n (o ∷ os) [] (suc d) us vs [] rest more tops ends node leaf a b e = absurd a
one_leaf_only inner n (o ∷ os) [] (suc d) us vs (m ∷ ms) rest more tops ends node leaf a b e = absurd (b.2 a.0)
one_leaf_only inner n (o ∷ os) (k ∷ ks) zero us vs nodes rest more tops ends node leaf a b e = absurd a
one_leaf_only inner n (o ∷ os) (k ∷ ks) (suc d) us vs [] rest more tops ends node leaf a b e = absurd a
one_leaf_only {N = N} inner n (o ∷ os) (k ∷ ks) (suc d) us vs (m ∷ ms) rest more tops ends node leaf (plus, low, high, (behind, before, on)) (_, _, _, (past, others, further)) e =
    let same : o ≡ k = cc in
    let tails : os ++ rest ≡ ks ++ more = cc in
    let here : Children (Shape inner n d) (range_with_len 1 (o - 1)) ms past = subst (λ w. Children (Shape inner n d) (range_with_len 1 (w - 1)) ms past) (sym same) others in
    let at : behind ≡ past = children_end (Shape inner n d) (Shape inner n d) (λ o. subtree_end inner AnyLeaf AnyLeaf n d [] [] [] []) (range_with_len 1 (o - 1)) ms behind past before here in
    let one = one_leaf_only inner n os ks d (us ++ m ∷ []) (vs ++ m ∷ []) behind rest more tops ends node leaf on
    (subst (λ (x : List N). LeadsToLeaf inner n (vs ++ m ∷ []) ks d x ends leaf) (sym at) further) tails in
    (let list = one.0 in cc, one.1)
