-- The leaves of a tree: what holds of each, and the one with which an allocation begins.
use Rattle.std.proofs.Common.{arith, refl, ◌≡◌, ◌≢◌, ◌∙◌, ap, sym, ◌+◌, ◌-◌, ◌<◌, ◌≤◌, ◌++◌, ◌∷◌, [], List, ℕ, zero, suc, subst, length, append-nil, append_assoc, ◌⊎◌, inl, inr, ⊎_elim}
use Rattle.std.proofs.lemmas.List.Elements.{All-head, All-tail}
use Rattle.std.specs.List.{range_with_len}
use Rattle.nash_bounds.specs.OwnerLists.{ArePlayers}
use Rattle.goods_rules.specs.Leaves.{AnyLeaf, LeadsToLeaf}
use Rattle.goods_rules.specs.Tree.{Children, Subtree}

-- children end at one place
children_end : (one other : List ℕ → List ℕ → List ℕ → Type 0) → ((p q marks r s : List ℕ) → one p marks r → other q marks s → r ≡ s)
    → (p q owners marks r s : List ℕ) → Children one p owners marks r → Children other q owners marks s → r ≡ s
children_end one other same p q [] marks r s a b = a ∙ sym b
children_end one other same p q (o ∷ os) marks r s (m, w, ws) (k, v, vs) =
    children_end one other same p q os m r s ws (subst (λ x. Children other q os x s) (sym (same (p ++ o ∷ []) (q ++ o ∷ []) marks m k w v)) vs)

-- and so does a subtree, whatever is asked of its leaves
pub subtree_end : (leaf other : List ℕ → ℕ → Type 0) (n d : ℕ) (p q marks r s : List ℕ) → Subtree leaf n d p marks r → Subtree other n d q marks s → r ≡ s
subtree_end leaf other n zero p q [] r s a b = absurd a
subtree_end leaf other n zero p q (m ∷ ms) r s a b = a.2 ∙ sym b.2
subtree_end leaf other n (suc d) p q [] r s a b = absurd a
subtree_end leaf other n (suc d) p q (m ∷ ms) r s a b = ⊎_elim
    (λ x. ⊎_elim
    (λ y. x.2 ∙ sym y.2)
    (λ y. absurd (let e = x.0 in let f = y.0 in omega arith))
    b)
    (λ x. ⊎_elim
    (λ y. absurd (let e = x.0 in let f = y.0 in omega arith))
    (λ y. children_end (Subtree leaf n d) (Subtree other n d) (subtree_end leaf other n d) p q (range_with_len 1 n) ms r s x.1 y.1)
    b)
    a

-- children are children at any node, where nothing is asked of leaves
children_any : (one other : List ℕ → List ℕ → List ℕ → Type 0) → ((p q marks r : List ℕ) → one p marks r → other q marks r)
    → (p q owners marks r : List ℕ) → Children one p owners marks r → Children other q owners marks r
children_any one other so p q [] marks r h = h
children_any one other so p q (o ∷ os) marks r (m, w, ws) = (m, so (p ++ o ∷ []) (q ++ o ∷ []) marks m w, children_any one other so p q os m r ws)

-- and so is a subtree
pub subtree_any : (leaf : List ℕ → ℕ → Type 0) (n d : ℕ) (p q marks r : List ℕ) → Subtree leaf n d p marks r → Subtree AnyLeaf n d q marks r
subtree_any leaf n zero p q [] r h = absurd h
subtree_any leaf n zero p q (m ∷ ms) r h = (h.0, tt, h.2)
subtree_any leaf n (suc d) p q [] r h = absurd h
subtree_any leaf n (suc d) p q (m ∷ ms) r (inl h) = inl (h.0, tt, h.2)
subtree_any leaf n (suc d) p q (m ∷ ms) r (inr h) = inr (h.0, children_any (Subtree leaf n d) (Subtree AnyLeaf n d) (subtree_any leaf n d) p q (range_with_len 1 n) ms r h.1)

-- the subtree of one child comes behind those of the children before it
child_at : (walk : List ℕ → List ℕ → List ℕ → Type 0) (p : List ℕ) (k a b : ℕ) (marks r : List ℕ) → b < k → Children walk p (range_with_len a k) marks r
    → (behind after : List ℕ) × Children walk p (range_with_len a b) marks behind × walk (p ++ (a + b) ∷ []) behind after
child_at walk p zero a b marks r low h = absurd (omega arith)
child_at walk p (suc k) a zero marks r low (m, w, ws) = (marks, m, refl, let e : a ≡ a + 0 = omega arith in subst (λ o. walk (p ++ o ∷ []) marks m) e w)
child_at walk p (suc k) a (suc b) marks r low (m, w, ws) =
    let (behind, after, before, here) = child_at walk p k (a + 1) b m r (omega arith) ws in
    let e : (a + 1) + b ≡ a + suc b = omega arith in
    (behind, after, (m, w, before), subst (λ o. walk (p ++ o ∷ []) behind after) e here)

-- the child of an owner
child_of : (walk : List ℕ → List ℕ → List ℕ → Type 0) (p : List ℕ) (n owner : ℕ) (marks r : List ℕ) → 1 ≤ owner → owner ≤ n → Children walk p (range_with_len 1 n) marks r
    → (behind after : List ℕ) × Children walk p (range_with_len 1 (owner - 1)) marks behind × walk (p ++ owner ∷ []) behind after
child_of walk p n owner marks r low high h =
    let (behind, after, before, here) = child_at walk p n 1 (owner - 1) marks r (omega arith) h in
    let e : 1 + (owner - 1) ≡ owner = omega arith in
    (behind, after, before, subst (λ o. walk (p ++ o ∷ []) behind after) e here)

-- one child more
children_more : (walk : List ℕ → List ℕ → List ℕ → Type 0) (p : List ℕ) (k a : ℕ) (marks here next : List ℕ) → Children walk p (range_with_len a k) marks here
    → walk (p ++ (a + k) ∷ []) here next → Children walk p (range_with_len a (suc k)) marks next
children_more walk p zero a marks here next h w =
    let e : a + 0 ≡ a = omega arith in
    (next, subst (λ from. walk (p ++ a ∷ []) from next) h (subst (λ o. walk (p ++ o ∷ []) here next) e w), refl)
children_more walk p (suc k) a marks here next (m, v, vs) w =
    let e : a + suc k ≡ (a + 1) + k = omega arith in
    (m, v, children_more walk p k (a + 1) m here next vs (subst (λ o. walk (p ++ o ∷ []) here next) e w))

-- what is asked of the leaves holds of each leaf
pub each_leaf : (leaf : List ℕ → ℕ → Type 0) (n : ℕ) (owners : List ℕ) (d : ℕ) (p marks r : List ℕ) (mark : ℕ) → Subtree leaf n d p marks r → LeadsToLeaf n owners d marks mark → leaf (p ++ owners) mark
each_leaf leaf n [] d p [] r mark h leads = absurd leads
each_leaf leaf n [] zero p (m ∷ ms) r mark h leads = subst (leaf (p ++ [])) leads.0 (subst (λ xs. leaf xs m) (sym (append-nil p)) h.1)
each_leaf leaf n [] (suc d) p (m ∷ ms) r mark (inl h) leads = subst (leaf (p ++ [])) leads.0 (subst (λ xs. leaf xs m) (sym (append-nil p)) h.1)
each_leaf leaf n [] (suc d) p (m ∷ ms) r mark (inr h) leads = absurd (leads.1 h.0)
each_leaf leaf n (o ∷ os) zero p marks r mark h leads = absurd leads
each_leaf leaf n (o ∷ os) (suc d) p [] r mark h leads = absurd leads
each_leaf leaf n (o ∷ os) (suc d) p (m ∷ ms) r mark (inl h) leads = absurd (let e = h.0 in let f = leads.0 in omega arith)
each_leaf leaf n (o ∷ os) (suc d) p (m ∷ ms) r mark (inr h) (plus, low, high, (behind, before, on)) =
    let (here, after, others, child) = child_of (Subtree leaf n d) p n o ms r low high h.1 in
    let e : here ≡ behind = children_end (Subtree leaf n d) (Subtree AnyLeaf n d) (subtree_end leaf AnyLeaf n d) p [] (range_with_len 1 (o - 1)) ms here behind others before in
    let same : (p ++ o ∷ []) ++ os ≡ p ++ o ∷ os = append_assoc p (o ∷ []) os in
    subst (λ xs. leaf xs mark) same (each_leaf leaf n os d (p ++ o ∷ []) here after mark child (subst (λ x. LeadsToLeaf n os d x mark) (sym e) on))

-- children from one on, of each of whose leaves something holds
ruled_children : (leaf : List ℕ → ℕ → Type 0) (n d : ℕ) (p q : List ℕ)
    → ((p q marks r : List ℕ) → Subtree AnyLeaf n d q marks r → ((owners : List ℕ) (mark : ℕ) → LeadsToLeaf n owners d marks mark → leaf (p ++ owners) mark) → Subtree leaf n d p marks r)
    → (k a : ℕ) (marks here r : List ℕ) → a + k ≤ n
    → ((owner : ℕ) (behind owners : List ℕ) (mark : ℕ) → 1 ≤ owner → owner ≤ n → Children (Subtree AnyLeaf n d) [] (range_with_len 1 (owner - 1)) marks behind → LeadsToLeaf n owners d behind mark
    → leaf (p ++ owner ∷ owners) mark)
    → Children (Subtree AnyLeaf n d) [] (range_with_len 1 a) marks here → Children (Subtree AnyLeaf n d) q (range_with_len (1 + a) k) here r → Children (Subtree leaf n d) p (range_with_len (1 + a) k) here r
ruled_children leaf n d p q ruled zero a marks here r most each before h = h
ruled_children leaf n d p q ruled (suc k) a marks here r most each before (m, w, ws) =
    let own : Subtree leaf n d (p ++ (1 + a) ∷ []) here m =
    ruled (p ++ (1 + a) ∷ []) (q ++ (1 + a) ∷ []) here m w
    (λ owners mark on.
    let e : (1 + a) - 1 ≡ a = omega arith in
    let same : (p ++ (1 + a) ∷ []) ++ owners ≡ p ++ (1 + a) ∷ owners = append_assoc p ((1 + a) ∷ []) owners in
    subst (λ xs. leaf xs mark) (sym same) (each (1 + a) here owners mark (omega arith) (omega arith) (subst (λ b. Children (Subtree AnyLeaf n d) [] (range_with_len 1 b) marks here) (sym e) before) on)) in
    let past : Children (Subtree AnyLeaf n d) [] (range_with_len 1 (suc a)) marks m =
    children_more (Subtree AnyLeaf n d) [] a 1 marks here m before (subtree_any AnyLeaf n d (q ++ (1 + a) ∷ []) ([] ++ (1 + a) ∷ []) here m w) in
    let next : (1 + a) + 1 ≡ 1 + suc a = omega arith in
    let rest = ruled_children leaf n d p q ruled k (suc a) marks m r (omega arith) each past (subst (λ b. Children (Subtree AnyLeaf n d) q (range_with_len b k) m r) next ws) in
    (m, own, subst (λ b. Children (Subtree leaf n d) p (range_with_len b k) m r) (sym next) rest)

-- what holds of each leaf holds of the leaves
pub ruled_by_leaves : (leaf : List ℕ → ℕ → Type 0) (n d : ℕ) (p q marks r : List ℕ) → Subtree AnyLeaf n d q marks r
    → ((owners : List ℕ) (mark : ℕ) → LeadsToLeaf n owners d marks mark → leaf (p ++ owners) mark) → Subtree leaf n d p marks r
ruled_by_leaves leaf n zero p q [] r h each = absurd h
ruled_by_leaves leaf n zero p q (m ∷ ms) r (kind, any, end) each =
    let other : m ≢ 43 = λ e. ⊎_elim (λ (x : m ≡ 45). omega arith) (λ (x : m ≡ 61). omega arith) kind in
    (kind, subst (λ xs. leaf xs m) (append-nil p) (each [] m (refl, other)), end)
ruled_by_leaves leaf n (suc d) p q [] r h each = absurd h
ruled_by_leaves leaf n (suc d) p q (m ∷ ms) r (inl h) each =
    let other : m ≢ 43 = λ e. let f = h.0 in omega arith in
    inl (h.0, subst (λ xs. leaf xs m) (append-nil p) (each [] m (refl, other)), h.2)
ruled_by_leaves leaf n (suc d) p q (m ∷ ms) r (inr h) each =
    inr (
      h.0,
      ruled_children leaf n d p q (ruled_by_leaves leaf n d) n 0 ms ms r (omega arith)
          (λ owner behind owners mark low high before on. each (owner ∷ owners) mark (h.0, low, high, (behind, before, on))) refl h.1,
    )

-- a list of owners begins with those of a leaf
pub some_leaf : (n d : ℕ) (q marks r xs : List ℕ) → Subtree AnyLeaf n d q marks r → length xs ≡ d → ArePlayers n xs
    → (front rest : List ℕ) × (mark : ℕ) × (xs ≡ front ++ rest) × LeadsToLeaf n front d marks mark
some_leaf n zero q [] r xs h long players = absurd h
some_leaf n zero q (m ∷ ms) r xs (kind, any, end) long players =
    let other : m ≢ 43 = λ e. ⊎_elim (λ (x : m ≡ 45). omega arith) (λ (x : m ≡ 61). omega arith) kind in
    ([], xs, m, refl, (refl, other))
some_leaf n (suc d) q [] r xs h long players = absurd h
some_leaf n (suc d) q (m ∷ ms) r xs (inl h) long players =
    let other : m ≢ 43 = λ e. let f = h.0 in omega arith in
    ([], xs, m, refl, (refl, other))
some_leaf n (suc d) q (m ∷ ms) r [] (inr h) long players = absurd (omega arith)
some_leaf n (suc d) q (m ∷ ms) r (x ∷ xs) (inr h) long players =
    let owner = All-head (λ (o : ℕ). (1 ≤ o) × (o ≤ n)) x xs players in
    let (behind, after, before, here) = child_of (Subtree AnyLeaf n d) q n x ms r owner.0 owner.1 h.1 in
    let (front, rest, mark, is, on) = some_leaf n d (q ++ x ∷ []) behind after xs here (omega arith) (All-tail (λ (o : ℕ). (1 ≤ o) × (o ≤ n)) x xs players) in (
      x ∷ front,
      rest,
      mark,
      ap (λ ys. x ∷ ys) is,
      (h.0, owner.0, owner.1, (behind, children_any (Subtree AnyLeaf n d) (Subtree AnyLeaf n d) (subtree_any AnyLeaf n d) q [] (range_with_len 1 (x - 1)) ms behind before, on)),
    )

-- and with those of no other
pub one_leaf_only : (n : ℕ) (front other : List ℕ) (d : ℕ) (marks rest more : List ℕ) (mark leaf : ℕ) → LeadsToLeaf n front d marks mark → LeadsToLeaf n other d marks leaf
    → front ++ rest ≡ other ++ more → (other ≡ front) × (leaf ≡ mark)
one_leaf_only n [] [] d [] rest more mark leaf a b e = absurd a
one_leaf_only n [] [] d (m ∷ ms) rest more mark leaf a b e = (refl, sym b.0 ∙ a.0)
one_leaf_only n [] (o ∷ os) zero marks rest more mark leaf a b e = absurd b
one_leaf_only n [] (o ∷ os) (suc d) [] rest more mark leaf a b e = absurd b
one_leaf_only n [] (o ∷ os) (suc d) (m ∷ ms) rest more mark leaf a b e = absurd (a.1 b.0)
one_leaf_only n (o ∷ os) [] zero marks rest more mark leaf a b e = absurd a
one_leaf_only n (o ∷ os) [] (suc d) [] rest more mark leaf a b e = absurd a
one_leaf_only n (o ∷ os) [] (suc d) (m ∷ ms) rest more mark leaf a b e = absurd (b.1 a.0)
one_leaf_only n (o ∷ os) (k ∷ ks) zero marks rest more mark leaf a b e = absurd a
one_leaf_only n (o ∷ os) (k ∷ ks) (suc d) [] rest more mark leaf a b e = absurd a
one_leaf_only n (o ∷ os) (k ∷ ks) (suc d) (m ∷ ms) rest more mark leaf (plus, low, high, (behind, before, on)) (_, _, _, (past, others, further)) e =
    let same : o ≡ k = cc in
    let tails : os ++ rest ≡ ks ++ more = cc in
    let here : Children (Subtree AnyLeaf n d) [] (range_with_len 1 (o - 1)) ms past = subst (λ w. Children (Subtree AnyLeaf n d) [] (range_with_len 1 (w - 1)) ms past) (sym same) others in
    let at : behind ≡ past = children_end (Subtree AnyLeaf n d) (Subtree AnyLeaf n d) (subtree_end AnyLeaf AnyLeaf n d) [] [] (range_with_len 1 (o - 1)) ms behind past before here in
    let one = one_leaf_only n os ks d behind rest more mark leaf on (subst (λ x. LeadsToLeaf n ks d x leaf) (sym at) further) tails in
    (let list = one.0 in cc, one.1)

-- what the mark of a leaf can be
pub leaf_mark : (n : ℕ) (owners : List ℕ) (d : ℕ) (p marks r : List ℕ) (mark : ℕ) → Subtree AnyLeaf n d p marks r → LeadsToLeaf n owners d marks mark
    → ((mark ≡ 45) × (length owners ≤ d)) ⊎ ((mark ≡ 61) × (length owners ≡ d))
leaf_mark n [] d p [] r mark h leads = absurd leads
leaf_mark n [] zero p (m ∷ ms) r mark h leads = ⊎_elim
    (λ (x : m ≡ 45). inl (sym leads.0 ∙ x, omega arith))
    (λ (x : m ≡ 61). inr (sym leads.0 ∙ x, refl))
    h.0
leaf_mark n [] (suc d) p (m ∷ ms) r mark (inl h) leads = inl (sym leads.0 ∙ h.0, omega arith)
leaf_mark n [] (suc d) p (m ∷ ms) r mark (inr h) leads = absurd (leads.1 h.0)
leaf_mark n (o ∷ os) zero p marks r mark h leads = absurd leads
leaf_mark n (o ∷ os) (suc d) p [] r mark h leads = absurd leads
leaf_mark n (o ∷ os) (suc d) p (m ∷ ms) r mark (inl h) leads = absurd (let e = h.0 in let f = leads.0 in omega arith)
leaf_mark n (o ∷ os) (suc d) p (m ∷ ms) r mark (inr h) (plus, low, high, (behind, before, on)) =
    let (here, after, others, child) = child_of (Subtree AnyLeaf n d) p n o ms r low high h.1 in
    let e : here ≡ behind = children_end (Subtree AnyLeaf n d) (Subtree AnyLeaf n d) (subtree_end AnyLeaf AnyLeaf n d) p [] (range_with_len 1 (o - 1)) ms here behind others before in
    ⊎_elim
    (λ (x : (mark ≡ 45) × (length os ≤ d)). inl (x.0, let l = x.1 in omega arith))
    (λ (x : (mark ≡ 61) × (length os ≡ d)). inr (x.0, let l = x.1 in omega arith))
    (leaf_mark n os d (p ++ o ∷ []) here after mark child (subst (λ x. LeadsToLeaf n os d x mark) (sym e) on))
