-- What one node changes of a walk.
use Rattle.std.proofs.Common.{◌≡◌, ℕ, ◌+◌, ◌<◌, ◌≤◌, ◌&&◌, List, [], ◌∷◌, ◌++◌, All, length, take, get_or, arith, refl, sym, ap, ◌∙◌, subst, ◌↔◌, Bool, true, false, IsTrue, reverse, append_assoc, append-nil}
use Rattle.std.proofs.lemmas.List.Elements.{All-append, All-cons, All-head, All-nil, All-same, All-tail}
use Rattle.bid_rules.specs.declared.goods.GoodsCase.{GoodsCase}
use Rattle.bid_rules.specs.Goods.{AreOwners, player_count}
use Rattle.prefix_trees.specs.declared.walk.Walk.{Walk}
use Rattle.prefix_trees.specs.Ahead.{FinishesAt, FinishesTree, IsFirst, IsLeft, IsNextAfter, IsWalk, IsWalked, has_tree}
use Rattle.prefix_trees.specs.Tree.{IsTree}
use Rattle.prefix_trees.proofs.PathSteps.{both_ways, end_state, inner_node, leaf_node, next_after, no_inner, root_tree}

-- an inner node goes down
pub goes_down : {N : Type 0} (inner : N → Type 0) (leaf : List ℕ → List N → N → Type 0) (n g : ℕ) (whole more : Bool) (path longer : List ℕ) (above below : List N) (node : N) (nodes : List N)
    → whole ≡ false → more ≡ whole → longer ≡ path ++ 1 ∷ [] → below ≡ above ++ node ∷ [] → 1 ≤ n → length path < g → inner node
    → FinishesTree inner leaf n g whole path above (node ∷ nodes) ↔ FinishesTree inner leaf n g more longer below nodes
goes_down inner leaf n g true more path longer above below node nodes going on e f some low is = absurd (cc)
goes_down inner leaf n g false true path longer above below node nodes going on e f some low is = absurd (cc)
goes_down inner leaf n g false false path longer above below node nodes going on e f some low is = inner_node inner leaf n g path longer above below node nodes e f some low is

-- an inner node that cannot stand ends all
pub stands_not : {N : Type 0} (inner : N → Type 0) (leaf : List ℕ → List N → N → Type 0) (n g : ℕ) (whole : Bool) (path : List ℕ) (above : List N) (node : N) (nodes : List N)
    → whole ≡ false → g ≤ length path → inner node → FinishesTree inner leaf n g whole path above (node ∷ nodes) → ⊥
stands_not inner leaf n g true path above node nodes going full is h = cc
stands_not inner leaf n g false path above node nodes going full is h = no_inner inner leaf n g path above node nodes full is h

-- and so does a node behind a whole tree
pub none_stands : {N : Type 0} (inner : N → Type 0) (leaf : List ℕ → List N → N → Type 0) (n g : ℕ) (whole : Bool) (path : List ℕ) (above : List N) (node : N) (nodes : List N)
    → whole ≡ true → FinishesTree inner leaf n g whole path above (node ∷ nodes) → ⊥
none_stands inner leaf n g true path above node nodes ended h = cc
none_stands inner leaf n g false path above node nodes ended h = cc

-- a leaf is judged, and the node after it comes
pub goes_on : {N : Type 0} (inner : N → Type 0) (leaf : List ℕ → List N → N → Type 0) (n g : ℕ) (P Q : Type 0) (whole ended : Bool) (path next : List ℕ) (above tops : List N) (node : N) (nodes : List N)
    → whole ≡ false → (inner node → ⊥) → (Q ↔ P × leaf path above node) → length above ≡ length path → tops ≡ take (length next) above → IsNextAfter n path ended next
    → (P × FinishesTree inner leaf n g whole path above (node ∷ nodes)) ↔ (Q × FinishesTree inner leaf n g ended next tops nodes)
goes_on inner leaf n g P Q true ended path next above tops node nodes going other is count to after = absurd (cc)
goes_on inner leaf n g P Q false ended path next above tops node nodes going other is count to after =
    let step = leaf_node inner leaf n g path above node nodes other in
    let more = next_after inner leaf n g path ended next above tops nodes count to after in (
      λ h. let two = step.0 h.1 in (is.1 (h.0, two.0), more.0 two.1),
      λ h. let two = is.0 h.0 in (two.0, step.1 (two.1, more.1 h.1)),
    )

-- one step of a walk that has taken some nodes
pub walked_on : {N : Type 0} (inner : N → Type 0) (leaf : ℕ → List ℕ → List N → N → Type 0) (case : GoodsCase) (old : Walk N) (node : N) (new : Walk N) (taken : List N)
    → ((number : ℕ) (nodes : List N) → IsLeft inner leaf case old number (node ∷ nodes) ↔ IsLeft inner leaf case new number nodes)
    → IsWalk case new → IsWalked inner leaf case taken old → IsWalked inner leaf case (taken ++ node ∷ []) new
walked_on {N = N} inner leaf case old node new taken step place h = record {
  place = place;
  left = λ number nodes.
      let same : taken ++ (node ∷ nodes) ≡ (taken ++ node ∷ []) ++ nodes = sym (append_assoc taken (node ∷ []) nodes) in
      subst (λ (ns : List N). IsTree inner (leaf number) (player_count case) case.facts.goods ns ↔ IsLeft inner leaf case new number nodes) same
      (both_ways (h.left number (node ∷ nodes)) (step number nodes));
}

-- what holds of each element holds of the first ones
first_ones : (P : ℕ → Type 0) (xs ys : List ℕ) → All P (xs ++ ys) → All P xs
first_ones P [] ys h = All-nil P
first_ones P (x ∷ xs) ys h = All-cons P x xs (All-head P x (xs ++ ys) h) (first_ones P xs ys (All-tail P x (xs ++ ys) h))

-- its owners are players
pub next_owned : (case : GoodsCase) (old : List ℕ) (ended : Bool) (new : List ℕ) → IsNextAfter (player_count case) old ended new → AreOwners case old → AreOwners case new
next_owned case old true new (full, none) owned = All-same (λ (o : ℕ). (1 ≤ o) × (o ≤ player_count case)) new [] none (All-nil (λ (o : ℕ). (1 ≤ o) × (o ≤ player_count case)))
next_owned case old false new (above, owner, last, is, low, full, next) owned =
    let P : ℕ → Type 0 = λ o. (1 ≤ o) × (o ≤ player_count case) in
    let all = first_ones P (above ++ owner ∷ []) last (All-same P ((above ++ owner ∷ []) ++ last) old (sym is) owned) in
    All-same P new (above ++ (owner + 1) ∷ []) next (All-append P above ((owner + 1) ∷ []) (first_ones P above (owner ∷ []) all) (All-cons P (owner + 1) [] (omega arith, omega arith) (All-nil P)))

-- and after the last node it is the root
pub next_ended : (n : ℕ) (old : List ℕ) (ended : Bool) (new : List ℕ) → IsNextAfter n old ended new → ended ≡ true → new ≡ []
next_ended n old true new after e = after.1
next_ended n old false new after e = absurd (cc)

-- before the first node, the whole tree is to come
pub walk_first : {N : Type 0} (inner : N → Type 0) (leaf : ℕ → List ℕ → List N → N → Type 0) (case : GoodsCase) (walk : Walk N) → IsFirst walk → IsWalked inner leaf case [] walk
walk_first {N = N} inner leaf case walk first = record {
  place = record {
    front = record {
      short = let none = ap length first.root in omega arith;
      owned = All-same (λ (o : ℕ). (1 ≤ o) × (o ≤ player_count case)) walk.owners.items [] first.root (All-nil (λ (o : ℕ). (1 ≤ o) × (o ≤ player_count case)));
    };
    ended = λ ended. first.root;
    tops = ap length first.tops ∙ sym (ap length first.root);
    forks = record {
      count = let none = ap length first.forks in let root = ap length first.root in omega arith;
      each = λ k other l. absurd (let root = ap length first.root in omega arith);
    };
  };
  left = λ number nodes.
      let start = root_tree inner (leaf number) (player_count case) case.facts.goods nodes in
      let to : FinishesAt inner (leaf number) (player_count case) case.facts.goods [] [] nodes ≡ FinishesTree inner (leaf number) (player_count case) case.facts.goods walk.whole walk.owners.items walk.above.items nodes =
      ap (λ p. FinishesAt inner (leaf number) (player_count case) case.facts.goods (reverse p) [] nodes) (sym first.root)
      ∙ ap (λ (ts : List N). FinishesAt inner (leaf number) (player_count case) case.facts.goods (reverse walk.owners.items) (reverse ts) nodes) (sym first.tops)
      ∙ ap (λ b. FinishesTree inner (leaf number) (player_count case) case.facts.goods b walk.owners.items walk.above.items nodes) (sym first.going) in (
        λ tree. (first.kept, first.holds number, subst (λ P. P) to (start.1 tree)),
        λ h. start.0 (subst (λ P. P) (sym to) h.2),
      );
}

-- three tests at once
all_three : (a b c : Bool) → IsTrue (a && b && c) ↔ IsTrue a × IsTrue b × IsTrue c
all_three true true true = (λ h. (refl, refl, refl), λ h. refl)
all_three true true false = (λ h. absurd (let no : false ≡ true = h in cc), λ h. absurd (let no : false ≡ true = h.2 in cc))
all_three true false c = (λ h. absurd (let no : false ≡ true = h in cc), λ h. absurd (let no : false ≡ true = h.1 in cc))
all_three false b c = (λ h. absurd (let no : false ≡ true = h in cc), λ h. absurd (let no : false ≡ true = h.0 in cc))

-- at its end a walk says what the nodes are
pub walk_last : {N : Type 0} (inner : N → Type 0) (leaf : ℕ → List ℕ → List N → N → Type 0) (case : GoodsCase) (taken : List N) (walk : Walk N) (number : ℕ) → IsWalked inner leaf case taken walk
    → IsTrue (has_tree walk number) ↔ IsTree inner (leaf number) (player_count case) case.facts.goods taken
walk_last {N = N} inner leaf case taken walk number h =
    let end = end_state inner (leaf number) (player_count case) case.facts.goods walk.whole walk.owners.items walk.above.items [] refl in
    let is : IsTree inner (leaf number) (player_count case) case.facts.goods taken ↔ IsLeft inner leaf case walk number [] =
    subst (λ (ns : List N). IsTree inner (leaf number) (player_count case) case.facts.goods ns ↔ IsLeft inner leaf case walk number []) (append-nil taken) (h.left number []) in
    let three = all_three walk.kept walk.whole (get_or walk.holds number true) in (
      λ yes. let all = three.0 yes in is.1 (all.0, all.2, end.0 all.1),
      λ tree. let all = is.0 tree in three.1 (all.0, end.1 all.2, all.1),
    )

-- a step down to the first child of an inner node
pub walk_down : {N : Type 0} (inner : N → Type 0) (leaf : ℕ → List ℕ → List N → N → Type 0) (case : GoodsCase) (old : Walk N) (node : N) (new : Walk N)
    → old.whole ≡ false → new.whole ≡ old.whole → new.kept ≡ old.kept → new.holds ≡ old.holds → new.owners.items ≡ old.owners.items ++ 1 ∷ [] → new.above.items ≡ old.above.items ++ node ∷ []
    → 1 ≤ player_count case → length old.owners.items < case.facts.goods → inner node
    → (number : ℕ) (nodes : List N) → IsLeft inner leaf case old number (node ∷ nodes) ↔ IsLeft inner leaf case new number nodes
walk_down {N = N} inner leaf case old node new going still kept holds longer below some low is number nodes =
    let step = goes_down inner (leaf number) (player_count case) case.facts.goods old.whole new.whole old.owners.items new.owners.items old.above.items new.above.items node nodes going still longer below some low is in
    let same : get_or new.holds number true ≡ get_or old.holds number true = ap (λ bs. get_or bs number true) holds in (
      λ h. (subst IsTrue (sym kept) h.0, subst IsTrue (sym same) h.1, step.0 h.2),
      λ h. (subst IsTrue kept h.0, subst IsTrue same h.1, step.1 h.2),
    )

-- a step over a leaf to the next node
pub walk_on : {N : Type 0} (inner : N → Type 0) (leaf : ℕ → List ℕ → List N → N → Type 0) (case : GoodsCase) (old : Walk N) (node : N) (new : Walk N)
    → old.whole ≡ false → new.kept ≡ old.kept
    → ((number : ℕ) → IsTrue (get_or new.holds number true) ↔ IsTrue (get_or old.holds number true) × leaf number old.owners.items old.above.items node)
    → length old.above.items ≡ length old.owners.items → new.above.items ≡ take (length new.owners.items) old.above.items → IsNextAfter (player_count case) old.owners.items new.whole new.owners.items
    → (inner node → ⊥) → (number : ℕ) (nodes : List N) → IsLeft inner leaf case old number (node ∷ nodes) ↔ IsLeft inner leaf case new number nodes
walk_on {N = N} inner leaf case old node new going kept holds tops to after other number nodes =
    let step = goes_on inner (leaf number) (player_count case) case.facts.goods (IsTrue (get_or old.holds number true)) (IsTrue (get_or new.holds number true)) old.whole new.whole old.owners.items new.owners.items
    old.above.items new.above.items node nodes going other (holds number) tops to after in (
      λ h. let two = step.0 (h.1, h.2) in (subst IsTrue (sym kept) h.0, two.0, two.1),
      λ h. let two = step.1 (h.1, h.2) in (subst IsTrue kept h.0, two.0, two.1),
    )
