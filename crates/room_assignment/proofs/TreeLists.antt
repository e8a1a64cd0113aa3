-- The laws of alternating trees, for the lists of the code.
use Rattle.std.proofs.Common.{◌≡◌, ◌≢◌, ℕ, ℤ, pos, ◌+◌, ◌*◌, ◌<◌, ◌≤◌, ◌+ℤ◌, ◌-ℤ◌, ◌≤ℤ◌, List, [], ◌∷◌, ◌++◌, length, replicate, take, set, cond, get_or, unsigned_abs, Bool, true, false, arith, sym, ap, ◌∙◌, subst, ◌⊎◌, ⊎_elim}
use Rattle.std.proofs.lemmas.Int.{ints}
use Rattle.std.proofs.lemmas.Bool.{cases_lt}
use Rattle.std.proofs.lemmas.List.{get_or_read, append-nil, drop_all, take_all, get_or-replicate, length-replicate, get_or_past, length-set, get_or-set_same, get_or-set_other}
use Rattle.std.proofs.lemmas.List.Sums.{sum_by-set}
use Rattle.std.specs.List.{refill, swap, range_with_len}
use Rattle.std.specs.List.Sorted.{IsPermutation}
use Rattle.arrayvec.specs.declared.array_vec.ArrayVec.{ArrayVec}
use Rattle.room_assignment.specs.declared.limits.TheConstants.{MOST_KEY}
use Rattle.room_assignment.specs.Matrix.{Matrix, entry}
use Rattle.room_assignment.specs.declared.tree.Tree.{Tree}
use Rattle.room_assignment.specs.declared.tree.Plan.{Plan}
use Rattle.room_assignment.specs.declared.tree.Choice.{Choice}
use Rattle.room_assignment.specs.Tree.{AreKeys, IsMatchedPlan, IsTreeOf, IsChoice, IsLeastChoice, slack_of, numbers, marks, plan_of, missing, AreAdjusted, IsSlack, HasJoined, IsMost, IsMatched}
use Rattle.room_assignment.proofs.AlternatingTrees.{left_small, right_small, adjusted, adjusted_tight, grown, augmented, nobody_matched}
use Rattle.split_lemmas.proofs.ListPlaces.{push_place}
use Rattle.split_lemmas.proofs.Permutations.{permutation_length, permutation_below}

-- how great the dual numbers of members are
pub tree_left_small : (m : ℕ) (keys : Matrix) (tree : Tree) → AreKeys keys → IsTreeOf m keys tree → (i : ℕ) → i < length keys.items → unsigned_abs (numbers tree.left.items i) ≤ MOST_KEY
tree_left_small m keys tree k g = left_small (length keys.items) m (entry keys) (numbers tree.left.items) (numbers tree.right.items) tree.rooms.items (marks tree.in_tree.items) (marks tree.labelled.items) (plan_of tree) g.low g.grown k.keys_small

-- how great the dual numbers of rooms are
pub tree_right_small : (m : ℕ) (keys : Matrix) (tree : Tree) → AreKeys keys → IsTreeOf m keys tree → (j : ℕ) → j < length keys.items → unsigned_abs (numbers tree.right.items j) ≤ 2 * MOST_KEY
tree_right_small m keys tree k g = right_small (length keys.items) m (entry keys) (numbers tree.left.items) (numbers tree.right.items) tree.rooms.items (marks tree.in_tree.items) (marks tree.labelled.items) (plan_of tree) g.low g.grown k.keys_small

-- how great the slack of a choice is
pub choice_small : (m : ℕ) (keys : Matrix) (tree : Tree) (choice : Choice) → AreKeys keys → IsTreeOf m keys tree → IsChoice keys tree choice → unsigned_abs choice.slack ≤ 4 * MOST_KEY
choice_small m keys tree choice k g h =
    let a = tree_left_small m keys tree k g choice.member h.member in
    let b = tree_right_small m keys tree k g choice.room h.room in
    let d = k.keys_small choice.member choice.room h.member h.room in
    let e = h.is in
    omega (arith, ints)

-- one number more, lowered where it is marked
pub lowered_more : (values xs : List ℤ) (marked : List Bool) (by x : ℤ) (k : ℕ) → length xs ≡ k
    → ((i : ℕ) → i < k → marks marked i ≡ true → numbers xs i ≡ numbers values i -ℤ by) → ((i : ℕ) → i < k → marks marked i ≡ false → numbers xs i ≡ numbers values i)
    → (marks marked k ≡ true → x ≡ numbers values k -ℤ by) → (marks marked k ≡ false → x ≡ numbers values k)
    → ((i : ℕ) → i < k + 1 → marks marked i ≡ true → numbers (xs ++ x ∷ []) i ≡ numbers values i -ℤ by) × ((i : ℕ) → i < k + 1 → marks marked i ≡ false → numbers (xs ++ x ∷ []) i ≡ numbers values i)
lowered_more values xs marked by x k e f g here there = (
  push_place (λ i z. marks marked i ≡ true → z ≡ numbers values i -ℤ by) k xs x e f here,
  push_place (λ i z. marks marked i ≡ false → z ≡ numbers values i) k xs x e g there,
)

-- lists that were lowered where they are marked are adjusted dual numbers
pub are_adjusted : (n : ℕ) (d d' : ℤ) (T L t u : List Bool) (l r a b l' r' : List ℤ) → length l ≡ n → length r ≡ n → a ≡ l → b ≡ r → t ≡ T → u ≡ L → d' ≡ pos 0 -ℤ d
    → ((i : ℕ) → i < length a → marks t i ≡ true → numbers l' i ≡ numbers a i -ℤ d) → ((i : ℕ) → i < length a → marks t i ≡ false → numbers l' i ≡ numbers a i)
    → ((i : ℕ) → i < length b → marks u i ≡ true → numbers r' i ≡ numbers b i -ℤ d') → ((i : ℕ) → i < length b → marks u i ≡ false → numbers r' i ≡ numbers b i)
    → AreAdjusted n d (marks T) (marks L) (numbers l) (numbers r) (numbers l') (numbers r')
are_adjusted n d d' T L t u l r a b l' r' count_l count_r ea eb et eu ed left_yes left_no right_yes right_no = record {
  left_in = λ i m x. left_yes i (subst (λ k. i < k) (sym (ap length ea ∙ count_l)) m) (ap (λ (z : List Bool). marks z i) et ∙ x) ∙ ap (λ (z : List ℤ). numbers z i -ℤ d) ea;
  left_out = λ i m x. left_no i (subst (λ k. i < k) (sym (ap length ea ∙ count_l)) m) (ap (λ (z : List Bool). marks z i) et ∙ x) ∙ ap (λ (z : List ℤ). numbers z i) ea;
  right_in = λ i m x.
      let h = right_yes i (subst (λ k. i < k) (sym (ap length eb ∙ count_r)) m) (ap (λ (z : List Bool). marks z i) eu ∙ x) ∙ ap (λ (z : List ℤ). numbers z i -ℤ d') eb in
      omega (arith, ints);
  right_out = λ i m x. right_no i (subst (λ k. i < k) (sym (ap length eb ∙ count_r)) m) (ap (λ (z : List Bool). marks z i) eu ∙ x) ∙ ap (λ (z : List ℤ). numbers z i) eb;
}

-- dual numbers
abbrev pub Numbers : Type 0
Numbers = ArrayVec ℤ 12 (Unit {0})

-- the tree with adjusted dual numbers
pub adjusted_tree : (m : ℕ) (keys : Matrix) (old : Tree) (choice : Choice) (left right : Numbers) → IsTreeOf m keys old → IsLeastChoice keys old choice → length left.items ≡ length keys.items → length right.items ≡ length keys.items
    → AreAdjusted (length keys.items) choice.slack (marks old.in_tree.items) (marks old.labelled.items) (numbers old.left.items) (numbers old.right.items) (numbers left.items) (numbers right.items)
    → IsTreeOf m keys (record { rooms = old.rooms; left = left; right = right; in_tree = old.in_tree; labelled = old.labelled; plans = old.plans })
adjusted_tree m keys old choice left right g s a b shift = record {
  low = g.low;
  counts = record { lefts = a; rights = b; members = g.counts.members; rooms = g.counts.rooms; plans = g.counts.plans };
  grown = adjusted (length keys.items) m (entry keys) (numbers old.left.items) (numbers old.right.items) (numbers left.items) (numbers right.items) old.rooms.items (marks old.in_tree.items) (marks old.labelled.items) (plan_of old) choice.member choice.room choice.slack g.low g.grown s shift;
}

-- the adjusted dual numbers reach the key of the choice
pub adjusted_reach : (m : ℕ) (keys : Matrix) (old : Tree) (choice : Choice) (left right : Numbers) → IsLeastChoice keys old choice
    → AreAdjusted (length keys.items) choice.slack (marks old.in_tree.items) (marks old.labelled.items) (numbers old.left.items) (numbers old.right.items) (numbers left.items) (numbers right.items)
    → numbers left.items choice.member +ℤ numbers right.items choice.room ≡ entry keys choice.member choice.room
adjusted_reach m keys old choice left right s shift = adjusted_tight (length keys.items) (entry keys) (numbers old.left.items) (numbers old.right.items) (numbers left.items) (numbers right.items) (marks old.in_tree.items) (marks old.labelled.items) choice.member choice.room choice.slack s shift

-- the tree has a room for each member
pub rooms_count : (m : ℕ) (keys : Matrix) (tree : Tree) → IsTreeOf m keys tree → length tree.rooms.items ≡ length keys.items
rooms_count m keys tree g = permutation_length 0 (length keys.items) tree.rooms.items g.grown.permutation

-- the first choice is the next member with its own room
pub first_choice : (m : ℕ) (keys : Matrix) (tree : Tree) (room : ℕ) (d : ℤ) → IsTreeOf m keys tree → room ≡ get_or tree.rooms.items m 0 → d ≡ slack_of keys tree m room
    → IsSlack (length keys.items) (entry keys) (numbers tree.left.items) (numbers tree.right.items) (marks tree.in_tree.items) (marks tree.labelled.items) m room d
first_choice m keys tree room d g e f = record {
  member = g.low;
  room = subst (λ r. r < length keys.items) (sym e) (permutation_below (length keys.items) tree.rooms.items m g.grown.permutation g.low);
  inside = g.grown.root;
  outside = ap (marks tree.labelled.items) e ∙ g.grown.free m (omega arith) g.low;
  is = f;
}

-- that room is one of the rooms
pub first_room : (m : ℕ) (keys : Matrix) (tree : Tree) (room : ℕ) → IsTreeOf m keys tree → room ≡ get_or tree.rooms.items m 0 → room < length keys.items
first_room m keys tree room g e = subst (λ r. r < length keys.items) (sym e) (permutation_below (length keys.items) tree.rooms.items m g.grown.permutation g.low)

-- the least so far, one member more
pub least_more : (keys : Matrix) (tree : Tree) (k : ℕ) (old new : ℤ) → ((i r : ℕ) → i < k → r < length keys.items → marks tree.in_tree.items i ≡ true → marks tree.labelled.items r ≡ false → old ≤ℤ slack_of keys tree i r)
    → new ≤ℤ old → (marks tree.in_tree.items k ≡ true → (r : ℕ) → r < length keys.items → marks tree.labelled.items r ≡ false → new ≤ℤ slack_of keys tree k r)
    → (i r : ℕ) → i < k + 1 → r < length keys.items → marks tree.in_tree.items i ≡ true → marks tree.labelled.items r ≡ false → new ≤ℤ slack_of keys tree i r
least_more keys tree k old new h kept here i r l m t u = ⊎_elim
    (λ (early : i < k). let a = h i r early m t u in omega (arith, ints))
    (λ late. let is : i ≡ k = omega arith in subst (λ j. new ≤ℤ slack_of keys tree j r) (sym is) (here (ap (marks tree.in_tree.items) (sym is) ∙ t) r m u))
    (cases_lt i k)

-- the least so far, one room more
pub rooms_more : (keys : Matrix) (tree : Tree) (member k : ℕ) (old new : ℤ) → ((r : ℕ) → r < k → marks tree.labelled.items r ≡ false → old ≤ℤ slack_of keys tree member r)
    → new ≤ℤ old → (marks tree.labelled.items k ≡ false → new ≤ℤ slack_of keys tree member k)
    → (r : ℕ) → r < k + 1 → marks tree.labelled.items r ≡ false → new ≤ℤ slack_of keys tree member r
rooms_more keys tree member k old new h kept here r l u = ⊎_elim
    (λ (early : r < k). let a = h r early u in omega (arith, ints))
    (λ late. let is : r ≡ k = omega arith in subst (λ j. new ≤ℤ slack_of keys tree member j) (sym is) (here (ap (marks tree.labelled.items) (sym is) ∙ u)))
    (cases_lt r k)

-- a list written back over itself
pub refill_same : {X : Type 0} (xs ws : List X) → length ws ≡ length xs → refill (length xs) xs ws ≡ ws
refill_same xs ws e =
    let past : length xs ≤ length ws = omega arith in
    let all : length (ws ++ []) ≤ length xs = simp append-nil (omega arith) in
    ap (λ ys. take (length xs) (ws ++ ys)) (drop_all (length ws) xs past) ∙ take_all (length xs) (ws ++ []) all ∙ append-nil ws

-- a list of rooms
abbrev pub Order : Type 0
Order = ArrayVec ℕ 12 (Unit {0})

-- marks of members or rooms
abbrev pub Flags : Type 0
Flags = ArrayVec Bool 12 (Unit {0})

-- a list of rooms for each member
abbrev pub Orders : Type 0
Orders = ArrayVec Order 12 (Unit {0})

-- a member who holds a room that is not labelled is not in the tree
pub holder_outside : (m : ℕ) (keys : Matrix) (old : Tree) (member room holder : ℕ) → IsTreeOf m keys old → member < length keys.items → holder < length keys.items → marks old.in_tree.items member ≡ true
    → marks old.labelled.items room ≡ false → get_or (plan_of old member) holder 0 ≡ room → holder ≢ member → marks old.in_tree.items holder ≡ false
holder_outside m keys old member room holder g l a t u e apart =
    let p = g.grown.plans member l t in
    p.same holder a apart ∙ ap (marks old.labelled.items) e ∙ u

-- one member less is missing
pub fewer_missing : (xs : List Bool) (h : ℕ) → h < length xs → marks xs h ≡ false → missing (set xs h true) < missing xs
fewer_missing xs h l e =
    let moved_sum = sum_by-set (λ (b : Bool). cond b 0 1) xs h true false l in
    let none : ℕ = 0 in
    let one : cond (get_or xs h false) none 1 ≡ 1 = ap (λ (b : Bool). cond b none 1) e in
    omega (arith, moved_sum, one)

-- the tree with one member more
pub grown_tree : (m : ℕ) (keys : Matrix) (old : Tree) (member room holder : ℕ) (in_tree labelled : Flags) (plans : Orders) (new : Order) → IsTreeOf m keys old → member < length keys.items → room < length keys.items → marks old.in_tree.items member ≡ true
    → marks old.labelled.items room ≡ false → get_or (plan_of old member) holder 0 ≡ room → holder ≢ member → holder ≤ m → numbers old.left.items member +ℤ numbers old.right.items room ≡ entry keys member room
    → in_tree.items ≡ set old.in_tree.items holder true → labelled.items ≡ set old.labelled.items room true → plans.items ≡ set old.plans.items holder new → new.items ≡ swap (plan_of old member) member holder
    → IsTreeOf m keys (record { rooms = old.rooms; left = old.left; right = old.right; in_tree = in_tree; labelled = labelled; plans = plans })
grown_tree m keys old member room holder in_tree labelled plans new g l b t u e apart high tie ei el ep en =
    let low = g.low in
    let a : holder < length keys.items = omega arith in
    let there : holder < length old.in_tree.items = subst (λ k. holder < k) (sym g.counts.members) a in
    let here : room < length old.labelled.items = subst (λ k. room < k) (sym g.counts.rooms) b in
    let place : holder < length old.plans.items = subst (λ k. holder < k) (sym g.counts.plans) a in
    let none : Order = record { items = [] } in
    record {
      low = low;
      counts = record {
        lefts = g.counts.lefts;
        rights = g.counts.rights;
        members = ap length ei ∙ length-set old.in_tree.items holder true ∙ g.counts.members;
        rooms = ap length el ∙ length-set old.labelled.items room true ∙ g.counts.rooms;
        plans = ap length ep ∙ length-set old.plans.items holder new ∙ g.counts.plans;
      };
      grown = grown (length keys.items) m (entry keys) (numbers old.left.items) (numbers old.right.items) old.rooms.items (marks old.in_tree.items) (marks old.labelled.items) (marks in_tree.items) (marks labelled.items)
          (plan_of old) (λ k. (get_or plans.items k none).items) member holder low g.grown l a t apart high
          (subst (λ r. numbers old.left.items member +ℤ numbers old.right.items r ≡ entry keys member r) (sym e) tie)
          (ap (marks old.labelled.items) e ∙ u)
          (subst (λ r. HasJoined holder r (marks old.in_tree.items) (marks old.labelled.items) (marks in_tree.items) (marks labelled.items)) (sym e) (record {
            inside = ap (λ (zs : List Bool). marks zs holder) ei ∙ get_or-set_same old.in_tree.items holder true false there;
            outside = ap (λ (zs : List Bool). marks zs room) el ∙ get_or-set_same old.labelled.items room true false here;
            members = λ i x. ap (λ (zs : List Bool). marks zs i) ei ∙ get_or-set_other old.in_tree.items holder i true false x;
            rooms = λ r x. ap (λ (zs : List Bool). marks zs r) el ∙ get_or-set_other old.labelled.items room r true false x;
          }))
          (ap (λ (zs : List Order). (get_or zs holder none).items) ep ∙ ap (λ (o : Order). o.items) (get_or-set_same old.plans.items holder new none place) ∙ en)
          (λ i x. ap (λ (zs : List Order). (get_or zs i none).items) ep ∙ ap (λ (o : Order). o.items) (get_or-set_other old.plans.items holder i new none x));
    }

-- the plan of a member has a room for each member
pub plan_count : (m : ℕ) (keys : Matrix) (tree : Tree) (k : ℕ) → IsTreeOf m keys tree → k < length keys.items → marks tree.in_tree.items k ≡ true → length (plan_of tree k) ≡ length keys.items
plan_count m keys tree k g l t = let p = g.grown.plans k l t in permutation_length 0 (length keys.items) (plan_of tree k) p.permutation

-- the plan that the code reads
pub read_plan : (tree : Tree) (items : List Order) (member : ℕ) (row : Order) (slice : List ℕ) → items ≡ tree.plans.items → member < length items → row ≡ get_or items member row → slice ≡ row.items → slice ≡ plan_of tree member
read_plan tree items member row slice e l is f =
    let none : Order = record { items = [] } in
    f ∙ ap (λ (o : Order). o.items) (get_or_read items member row l is none) ∙ ap (λ (zs : List Order). (get_or zs member none).items) e

-- a list after a write at one place
pub written : {X : Type 0} (xs ys : List X) (h : ℕ) (v : X) → ys ≡ xs → refill (length xs) xs (set ys h v) ≡ set xs h v
written {X} xs ys h v e = ap (λ (zs : List X). refill (length xs) xs (set zs h v)) e ∙ refill_same xs (set xs h v) (length-set xs h v)

-- the plan in which the tree ends
pub augmented_plan : (m : ℕ) (keys : Matrix) (tree : Tree) (member holder : ℕ) (new : Order) → IsTreeOf m keys tree → member < length keys.items → holder < length keys.items → marks tree.in_tree.items member ≡ true
    → numbers tree.left.items member +ℤ numbers tree.right.items (get_or (plan_of tree member) holder 0) ≡ entry keys member (get_or (plan_of tree member) holder 0)
    → (holder ≡ member) ⊎ (m < holder) → new.items ≡ swap (plan_of tree member) member holder → IsMatchedPlan (m + 1) keys (record { rooms = new; left = tree.left; right = tree.right })
augmented_plan m keys tree member holder new g l a t tie end e = record {
  lefts = g.counts.lefts;
  rights = g.counts.rights;
  matched = augmented (length keys.items) m (entry keys) (numbers tree.left.items) (numbers tree.right.items) tree.rooms.items (marks tree.in_tree.items) (marks tree.labelled.items) (plan_of tree) member holder new.items g.low g.grown l a t tie end e;
}

-- the plan that is read is a permutation
pub read_permutation : (m : ℕ) (keys : Matrix) (tree : Tree) (member : ℕ) (slice : List ℕ) → IsTreeOf m keys tree → member < length keys.items → marks tree.in_tree.items member ≡ true → slice ≡ plan_of tree member
    → IsPermutation (range_with_len 0 (length slice)) slice × (length slice ≡ length keys.items)
read_permutation m keys tree member slice g l t e =
    let count : length slice ≡ length keys.items = ap length e ∙ plan_count m keys tree member g l t in
    let p = g.grown.plans member l t in
    (subst (λ k. IsPermutation (range_with_len 0 k) slice) (sym count) (subst (λ zs. IsPermutation (range_with_len 0 (length keys.items)) zs) (sym e) p.permutation), count)

-- the first plan settles nobody
pub first_matched : (keys : Matrix) (plan : Plan) → plan.rooms.items ≡ range_with_len 0 (length keys.items) → length plan.left.items ≡ length keys.items → plan.right.items ≡ replicate (length keys.items) (pos 0)
    → ((i : ℕ) → i < length keys.items → IsMost keys i (numbers plan.left.items i)) → IsMatchedPlan 0 keys plan
first_matched keys plan e count zeros most =
    let zero_at : (j : ℕ) → numbers plan.right.items j ≡ pos 0 = λ j. ap (λ (zs : List ℤ). numbers zs j) zeros ∙ ⊎_elim
    (λ (l : j < length keys.items). get_or-replicate (length keys.items) j (pos 0) (pos 0) l)
    (λ (l : length keys.items ≤ j). get_or_past (replicate (length keys.items) (pos 0)) j (pos 0) (let r = length-replicate (length keys.items) (pos 0) in omega arith))
    (cases_lt j (length keys.items)) in
    record {
      lefts = count;
      rights = ap length zeros ∙ length-replicate (length keys.items) (pos 0);
      matched = subst (IsMatched (length keys.items) 0 (entry keys) (numbers plan.left.items) (numbers plan.right.items)) (sym e)
          (nobody_matched (length keys.items) (entry keys) (numbers plan.left.items) (numbers plan.right.items)
          (λ i j l m. let a = (most i l).bound j m in let b = zero_at j in omega (arith, ints))
          (λ i l. (most i l).top) zero_at);
    }
