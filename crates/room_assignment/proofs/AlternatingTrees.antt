-- Laws of alternating trees (Kuhn 1955; Munkres 1957): their dual numbers are adjusted, they grow, and they augment the assignment.
use Rattle.std.proofs.Common.{◌≡◌, ◌≢◌, ℕ, ℤ, pos, ◌+◌, ◌*◌, ◌<◌, ◌≤◌, ◌+ℤ◌, ◌≤ℤ◌, List, get_or, unsigned_abs, Bool, true, false, arith, refl, sym, ap, ◌∙◌, subst, ◌⊎◌, ⊎_elim}
use Rattle.std.specs.List.{range_with_len, swap}
use Rattle.std.specs.List.Sorted.{IsPermutation}
use Rattle.std.proofs.lemmas.Int.{ints}
use Rattle.std.proofs.lemmas.Bool.{cases_eq, cases_lt, both_ways}
use Rattle.std.proofs.lemmas.List.Edits.{Swapped, swapped_from_swap}
use Rattle.std.proofs.lemmas.List.Sorted.{IsPermutation-refl, IsPermutation-swap, IsPermutation-trans}
use Rattle.room_assignment.specs.declared.limits.TheConstants.{MOST_KEY}
use Rattle.room_assignment.specs.Tree.{Bounds, IsMatched, LeavesFree, IsAlternatingTree, AreAdjusted, IsLeastSlack, HasJoined}
use Rattle.split_lemmas.proofs.Permutations.{permutation_length, permutation_below, permutation_apart, permutation_place}

-- by the two cases of a test
by_Bool : {P : Type 0} (b : Bool) → (b ≡ true → P) → (b ≡ false → P) → P
by_Bool true f g = f refl
by_Bool false f g = g refl

-- the adjusted dual numbers still bound each key
adjusted_bound : (n : ℕ) (key : ℕ → ℕ → ℤ) (left right left' right' : ℕ → ℤ) (in_tree labelled : ℕ → Bool) (k j : ℕ) (d : ℤ) → Bounds n key left right → IsLeastSlack n key left right in_tree labelled k j d
    → AreAdjusted n d in_tree labelled left right left' right' → Bounds n key left' right'
adjusted_bound n key left right left' right' in_tree labelled k j d bound s adjusted i r l m =
    let here = bound i r l m in
    let some = bound k j s.pair.member s.pair.room in
    let is = s.pair.is in
    by_Bool (in_tree i)
    (λ t. by_Bool (labelled r)
    (λ u. let a = adjusted.left_in i l t in let b = adjusted.right_in r m u in omega (arith, ints))
    (λ u. let a = adjusted.left_in i l t in let b = adjusted.right_out r m u in let c = s.least i r l m t u in omega (arith, ints)))
    (λ t. by_Bool (labelled r)
    (λ u. let a = adjusted.left_out i l t in let b = adjusted.right_in r m u in omega (arith, ints))
    (λ u. let a = adjusted.left_out i l t in let b = adjusted.right_out r m u in omega (arith, ints)))

-- the adjusted dual numbers reach the key of the pair
pub adjusted_tight : (n : ℕ) (key : ℕ → ℕ → ℤ) (left right left' right' : ℕ → ℤ) (in_tree labelled : ℕ → Bool) (k j : ℕ) (d : ℤ) → IsLeastSlack n key left right in_tree labelled k j d
    → AreAdjusted n d in_tree labelled left right left' right' → left' k +ℤ right' j ≡ key k j
adjusted_tight n key left right left' right' in_tree labelled k j d s adjusted =
    let a = adjusted.left_in k s.pair.member s.pair.inside in
    let b = adjusted.right_out j s.pair.room s.pair.outside in
    let is = s.pair.is in
    omega (arith, ints)

-- the tree is still one after its dual numbers have adjusted
pub adjusted : (n m : ℕ) (key : ℕ → ℕ → ℤ) (left right left' right' : ℕ → ℤ) (rooms : List ℕ) (in_tree labelled : ℕ → Bool) (plan : ℕ → List ℕ) (k j : ℕ) (d : ℤ)
    → m < n → IsAlternatingTree n m key left right rooms in_tree labelled plan → IsLeastSlack n key left right in_tree labelled k j d → AreAdjusted n d in_tree labelled left right left' right'
    → IsAlternatingTree n m key left' right' rooms in_tree labelled plan
adjusted n m key left right left' right' rooms in_tree labelled plan k j d low g s shift = record {
  permutation = g.permutation;
  bound = adjusted_bound n key left right left' right' in_tree labelled k j d g.bound s shift;
  top = λ i l. let h = g.top i l in let some = g.bound k j s.pair.member s.pair.room in let is = s.pair.is in by_Bool (in_tree i)
      (λ t. let a = shift.left_in i l t in omega (arith, ints))
      (λ t. let a = shift.left_out i l t in omega (arith, ints));
  zero = λ i a l. shift.right_out (get_or rooms i 0) (permutation_below n rooms i g.permutation l) (g.free i a l) ∙ g.zero i a l;
  free = g.free;
  root = g.root;
  high = g.high;
  plans = λ p l t.
      let h : LeavesFree n m p key left right rooms in_tree labelled (plan p) = g.plans p l t in
      record {
        permutation = h.permutation;
        over = h.over;
        same = h.same;
        others = h.others;
        tight = λ i a apart.
            let within : i < n = omega arith in
            let room : get_or (plan p) i 0 < n = permutation_below n (plan p) i h.permutation within in
            let was = h.tight i a apart in
            let both = h.same i within apart in
            by_Bool (in_tree i)
            (λ u. let x = shift.left_in i within u in let y = shift.right_in (get_or (plan p) i 0) room (sym both ∙ u) in omega (arith, ints))
            (λ u. let x = shift.left_out i within u in let y = shift.right_out (get_or (plan p) i 0) room (sym both ∙ u) in omega (arith, ints));
      };
}

-- what a swap leaves at each place
swapped_at : (n : ℕ) (plan new : List ℕ) (k h : ℕ) → IsPermutation (range_with_len 0 n) plan → k < n → h < n → new ≡ swap plan k h → Swapped (λ i. get_or plan i 0) (λ i. get_or new i 0) k h
swapped_at n plan new k h p l m e =
    let count = permutation_length 0 n plan p in
    swapped_from_swap plan new k h 0 (omega arith) (omega arith) e

-- a swap leaves a permutation
swapped_permutation : (n : ℕ) (plan new : List ℕ) (k h : ℕ) → IsPermutation (range_with_len 0 n) plan → k < n → h < n → new ≡ swap plan k h → IsPermutation (range_with_len 0 n) new
swapped_permutation n plan new k h p l m e =
    let count = permutation_length 0 n plan p in
    IsPermutation-trans (range_with_len 0 n) plan new p (IsPermutation-swap plan new k h (omega arith) (omega arith) e)

-- the tree ends where the room is held by the member left over, or by one who is not matched
pub augmented : (n m : ℕ) (key : ℕ → ℕ → ℤ) (left right : ℕ → ℤ) (rooms : List ℕ) (in_tree labelled : ℕ → Bool) (plan : ℕ → List ℕ) (k h : ℕ) (new : List ℕ)
    → m < n → IsAlternatingTree n m key left right rooms in_tree labelled plan → k < n → h < n → in_tree k ≡ true → left k +ℤ right (get_or (plan k) h 0) ≡ key k (get_or (plan k) h 0)
    → (h ≡ k) ⊎ (m < h) → new ≡ swap (plan k) k h → IsMatched n (m + 1) key left right new
augmented n m key left right rooms in_tree labelled plan k h new low g l a t tie end e =
    let p : LeavesFree n m k key left right rooms in_tree labelled (plan k) = g.plans k l t in
    let s : Swapped (λ i. get_or (plan k) i 0) (λ i. get_or new i 0) k h = swapped_at n (plan k) new k h p.permutation l a e in
    record {
      permutation = swapped_permutation n (plan k) new k h p.permutation l a e;
      bound = g.bound;
      top = g.top;
      tight = λ i b. ⊎_elim
          (λ (same : i ≡ k). let is : get_or new i 0 ≡ get_or (plan k) h 0 = ap (λ j. get_or new j 0) same ∙ s.0 in
          subst (λ j. left j +ℤ right (get_or new i 0) ≡ key j (get_or new i 0)) (sym same) (subst (λ r. left k +ℤ right r ≡ key k r) (sym is) tie))
          (λ (apart : i ≡ k → ⊥).
          let other : i ≡ h → ⊥ = λ (x : i ≡ h). ⊎_elim (λ (y : h ≡ k). apart (x ∙ y)) (λ (y : m < h). absurd (omega arith)) end in
          let is : get_or new i 0 ≡ get_or (plan k) i 0 = s.2 i apart other in
          subst (λ r. left i +ℤ right r ≡ key i r) (sym is) (p.tight i (omega arith) apart))
          (cases_eq i k);
      zero = λ i b c. ⊎_elim
          (λ (same : i ≡ h). ⊎_elim
          (λ (y : h ≡ k). absurd (both_ways (in_tree k) (ap in_tree (sym (same ∙ y)) ∙ g.high i (omega arith) c) t))
          (λ (y : m < h). ap right (ap (λ j. get_or new j 0) same ∙ s.1 ∙ p.over) ∙ g.zero m (omega arith) low)
          end)
          (λ (other : i ≡ h → ⊥).
          let apart : i ≡ k → ⊥ = λ (x : i ≡ k). both_ways (in_tree k) (ap in_tree (sym x) ∙ g.high i (omega arith) c) t in
          ap right (s.2 i apart other ∙ p.others i c (g.high i (omega arith) c)) ∙ g.zero i (omega arith) c)
          (cases_eq i h);
    }

-- a plan of the tree as it grows
kept_plan : (n m k p h : ℕ) (key : ℕ → ℕ → ℤ) (left right : ℕ → ℤ) (rooms : List ℕ) (in_tree labelled in_tree' labelled' : ℕ → Bool) (plan : List ℕ)
    → h < n → h ≢ p → in_tree h ≡ false → HasJoined h (get_or rooms h 0) in_tree labelled in_tree' labelled' → LeavesFree n m p key left right rooms in_tree labelled plan → LeavesFree n m p key left right rooms in_tree' labelled' plan
kept_plan n m k p h key left right rooms in_tree labelled in_tree' labelled' plan l apart out more g = record {
  permutation = g.permutation;
  over = g.over;
  tight = g.tight;
  same = λ i a b. ⊎_elim
      (λ (x : i ≡ h). ap in_tree' x ∙ more.inside ∙ sym (ap labelled' (ap (λ z. get_or plan z 0) x ∙ g.others h l out) ∙ more.outside))
      (λ (x : i ≡ h → ⊥).
      let room : get_or plan i 0 ≢ get_or rooms h 0 = λ (y : get_or plan i 0 ≡ get_or rooms h 0). x (permutation_apart 0 n plan i h g.permutation a l (y ∙ sym (g.others h l out))) in
      more.members i x ∙ g.same i a b ∙ sym (more.rooms (get_or plan i 0) room))
      (cases_eq i h);
  others = λ i a u. g.others i a (⊎_elim
      (λ (x : i ≡ h). ap in_tree x ∙ out)
      (λ (x : i ≡ h → ⊥). sym (more.members i x) ∙ u)
      (cases_eq i h));
}

-- the plan of the new member
new_plan : (n m k h : ℕ) (key : ℕ → ℕ → ℤ) (left right : ℕ → ℤ) (rooms : List ℕ) (in_tree labelled : ℕ → Bool) (plan new : List ℕ)
    → k < n → h < n → h ≢ k → in_tree k ≡ true → labelled (get_or plan h 0) ≡ true → in_tree h ≡ true → left k +ℤ right (get_or plan h 0) ≡ key k (get_or plan h 0) → new ≡ swap plan k h
    → LeavesFree n m k key left right rooms in_tree labelled plan → LeavesFree n m h key left right rooms in_tree labelled new
new_plan n m k h key left right rooms in_tree labelled plan new l a apart t u v tie e p =
    let s : Swapped (λ i. get_or plan i 0) (λ i. get_or new i 0) k h = swapped_at n plan new k h p.permutation l a e in
    record {
      permutation = swapped_permutation n plan new k h p.permutation l a e;
      over = s.1 ∙ p.over;
      tight = λ i b c. ⊎_elim
          (λ (same : i ≡ k). let is : get_or new i 0 ≡ get_or plan h 0 = ap (λ j. get_or new j 0) same ∙ s.0 in
          subst (λ j. left j +ℤ right (get_or new i 0) ≡ key j (get_or new i 0)) (sym same) (subst (λ r. left k +ℤ right r ≡ key k r) (sym is) tie))
          (λ (other : i ≡ k → ⊥). subst (λ r. left i +ℤ right r ≡ key i r) (sym (s.2 i other c)) (p.tight i b other))
          (cases_eq i k);
      same = λ i b c. ⊎_elim
          (λ (x : i ≡ k). ap in_tree x ∙ t ∙ sym (ap labelled (ap (λ j. get_or new j 0) x ∙ s.0) ∙ u))
          (λ (x : i ≡ k → ⊥). p.same i b x ∙ sym (ap labelled (s.2 i x c)))
          (cases_eq i k);
      others = λ i b w.
          let x : i ≡ k → ⊥ = λ (y : i ≡ k). both_ways (in_tree k) (ap in_tree (sym y) ∙ w) t in
          let z : i ≡ h → ⊥ = λ (y : i ≡ h). both_ways (in_tree h) (ap in_tree (sym y) ∙ w) v in
          s.2 i x z ∙ p.others i b w;
    }

-- the tree grows by the matched member who holds the room
pub grown : (n m : ℕ) (key : ℕ → ℕ → ℤ) (left right : ℕ → ℤ) (rooms : List ℕ) (in_tree labelled in_tree' labelled' : ℕ → Bool) (plan plan' : ℕ → List ℕ) (k h : ℕ)
    → m < n → IsAlternatingTree n m key left right rooms in_tree labelled plan → k < n → h < n → in_tree k ≡ true → h ≢ k → h ≤ m
    → left k +ℤ right (get_or (plan k) h 0) ≡ key k (get_or (plan k) h 0) → labelled (get_or (plan k) h 0) ≡ false → HasJoined h (get_or (plan k) h 0) in_tree labelled in_tree' labelled'
    → plan' h ≡ swap (plan k) k h → ((i : ℕ) → i ≢ h → plan' i ≡ plan i) → IsAlternatingTree n m key left right rooms in_tree' labelled' plan'
grown n m key left right rooms in_tree labelled in_tree' labelled' plan plan' k h low g l a t apart high tie out more e kept =
    let p : LeavesFree n m k key left right rooms in_tree labelled (plan k) = g.plans k l t in
    let new_out : in_tree h ≡ false = p.same h a apart ∙ out in
    let room : get_or (plan k) h 0 ≡ get_or rooms h 0 = p.others h a new_out in
    let not_root : m ≢ h = λ (x : m ≡ h). both_ways (in_tree m) (ap in_tree x ∙ new_out) g.root in
    let below : h < m = ⊎_elim (λ (x : h < m). x) (λ (x : m ≤ h). absurd (not_root (omega arith))) (cases_lt h m) in
    let more' : HasJoined h (get_or rooms h 0) in_tree labelled in_tree' labelled' = subst (λ r. HasJoined h r in_tree labelled in_tree' labelled') room more in
    let inside : in_tree' k ≡ true = more.members k (λ (x : k ≡ h). apart (sym x)) ∙ t in
    let q : LeavesFree n m k key left right rooms in_tree' labelled' (plan k) = kept_plan n m k k h key left right rooms in_tree labelled in_tree' labelled' (plan k) a apart new_out more' p in
    let r : LeavesFree n m h key left right rooms in_tree' labelled' (plan' h) = new_plan n m k h key left right rooms in_tree' labelled' (plan k) (plan' h) l a apart inside more.outside more.inside tie e q in
    record {
      permutation = g.permutation;
      bound = g.bound;
      top = g.top;
      zero = g.zero;
      free = λ i b c.
          let other : get_or rooms i 0 ≢ get_or rooms h 0 = λ (x : get_or rooms i 0 ≡ get_or rooms h 0). let same = permutation_apart 0 n rooms i h g.permutation c a x in omega arith in
          more'.rooms (get_or rooms i 0) other ∙ g.free i b c;
      root = more.members m not_root ∙ g.root;
      high = λ i b c. more.members i (λ (x : i ≡ h). omega arith) ∙ g.high i b c;
      plans = λ i b u. ⊎_elim
          (λ (x : i ≡ h). subst (λ j. LeavesFree n m j key left right rooms in_tree' labelled' (plan' j)) (sym x) r)
          (λ (x : i ≡ h → ⊥). subst (LeavesFree n m i key left right rooms in_tree' labelled') (sym (kept i x))
          (kept_plan n m k i h key left right rooms in_tree labelled in_tree' labelled' (plan i) a (λ (y : h ≡ i). x (sym y)) new_out more' (g.plans i b (sym (more.members i x) ∙ u))))
          (cases_eq i h);
    }

-- nobody is matched
pub nobody_matched : (n : ℕ) (key : ℕ → ℕ → ℤ) (left right : ℕ → ℤ) → Bounds n key left right → ((i : ℕ) → i < n → left i ≤ℤ pos MOST_KEY) → ((j : ℕ) → right j ≡ pos 0) → IsMatched n 0 key left right (range_with_len 0 n)
nobody_matched n key left right bound top none = record {
  permutation = IsPermutation-refl (range_with_len 0 n);
  bound = bound;
  top = top;
  tight = λ i a. absurd (omega arith);
  zero = λ i a l. none (get_or (range_with_len 0 n) i 0);
}

-- how great the dual numbers are
pub left_small : (n m : ℕ) (key : ℕ → ℕ → ℤ) (left right : ℕ → ℤ) (rooms : List ℕ) (in_tree labelled : ℕ → Bool) (plan : ℕ → List ℕ) → m < n → IsAlternatingTree n m key left right rooms in_tree labelled plan
    → ((i j : ℕ) → i < n → j < n → unsigned_abs (key i j) ≤ MOST_KEY) → (i : ℕ) → i < n → unsigned_abs (left i) ≤ MOST_KEY
left_small n m key left right rooms in_tree labelled plan low g small i l =
    let room = permutation_below n rooms m g.permutation low in
    let zero = g.zero m (omega arith) low in
    let bound = g.bound i (get_or rooms m 0) l room in
    let k = small i (get_or rooms m 0) l room in
    let top = g.top i l in
    omega (arith, ints)

-- how great the dual numbers of rooms are
pub right_small : (n m : ℕ) (key : ℕ → ℕ → ℤ) (left right : ℕ → ℤ) (rooms : List ℕ) (in_tree labelled : ℕ → Bool) (plan : ℕ → List ℕ) → m < n → IsAlternatingTree n m key left right rooms in_tree labelled plan
    → ((i j : ℕ) → i < n → j < n → unsigned_abs (key i j) ≤ MOST_KEY) → (j : ℕ) → j < n → unsigned_abs (right j) ≤ 2 * MOST_KEY
right_small n m key left right rooms in_tree labelled plan low g small j l =
    let p : LeavesFree n m m key left right rooms in_tree labelled (plan m) = g.plans m low g.root in
    let there = permutation_place n (plan m) j p.permutation l in
    let i = there.0 in
    let within = there.1 in
    let is : get_or (plan m) i 0 ≡ j = there.2 in
    ⊎_elim
    (λ (x : i ≡ m). let e : right j ≡ pos 0 = ap right (sym is ∙ ap (λ z. get_or (plan m) z 0) x ∙ p.over) ∙ g.zero m (omega arith) low in omega (arith, ints))
    (λ (x : i ≡ m → ⊥). ⊎_elim
    (λ (y : i < m).
    let tie : left i +ℤ right j ≡ key i j = subst (λ r. left i +ℤ right r ≡ key i r) is (p.tight i (omega arith) x) in
    let a = small i j within l in
    let b = left_small n m key left right rooms in_tree labelled plan low g small i within in
    omega (arith, ints))
    (λ (y : m ≤ i).
    let above : m < i = ⊎_elim (λ (z : m < i). z) (λ (z : i ≤ m). absurd (x (omega arith))) (cases_lt m i) in
    let e : right j ≡ pos 0 = ap right (sym is ∙ p.others i within (g.high i above within)) ∙ g.zero i (omega arith) within in
    omega (arith, ints))
    (cases_lt i m))
    (cases_eq i m)
