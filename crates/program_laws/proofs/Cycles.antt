-- Along a cycle of members, each may take the room of the one before: so an assignment of the greatest sum leaves no cycle of a positive weight.
use Rattle.std.proofs.Common.{◌≡◌, ◌≢◌, ℕ, ℤ, pos, zero, suc, ◌+◌, ◌<◌, ◌+ℤ◌, ◌-ℤ◌, ◌≤ℤ◌, List, [], ◌∷◌, ◌++◌, length, get_or, cond, eqb, false, arith, refl, sym, ap, ◌∙◌, ⊎_elim}
use Rattle.std.specs.List.{AllByRecursion, IsDistinct, range_with_len, swap}
use Rattle.std.specs.List.Sorted.{IsPermutation}
use Rattle.std.proofs.lemmas.Bool.{cases_eq, eq-eqb, ne_eqb}
use Rattle.std.proofs.lemmas.Bool.Decides.{nat_tests}
use Rattle.std.proofs.lemmas.Int.{ints}
use Rattle.std.proofs.lemmas.List.Edits.{Swapped, swapped_from_swap, length-swap}
use Rattle.std.proofs.lemmas.List.Elements.{All-head, All-tail}
use Rattle.std.proofs.lemmas.List.Sorted.{IsPermutation-swap, IsPermutation-trans}
use Rattle.std.proofs.lemmas.Map.Keys.{IsDistinct-head, IsDistinct-tail}
use Rattle.bid_rules.specs.Sums.{total}
use Rattle.bid_rules.specs.Walks.{AreVertices, walk_weight}
use Rattle.split_lemmas.proofs.RoomPlaces.{rooms_length}
use Rattle.split_lemmas.proofs.Totals.{total-same_range, total_more}

-- what the first n members have of their rooms
abbrev pub sum_of : (ℕ → ℕ → ℤ) → ℕ → List ℕ → ℤ
sum_of worth n rooms = total (λ member. worth member (get_or rooms member 0)) (range_with_len 0 n)

-- the step from one member to another: how much more the first one's room is worth to the other
abbrev pub step_of : (ℕ → ℕ → ℤ) → List ℕ → ℕ → ℕ → ℤ
step_of worth rooms from to = worth to (get_or rooms from 0) -ℤ worth from (get_or rooms from 0)

-- each member takes the room of the next, and the last one that of the first
abbrev shifted : List ℕ → ℕ → List ℕ → List ℕ
shifted rooms first [] = rooms
shifted rooms first (next ∷ others) = shifted (swap rooms first next) next others

-- what the members have of their own rooms
abbrev own_sum : (ℕ → ℕ → ℤ) → List ℕ → List ℕ → ℤ
own_sum worth rooms members = total (λ member. worth member (get_or rooms member 0)) members

-- what they have of the next one's room, the last of them of a given one
abbrev next_sum : (ℕ → ℕ → ℤ) → ℕ → List ℕ → ℕ → List ℕ → ℤ
next_sum worth room rooms first [] = worth first room
next_sum worth room rooms first (next ∷ others) = worth first (get_or rooms next 0) +ℤ next_sum worth room rooms next others

-- numbers that the test finds apart are so
apart : (x y : ℕ) → eqb x y ≡ false → y ≢ x
apart x y e same = grind (arith, nat_tests)

-- sums with one part that differs
one_part : (f g : ℕ → ℤ) (x n : ℕ) → x < n → ((i : ℕ) → i < n → i ≢ x → f i ≡ g i) → total f (range_with_len 0 n) +ℤ g x ≡ total g (range_with_len 0 n) +ℤ f x
one_part f g x zero l same = absurd (omega (arith, l))
one_part f g x (suc n) l same =
    let next : suc n ≡ n + 1 = omega arith in
    let left = ap (λ k. total f (range_with_len 0 k)) next ∙ total_more f n in
    let right = ap (λ k. total g (range_with_len 0 k)) next ∙ total_more g n in
    ⊎_elim
    (λ (here : x ≡ n).
    let before = total-same_range f g 0 n (λ i a m. same i (omega (arith, m)) (λ e. omega (arith, m, e, here))) in
    let one = ap f here in
    let other = ap g here in
    omega (arith, ints, left, right, before, one, other))
    (λ (not_here : x ≢ n).
    let before = one_part f g x n (omega (arith, l, not_here)) (λ i m. same i (omega (arith, m))) in
    let last = same n (omega arith) (λ e. not_here (sym e)) in
    omega (arith, ints, left, right, before, last))
    (cases_eq x n)

-- sums with two parts that differ
two_parts : (f g : ℕ → ℤ) (x u n : ℕ) → x < n → u < n → u ≢ x → ((i : ℕ) → i < n → i ≢ x → i ≢ u → f i ≡ g i)
    → total f (range_with_len 0 n) +ℤ g x +ℤ g u ≡ total g (range_with_len 0 n) +ℤ f x +ℤ f u
two_parts f g x u n l m two same =
    let h : ℕ → ℤ = λ i. cond (eqb i x) (f i) (g i) in
    let at : h x ≡ f x = ap (λ b. cond b (f x) (g x)) (eq-eqb x x refl) in
    let off : (i : ℕ) → i ≢ x → h i ≡ g i = λ i a. ap (λ b. cond b (f i) (g i)) (ne_eqb i x a) in
    let first = one_part h g x n l (λ i k a. off i a) in
    let second = one_part f h u n m (λ i k a. ⊎_elim
    (λ (here : i ≡ x). ap f here ∙ sym at ∙ ap h (sym here))
    (λ (not_here : i ≢ x). same i k not_here a ∙ sym (off i not_here))
    (cases_eq i x)) in
    let other = off u two in
    omega (arith, ints, first, second, at, other)

-- rooms that are the same except for two members are worth the same to others
same_own : (worth : ℕ → ℕ → ℤ) (s t : List ℕ) (x u : ℕ) → ((i : ℕ) → i ≢ x → i ≢ u → get_or t i 0 ≡ get_or s i 0)
    → (members : List ℕ) → AllByRecursion (λ y. eqb x y ≡ false) members → AllByRecursion (λ y. eqb u y ≡ false) members → own_sum worth t members ≡ own_sum worth s members
same_own worth s t x u same [] a b = refl
same_own worth s t x u same (m ∷ members) a b =
    let here = ap (worth m) (same m (apart x m a.0) (apart u m b.0)) in
    let rest = same_own worth s t x u same members a.1 b.1 in
    omega (arith, ints, here, rest)

same_next : (worth : ℕ → ℕ → ℤ) (room : ℕ) (s t : List ℕ) (x u first : ℕ) → ((i : ℕ) → i ≢ x → i ≢ u → get_or t i 0 ≡ get_or s i 0)
    → (members : List ℕ) → AllByRecursion (λ y. eqb x y ≡ false) members → AllByRecursion (λ y. eqb u y ≡ false) members → next_sum worth room t first members ≡ next_sum worth room s first members
same_next worth room s t x u first same [] a b = refl
same_next worth room s t x u first same (m ∷ members) a b =
    let here = ap (worth first) (same m (apart x m a.0) (apart u m b.0)) in
    let rest = same_next worth room s t x u m same members a.1 b.1 in
    omega (arith, ints, here, rest)

-- the sum after the shift
shifted_sum : (worth : ℕ → ℕ → ℤ) (n : ℕ) (others rooms : List ℕ) (first : ℕ) → length rooms ≡ n → first < n → AreVertices n others → IsDistinct eqb (first ∷ others)
    → sum_of worth n (shifted rooms first others) +ℤ worth first (get_or rooms first 0) +ℤ own_sum worth rooms others ≡ sum_of worth n rooms +ℤ next_sum worth (get_or rooms first 0) rooms first others
shifted_sum worth n [] s x long l v d = omega (arith, ints)
shifted_sum worth n (u ∷ us) s x long l v d =
    let known : u < n = All-head (λ j. j < n) u us v in
    let rest : AreVertices n us = All-tail (λ j. j < n) u us v in
    let t : List ℕ = swap s x u in
    let off : AllByRecursion (λ y. eqb x y ≡ false) (u ∷ us) = IsDistinct-head eqb x (u ∷ us) d in
    let tail : IsDistinct eqb (u ∷ us) = IsDistinct-tail eqb x (u ∷ us) d in
    let beside : AllByRecursion (λ y. eqb u y ≡ false) us = IsDistinct-head eqb u us tail in
    let w : Swapped (λ i. get_or s i 0) (λ i. get_or t i 0) x u = swapped_from_swap s t x u 0 (omega (arith, long, l)) (omega (arith, long, known)) refl in
    let later = shifted_sum worth n us t u (length-swap s x u ∙ long) known rest tail in
    let owns = same_own worth s t x u w.2 us off.1 beside in
    let nexts = ap (λ (r : ℕ). next_sum worth r t u us) w.1 ∙ same_next worth (get_or s x 0) s t x u u w.2 us off.1 beside in
    let sums = two_parts (λ i. worth i (get_or t i 0)) (λ i. worth i (get_or s i 0)) x u n l known (apart x u off.0) (λ i m a b. ap (worth i) (w.2 i a b)) in
    let at_x = ap (worth x) w.0 in
    let at_u = ap (worth u) w.1 in
    omega (arith, ints, later, owns, nexts, sums, at_x, at_u)

-- it is an assignment as before
shifted_permutes : (n : ℕ) (others rooms : List ℕ) (first : ℕ) → IsPermutation (range_with_len 1 n) rooms → first < n → AreVertices n others → IsPermutation (range_with_len 1 n) (shifted rooms first others)
shifted_permutes n [] s x p l v = p
shifted_permutes n (u ∷ us) s x p l v =
    let known : u < n = All-head (λ j. j < n) u us v in
    let long = rooms_length n s p in
    shifted_permutes n us (swap s x u) u
    (IsPermutation-trans (range_with_len 1 n) s (swap s x u) p (IsPermutation-swap s (swap s x u) x u (omega (arith, long, l)) (omega (arith, long, known)) refl))
    known (All-tail (λ j. j < n) u us v)

-- the weight of a cycle is what the members have more of the next one's room
cycle_weight : (worth : ℕ → ℕ → ℤ) (rooms : List ℕ) (start : ℕ) (others : List ℕ) (to : ℕ)
    → walk_weight (step_of worth rooms) to (others ++ start ∷ []) +ℤ worth start (get_or rooms start 0) +ℤ own_sum worth rooms others ≡ next_sum worth (get_or rooms start 0) rooms to others
cycle_weight worth s x [] y = omega (arith, ints)
cycle_weight worth s x (u ∷ us) y = let rest = cycle_weight worth s x us u in omega (arith, ints, rest)

-- no cycle of members, each of them once, has a positive weight
abbrev pub HasNoPositiveRound : ℕ → (ℕ → ℕ → ℤ) → Type 0
HasNoPositiveRound n step = (vertex : ℕ) (between : List ℕ) → vertex < n → AreVertices n between → IsDistinct eqb (vertex ∷ between) → walk_weight step vertex (between ++ vertex ∷ []) ≤ℤ pos 0

-- so it is where no assignment has a greater sum
pub no_round : (worth : ℕ → ℕ → ℤ) (n : ℕ) (rooms : List ℕ) → IsPermutation (range_with_len 1 n) rooms
    → ((others : List ℕ) → IsPermutation (range_with_len 1 n) others → sum_of worth n others ≤ℤ sum_of worth n rooms) → HasNoPositiveRound n (step_of worth rooms)
no_round worth n s p greatest x us l v d =
    let after = shifted_sum worth n us s x (rooms_length n s p) l v d in
    let high = greatest (shifted s x us) (shifted_permutes n us s x p l v) in
    let weight = cycle_weight worth s x us x in
    omega (arith, ints, after, high, weight)
