-- The sum of keys orders assignments by welfare first, then by the list of rooms.
use Rattle.std.proofs.Common.{◌≡◌, ◌≢◌, ℕ, pos, suc, ◌+◌, ◌-◌, ◌*◌, ◌^◌, ◌<◌, ◌≤◌, ◌+ℤ◌, ◌-ℤ◌, ◌*ℤ◌, ◌≤ℤ◌, ◌<ℤ◌, List, [], ◌∷◌, length, All, get_or, Less, Equal, Greater, arith, refl, sym, ap, ◌∙◌, ◌⊎◌, ⊎_elim}
use Rattle.std.specs.List.{range_with_len}
use Rattle.std.specs.List.Sorted.{IsPermutation}
use Rattle.std.specs.Cmp.Lexicographic.{slice_cmp}
use Rattle.std.specs.Ordering.{nat_cmp, ordering_then}
use Rattle.std.proofs.lemmas.Int.{ints, by_lt_z}
use Rattle.std.proofs.lemmas.Nat.{mul-add-lt}
use Rattle.std.proofs.lemmas.Bool.{cases_order, le-ltb, eq-eqb, ne_eqb}
use Rattle.std.proofs.Math.Nat.{pow-suc, pow-zero, mul-le-mul_right}
use Rattle.std.proofs.Math.IntN.{*ℤ-one}
use Rattle.std.proofs.lemmas.List.Elements.{All-head, All-tail, All-from_get_or}
use Rattle.bid_rules.specs.declared.rents.RentCase.{RentCase}
use Rattle.bid_rules.specs.Rent.{value, room_count, IsAssignment, welfare}
use Rattle.bid_rules.specs.Sums.{total}
use Rattle.bid_rules.specs.Keys.{key_sum}
use Rattle.split_lemmas.proofs.Multiples.{multiple_le, multiple_sum}
use Rattle.split_lemmas.proofs.Totals.{total-sub, total-times, total-same_range}
use Rattle.split_lemmas.proofs.RoomPlaces.{rooms_length, room_range}

-- rooms numbered from 1 to n
abbrev AreRooms : ℕ → List ℕ → Type 0
AreRooms n xs = All (λ x. (1 ≤ x) × (x ≤ n)) xs

-- the rooms as the digits of a number in base n
abbrev digits : ℕ → List ℕ → ℕ
digits n [] = 0
digits n (x ∷ xs) = (x - 1) * n ^ length xs + digits n xs

-- the number is below the power of the base
digits_below : (n : ℕ) (xs : List ℕ) → AreRooms n xs → digits n xs < n ^ length xs
digits_below n [] h = omega (arith, pow-zero n)
digits_below n (x ∷ xs) h =
    let here = All-head (λ y. (1 ≤ y) × (y ≤ n)) x xs h in
    let rest = digits_below n xs (All-tail (λ y. (1 ≤ y) × (y ≤ n)) x xs h) in
    let digit : x - 1 < n = omega (arith, here.0, here.1) in
    let below = mul-add-lt (x - 1) (n ^ length xs) (digits n xs) n digit rest in
    omega (arith, below, pow-suc n (length xs))

-- how two numbers compare
nat_cmp_same : (x y : ℕ) → x ≡ y → nat_cmp x y ≡ Equal
nat_cmp_same x y e = rw (le-ltb x y (omega arith), eq-eqb x y e) refl

-- a higher number compares as greater
nat_cmp_above : (x y : ℕ) → y < x → nat_cmp x y ≡ Greater
nat_cmp_above x y l = rw (le-ltb x y (omega arith), ne_eqb x y (λ (e : x ≡ y). omega arith)) refl

-- a list that comes before another has the lower number
digits_rise : (n : ℕ) (xs ys : List ℕ) → length xs ≡ length ys → AreRooms n xs → AreRooms n ys → slice_cmp nat_cmp xs ys ≡ Less → digits n xs < digits n ys
digits_rise n [] [] e a b h = cc
digits_rise n [] (y ∷ ys) e a b h = absurd (omega arith)
digits_rise n (x ∷ xs) [] e a b h = absurd (omega arith)
digits_rise n (x ∷ xs) (y ∷ ys) e a b h =
    let first = All-head (λ z. (1 ≤ z) × (z ≤ n)) x xs a in
    let rest = All-tail (λ z. (1 ≤ z) × (z ≤ n)) x xs a in
    let others = All-tail (λ z. (1 ≤ z) × (z ≤ n)) y ys b in
    let same : length xs ≡ length ys = omega arith in
    let power : n ^ length xs ≡ n ^ length ys = ap (λ k. n ^ k) same in
    let below = digits_below n xs rest in
    ⊎_elim
    (λ (z : x ≡ y).
    let tails : slice_cmp nat_cmp xs ys ≡ Less = sym (ap (λ o. ordering_then o (slice_cmp nat_cmp xs ys)) (nat_cmp_same x y z)) ∙ h in
    let r = digits_rise n xs ys same rest others tails in
    let digit : (x - 1) * n ^ length xs ≡ (y - 1) * n ^ length ys = ap (λ k. (k - 1) * n ^ length xs) z ∙ ap (λ k. (y - 1) * k) power in
    omega (arith, r, digit))
    (λ (w : (x < y) ⊎ (y < x)). ⊎_elim
    (λ (z : x < y).
    let step : x - 1 + 1 ≤ y - 1 = omega (arith, first.0) in
    let scaled = mul-le-mul_right (n ^ length xs) step in
    let digit : (y - 1) * n ^ length xs ≡ (y - 1) * n ^ length ys = ap (λ k. (y - 1) * k) power in
    omega (arith, below, scaled, digit))
    (λ (z : y < x). let o = sym (ap (λ o. ordering_then o (slice_cmp nat_cmp xs ys)) (nat_cmp_above x y z)) ∙ h in cc)
    w)
    (cases_order x y)

-- the number is the sum over the places
digits_places : (n : ℕ) (xs : List ℕ) (a : ℕ) → total (λ i. pos ((get_or xs (i - a) 0 - 1) * n ^ (a + length xs - 1 - i))) (range_with_len a (length xs)) ≡ pos (digits n xs)
digits_places n [] a = refl
digits_places n (x ∷ xs) a =
    let none : a - a ≡ 0 = omega arith in
    let power : a + suc (length xs) - 1 - a ≡ length xs = omega arith in
    let first : (get_or (x ∷ xs) (a - a) 0 - 1) * n ^ (a + suc (length xs) - 1 - a) ≡ (x - 1) * n ^ length xs = ap (λ k. (get_or (x ∷ xs) k 0 - 1) * n ^ (a + suc (length xs) - 1 - a)) none ∙ ap (λ k. (x - 1) * n ^ k) power in
    let shift = total-same_range (λ i. pos ((get_or (x ∷ xs) (i - a) 0 - 1) * n ^ (a + suc (length xs) - 1 - i))) (λ i. pos ((get_or xs (i - (a + 1)) 0 - 1) * n ^ (a + 1 + length xs - 1 - i))) (a + 1) (length xs)
    (λ i l m. let e : i - a ≡ suc (i - (a + 1)) = omega arith in let f : a + suc (length xs) - 1 - i ≡ a + 1 + length xs - 1 - i = omega arith in
    ap (λ k. pos ((get_or (x ∷ xs) k 0 - 1) * n ^ (a + suc (length xs) - 1 - i))) e ∙ ap (λ k. pos ((get_or xs (i - (a + 1)) 0 - 1) * n ^ k)) f) in
    let rest = digits_places n xs (a + 1) in
    omega (arith, ints, first, shift, rest)

-- the sum of keys is the welfare before the number of the rooms
key_sum_is : (case : RentCase) (s : List ℕ) → length s ≡ room_count case → key_sum case s ≡ pos (room_count case ^ room_count case) *ℤ welfare case s -ℤ pos (digits (room_count case) s)
key_sum_is case s e =
    let n = room_count case in
    let split = total-sub (λ i. pos (n ^ n) *ℤ value case i (get_or s i 0)) (λ i. pos ((get_or s i 0 - 1) * n ^ (n - 1 - i))) (range_with_len 0 n) in
    let values = total-times (n ^ n) (λ i. value case i (get_or s i 0)) (range_with_len 0 n) in
    let places = digits_places n s 0 in
    let same = total-same_range (λ i. pos ((get_or s i 0 - 1) * n ^ (n - 1 - i))) (λ i. pos ((get_or s (i - 0) 0 - 1) * n ^ (0 + length s - 1 - i))) 0 n
    (λ i l m. let g : i ≡ i - 0 = omega arith in let f : n - 1 - i ≡ 0 + length s - 1 - i = omega arith in
    ap (λ k. pos ((get_or s k 0 - 1) * n ^ (n - 1 - i))) g ∙ ap (λ k. pos ((get_or s (i - 0) 0 - 1) * n ^ k)) f) in
    let range = ap (λ k. total (λ i. pos ((get_or s (i - 0) 0 - 1) * n ^ (0 + length s - 1 - i))) (range_with_len 0 k)) (sym e) in
    omega (arith, ints, split, values, same ∙ range ∙ places)

-- the rooms of an assignment
rooms_all : (n : ℕ) (s : List ℕ) → IsPermutation (range_with_len 1 n) s → AreRooms n s
rooms_all n s h = All-from_get_or (λ x. (1 ≤ x) × (x ≤ n)) s 0 (λ i l. let count = rooms_length n s h in room_range n s i h (omega arith))

-- the greatest sum of keys gives the greatest welfare
pub keys_best : (case : RentCase) (s t : List ℕ) → IsAssignment case s → IsAssignment case t → key_sum case t ≤ℤ key_sum case s → welfare case t ≤ℤ welfare case s
keys_best case s t h g less = by_lt_z (welfare case s) (welfare case t)
    (λ (x : welfare case s <ℤ welfare case t). absurd (
    let n = room_count case in
    let count = rooms_length n t g in
    let ours = key_sum_is case s (rooms_length n s h) in
    let theirs = key_sum_is case t count in
    let below = digits_below n t (rooms_all n t g) in
    let power : n ^ length t ≡ n ^ n = ap (λ k. n ^ k) count in
    let more = multiple_le (n ^ n) (welfare case s +ℤ pos 1) (welfare case t) (omega (arith, ints)) in
    let split = multiple_sum (n ^ n) (welfare case s) (pos 1) in
    let one = *ℤ-one (pos (n ^ n)) in
    omega (arith, ints, ours, theirs, below, power, more, split, one)))
    (λ x. x)

-- and the first list of that welfare
pub keys_first : (case : RentCase) (s t : List ℕ) → IsAssignment case s → IsAssignment case t → key_sum case t ≤ℤ key_sum case s → welfare case t ≡ welfare case s → slice_cmp nat_cmp t s ≢ Less
keys_first case s t h g less same before =
    let n = room_count case in
    let ours = key_sum_is case s (rooms_length n s h) in
    let theirs = key_sum_is case t (rooms_length n t g) in
    let rise = digits_rise n t s (rooms_length n t g ∙ sym (rooms_length n s h)) (rooms_all n t g) (rooms_all n s h) before in
    let scaled = ap (λ z. pos (n ^ n) *ℤ z) same in
    omega (arith, ints, ours, theirs, rise, scaled, less)

-- lists of one length with one number are equal
digits_same : (n : ℕ) (xs ys : List ℕ) → length xs ≡ length ys → AreRooms n xs → AreRooms n ys → digits n xs ≡ digits n ys → xs ≡ ys
digits_same n [] [] e a b h = refl
digits_same n [] (y ∷ ys) e a b h = absurd (omega arith)
digits_same n (x ∷ xs) [] e a b h = absurd (omega arith)
digits_same n (x ∷ xs) (y ∷ ys) e a b h = ⊎_elim
    (λ (z : x ≡ y).
    let digit : (x - 1) * n ^ length xs ≡ (y - 1) * n ^ length ys = ap (λ k. (k - 1) * n ^ length xs) z ∙ ap (λ k. (y - 1) * k) power in
    let tails : digits n xs ≡ digits n ys = omega (arith, h, digit) in
    ap (λ k. k ∷ xs) z ∙ ap (λ zs. y ∷ zs) (digits_same n xs ys same rest others tails))
    (λ (w : (x < y) ⊎ (y < x)). ⊎_elim
    (λ (z : x < y).
    let scaled = mul-le-mul_right (n ^ length xs) (apart x y first.0 z) in
    let digit : (y - 1) * n ^ length xs ≡ (y - 1) * n ^ length ys = ap (λ k. (y - 1) * k) power in
    let below = digits_below n xs rest in
    absurd (omega (arith, h, below, scaled, digit)))
    (λ (z : y < x).
    let scaled = mul-le-mul_right (n ^ length xs) (apart y x head.0 z) in
    let digit : (y - 1) * n ^ length xs ≡ (y - 1) * n ^ length ys = ap (λ k. (y - 1) * k) power in
    let below = digits_below n ys others in
    absurd (omega (arith, h, below, scaled, digit, power)))
    w)
    (cases_order x y)
  where
    first : (1 ≤ x) × (x ≤ n)
    first = All-head (λ z. (1 ≤ z) × (z ≤ n)) x xs a

    head : (1 ≤ y) × (y ≤ n)
    head = All-head (λ z. (1 ≤ z) × (z ≤ n)) y ys b

    rest : AreRooms n xs
    rest = All-tail (λ z. (1 ≤ z) × (z ≤ n)) x xs a

    others : AreRooms n ys
    others = All-tail (λ z. (1 ≤ z) × (z ≤ n)) y ys b

    same : length xs ≡ length ys
    same = omega arith

    power : n ^ length xs ≡ n ^ length ys
    power = ap (λ k. n ^ k) same

    apart : (u v : ℕ) → 1 ≤ u → u < v → u - 1 + 1 ≤ v - 1
    apart u v l m = omega arith

-- assignments with one sum of keys, which is the greatest, are equal
pub keys_only : (case : RentCase) (s t : List ℕ) → IsAssignment case s → IsAssignment case t → key_sum case t ≡ key_sum case s → t ≡ s
keys_only case s t h g e =
    let n = room_count case in
    let count_s = rooms_length n s h in
    let count_t = rooms_length n t g in
    let ours = key_sum_is case s count_s in
    let theirs = key_sum_is case t count_t in
    let less = keys_best case s t h g (omega (arith, ints, e)) in
    let more = keys_best case t s g h (omega (arith, ints, e)) in
    let same : welfare case t ≡ welfare case s = omega (arith, ints, less, more) in
    let scaled = ap (λ z. pos (n ^ n) *ℤ z) same in
    digits_same n t s (count_t ∙ sym count_s) (rooms_all n t g) (rooms_all n s h) (omega (arith, ints, ours, theirs, scaled, e))
