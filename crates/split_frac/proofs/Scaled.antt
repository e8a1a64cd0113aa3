-- Whole numbers of either sign times natural numbers.
use Rattle.std.proofs.Common.{◌≡◌, ℕ, ℤ, pos, negsuc, suc, zero, ◌+ℤ◌, ◌*ℤ◌, ◌<ℤ◌, ◌+◌, ◌*◌, ◌<◌, refl, ap, ◌∙◌, arith}
use Rattle.std.proofs.Math.IntN.{neg_ℤ}
use Rattle.std.proofs.Math.Nat.{eq_of_mul-eq-mul_right, mul-lt-mul_of_pos_right, lt_of_mul-lt-mul_right}
use Rattle.std.proofs.lemmas.Int.{ints}
use borrow.Author.Differences.{up, down, sum_is_lem}

-- a number taken from 0, times a natural number
pub neg-scaled : (x : ℤ) (k : ℕ) → neg_ℤ x *ℤ pos k ≡ neg_ℤ (x *ℤ pos k)
neg-scaled (pos zero) k = let none : 0 ≡ 0 * k = omega arith in rw (← none) refl
neg-scaled (pos (suc n)) k = refl
neg-scaled (negsuc n) k = omega (arith, ints)

-- two factors are one
pub scaled_twice : (x : ℤ) (k m : ℕ) → x *ℤ pos k *ℤ pos m ≡ x *ℤ pos (k * m)
scaled_twice (pos n) k m = let e : n * k * m ≡ n * (k * m) = omega arith in ap pos e
scaled_twice (negsuc n) k m = let e : suc n * k * m ≡ suc n * (k * m) = omega arith in neg-scaled (pos (suc n * k)) m ∙ ap (λ i. neg_ℤ (pos i)) e

-- a sum times a natural number
pub sum-scaled : (x y : ℤ) (k : ℕ) → (x +ℤ y) *ℤ pos k ≡ x *ℤ pos k +ℤ y *ℤ pos k
sum-scaled x y k =
    let e : (up (x +ℤ y) + down x + down y) * k ≡ (down (x +ℤ y) + up x + up y) * k = ap (λ n. n * k) (sum_is_lem x y) in
    omega (arith, ints, e)

-- a factor above 0 on both sides goes
pub scaled_cancel : (x y : ℤ) (k : ℕ) → 0 < k → x *ℤ pos k ≡ y *ℤ pos k → x ≡ y
scaled_cancel x y k some e =
    let both : (up x + down y) * k ≡ (up y + down x) * k = omega (arith, ints, e) in
    let same : up x + down y ≡ up y + down x = eq_of_mul-eq-mul_right k some (up x + down y) (up y + down x) both in
    omega (arith, ints, same)

-- a factor above 0 on both sides keeps the order
pub scaled_less : (x y : ℤ) (k : ℕ) → 0 < k → x <ℤ y → (x *ℤ pos k) <ℤ (y *ℤ pos k)
scaled_less x y k some less =
    let small : up x + down y < up y + down x = omega (arith, ints, less) in
    let both : (up x + down y) * k < (up y + down x) * k = mul-lt-mul_of_pos_right small some in
    omega (arith, ints, both)

-- and goes where the order is known
pub less_cancel : (x y : ℤ) (k : ℕ) → (x *ℤ pos k) <ℤ (y *ℤ pos k) → x <ℤ y
less_cancel x y k less =
    let both : (up x + down y) * k < (up y + down x) * k = omega (arith, ints, less) in
    let small : up x + down y < up y + down x = lt_of_mul-lt-mul_right k both in
    omega (arith, ints, small)
