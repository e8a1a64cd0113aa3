-- The floor of a fraction, and what is left above it.
use Rattle.std.proofs.Common.{◌≡◌, ℕ, ℤ, pos, negsuc, suc, ◌+◌, ◌-◌, ◌*◌, ◌/◌, ◌%◌, ◌<◌, ◌+ℤ◌, ◌-ℤ◌, ◌*ℤ◌, ◌<ℤ◌, ◌≤ℤ◌, subst, ap, arith, unsigned_abs}
use Rattle.std.specs.Int.{IsGcd, ◌∣◌, int_div_euclid, int_rem_euclid}
use Rattle.std.proofs.Math.Nat.{dvd-add, dvd-sub, dvd-mul_right_of_dvd, one-dvd, mod-lt, div-add-mod}
use Rattle.std.proofs.lemmas.Int.{ints}
use Rattle.split_frac.proofs.Scaled.{sum-scaled, less_cancel}

-- a number is its quotient times the divisor, and the rest
pub quotient_rest : (num : ℤ) (den : ℕ) → 0 < den → num ≡ int_div_euclid num (pos den) *ℤ pos den +ℤ int_rem_euclid num (pos den)
quotient_rest (pos n) den some =
    let parts : den * (n / den) + n % den ≡ n = div-add-mod n den in
    let turned : den * (n / den) ≡ n / den * den = omega arith in
    let e : n ≡ n / den * den + n % den = omega (arith, parts, turned) in
    ap pos e
quotient_rest (negsuc n) den some =
    let parts : den * (n / den) + n % den ≡ n = div-add-mod n den in
    let below : n % den < den = mod-lt n some in
    let more : suc (n / den) * den ≡ den * (n / den) + den = omega arith in
    omega (arith, ints, parts, below, more)

-- the rest is not below 0, and is below the divisor
pub rest_range : (num : ℤ) (den : ℕ) → 0 < den → (pos 0 ≤ℤ int_rem_euclid num (pos den)) × (int_rem_euclid num (pos den) <ℤ pos den)
rest_range (pos n) den some = let below : n % den < den = mod-lt n some in (omega (arith, ints), omega (arith, ints, below))
rest_range (negsuc n) den some = let below : n % den < den = mod-lt n some in (omega (arith, ints), omega (arith, ints, below))

-- once
once : (k : ℕ) → pos 1 *ℤ pos k ≡ pos k
once k = let e : 1 * k ≡ k = omega arith in ap pos e

-- a number that is a multiple and a rest below one more lies between the two multiples
pub floor_is : (num whole rest : ℤ) (den : ℕ) → num ≡ whole *ℤ pos den +ℤ rest → pos 0 ≤ℤ rest → rest <ℤ pos den
    → ((whole *ℤ pos den) ≤ℤ num) × (num <ℤ ((whole +ℤ pos 1) *ℤ pos den))
floor_is num whole rest den e low high = let more = sum-scaled whole (pos 1) den in let one = once den in (omega (arith, ints, e, low), omega (arith, ints, e, high, more, one))

-- two whole numbers between which the fraction lies in the same way are equal
pub same_floor : (num x y : ℤ) (den : ℕ)
    → (x *ℤ pos den) ≤ℤ num → num <ℤ ((x +ℤ pos 1) *ℤ pos den) → (y *ℤ pos den) ≤ℤ num → num <ℤ ((y +ℤ pos 1) *ℤ pos den) → x ≡ y
same_floor num x y den a b p q =
    let first : x <ℤ (y +ℤ pos 1) = less_cancel x (y +ℤ pos 1) den (omega (arith, ints)) in
    let second : y <ℤ (x +ℤ pos 1) = less_cancel y (x +ℤ pos 1) den (omega (arith, ints)) in
    omega (arith, ints)

-- the rest is what is left above the floor
pub rest_above : (num whole : ℤ) (den : ℕ) → 0 < den → (whole *ℤ pos den) ≤ℤ num → num <ℤ ((whole +ℤ pos 1) *ℤ pos den)
    → int_rem_euclid num (pos den) ≡ num -ℤ whole *ℤ pos den
rest_above num whole den some low high =
    let parts = quotient_rest num den some in
    let range = rest_range num den some in
    let is = floor_is num (int_div_euclid num (pos den)) (int_rem_euclid num (pos den)) den parts range.0 range.1 in
    let same : whole ≡ int_div_euclid num (pos den) = same_floor num whole (int_div_euclid num (pos den)) den low high is.0 is.1 in
    let times = ap (λ z. z *ℤ pos den) same in
    omega (arith, ints, parts, times)

-- the rest is in lowest terms where the fraction is
pub rest_lowest : (num : ℤ) (den : ℕ) → 0 < den → IsGcd (unsigned_abs num) den 1 → IsGcd (unsigned_abs (int_rem_euclid num (pos den))) den 1
rest_lowest (pos n) den some h = (
  one-dvd (n % den),
  one-dvd den,
  λ d p q.
      let parts : den * (n / den) + n % den ≡ n = div-add-mod n den in
      h.2 d (subst (λ k. d ∣ k) parts (dvd-add d (dvd-mul_right_of_dvd d q (n / den)) p)) q,
)
rest_lowest (negsuc n) den some h = (
  one-dvd (den - 1 - n % den),
  one-dvd den,
  λ d p q.
      let parts : den * (n / den) + n % den ≡ n = div-add-mod n den in
      let below : n % den < den = mod-lt n some in
      let more : den * (n / den + 1) ≡ den * (n / den) + den = omega arith in
      let left : den * (n / den + 1) - (den - 1 - n % den) ≡ suc n = omega (arith, parts, below, more) in
      h.2 d (subst (λ k. d ∣ k) left (dvd-sub d (dvd-mul_right_of_dvd d q (n / den + 1)) p)) q,
)
