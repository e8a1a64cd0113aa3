-- Lemmas on fractions: what division by the greatest common divisor leaves.
use Rattle.std.proofs.Common.{◌≡◌, ℕ, ℤ, pos, negsuc, suc, zero, ◌*ℤ◌, ◌*◌, ◌/◌, ◌<◌, ◌≤◌, refl, sym, ◌∙◌, ap, subst, arith, unsigned_abs}
use Rattle.std.specs.Int.RustNames.{int_div}
use Rattle.std.specs.Int.{IsGcd, ◌∣◌}
use Rattle.std.proofs.Math.IntN.{neg_ℤ}
use Rattle.std.proofs.Math.Nat.{div-mul_cancel, mul-dvd-mul_right, dvd_of_mul-dvd-mul_right, one-dvd, div-le_self}

-- q and r times g, multiplied crosswise
products : (q r g a b : ℕ) → q * g ≡ a → r * g ≡ b → q * b ≡ a * r
products q r g a b e f =
    let between : q * (r * g) ≡ q * g * r = omega arith in
    ap (λ x. q * x) (sym f) ∙ between ∙ ap (λ x. x * r) e

-- the two quotients, crosswise
cross : (a b g : ℕ) → g ∣ a → g ∣ b → a / g * b ≡ a * (b / g)
cross a b g p q = products (a / g) (b / g) g a b (div-mul_cancel g p) (div-mul_cancel g q)

-- the same for a signed numerator
pub cross_signed : (num : ℤ) (den g : ℕ) → g ∣ unsigned_abs num → g ∣ den → int_div num (pos g) *ℤ pos den ≡ num *ℤ pos (den / g)
cross_signed (pos n) den g p q = ap pos (cross n den g p q)
cross_signed (negsuc n) den g p q = negated (suc n / g) den ∙ ap (λ m. neg_ℤ (pos m)) (cross (suc n) den g p q)
  where
    negated : (m k : ℕ) → neg_ℤ (pos m) *ℤ pos k ≡ neg_ℤ (pos (m * k))
    negated zero k = let none : 0 ≡ 0 * k = omega arith in rw (← none) refl
    negated (suc m) k = refl

-- the quotients by the greatest common divisor share no divisor above 1
pub lowest : (a b g : ℕ) → 0 < g → IsGcd a b g → IsGcd (a / g) (b / g) 1
lowest a b g some h = (
  one-dvd (a / g),
  one-dvd (b / g),
  λ d p q.
      let e : a / g * g ≡ a = div-mul_cancel g h.0 in
      let f : b / g * g ≡ b = div-mul_cancel g h.1 in
      let one : 1 * g ≡ g = omega arith in
      let to_a : d * g ∣ a = subst (λ n. d * g ∣ n) e (mul-dvd-mul_right d p g) in
      let to_b : d * g ∣ b = subst (λ n. d * g ∣ n) f (mul-dvd-mul_right d q g) in
      dvd_of_mul-dvd-mul_right d some (subst (λ n. d * g ∣ n) (sym one) (h.2 (d * g) to_a to_b)),
)

-- a quotient by a divisor is above 0
pub above_zero : (b g : ℕ) → 0 < b → 0 < g → g ∣ b → 0 < b / g
above_zero b g some pos_g p = let e : b / g * g ≡ b = div-mul_cancel g p in grind arith

-- the size of a quotient is the quotient of the size
pub unsigned_abs-int_div : (num : ℤ) (g : ℕ) → unsigned_abs (int_div num (pos g)) ≡ unsigned_abs num / g
unsigned_abs-int_div (pos n) g = refl
unsigned_abs-int_div (negsuc n) g = negated (suc n / g)
  where
    negated : (m : ℕ) → unsigned_abs (neg_ℤ (pos m)) ≡ m
    negated zero = refl
    negated (suc m) = refl

-- the quotients make a fraction in lowest terms
pub quotients_lowest : (num q : ℤ) (size den g : ℕ) → size ≡ unsigned_abs num → q ≡ int_div num (pos g) → 0 < den → 0 < g → IsGcd size den g → (0 < den / g) × IsGcd (unsigned_abs q) (den / g) 1
quotients_lowest num q size den g is e some above h =
    let same : size / g ≡ unsigned_abs q = ap (λ n. n / g) is ∙ sym (unsigned_abs-int_div num g) ∙ ap unsigned_abs (sym e) in
    (above_zero den g some above h.1, subst (λ n. IsGcd n (den / g) 1) same (lowest size den g above h))

-- of the same value
pub quotients_value : (num q : ℤ) (size den g : ℕ) → size ≡ unsigned_abs num → q ≡ int_div num (pos g) → IsGcd size den g → q *ℤ pos den ≡ num *ℤ pos (den / g)
quotients_value num q size den g is e h =
    ap (λ z. z *ℤ pos den) e ∙ cross_signed num den g (subst (λ n. g ∣ n) is h.0) h.1

-- and with a numerator that is no greater
pub quotients_small : (num q : ℤ) (g : ℕ) → q ≡ int_div num (pos g) → unsigned_abs q ≤ unsigned_abs num
quotients_small num q g e = let f : unsigned_abs q ≡ unsigned_abs num / g = ap unsigned_abs e ∙ unsigned_abs-int_div num g in omega (arith, f, div-le_self (unsigned_abs num) g)
