-- Two fractions of one value are equal.
use Rattle.std.proofs.Common.{◌≡◌, ℕ, ℤ, pos, ◌*ℤ◌, ◌*◌, ◌<◌, ◌≤◌, sym, subst, ap, ◌∙◌, unsigned_abs, arith}
use Rattle.std.specs.Int.{IsGcd, ◌∣◌}
use Rattle.std.proofs.Math.Path.{to_path_p}
use Rattle.std.proofs.Math.Bridge.{le_prop}
use Rattle.std.proofs.Math.Nat.{∣_prop, dvd-mul_left, mul-le-mul_left, le_of_mul-le-mul_right}
use Rattle.std.proofs.lemmas.Nat.Gcd.{dvd_antisymm, le_of_dvd}
use Rattle.std.proofs.lemmas.Int.{unsigned_abs-mul}
use Rattle.split_frac.proofs.Coprime.{coprime_divides}
use Rattle.split_frac.proofs.Scaled.{scaled_cancel}
use Rattle.split_frac.specs.Frac.{HasValue}
use Rattle.split_frac.specs.declared.frac.Frac.{Frac}

-- a fraction is its numerator and its denominator
pub same_frac : (a b : Frac) → a.num ≡ b.num → a.den ≡ b.den → a ≡ b
same_frac a b p q =
    let lowest_prop : (n d : ℕ) → IsProp (IsGcd n d 1) = hlevel ∣_prop in
    λ i. record {
      num = p i;
      den = q i;
      positive = to_path_p (λ j. 0 < q j) {a = a.positive} {b = b.positive} (le_prop _ b.positive) i;
      lowest = to_path_p (λ j. IsGcd (unsigned_abs (p j)) (q j) 1) {a = a.lowest} {b = b.lowest} (lowest_prop _ _ _ b.lowest) i;
    }

-- the sizes of equal cross products
sizes : (m n : ℤ) (d e : ℕ) → m *ℤ pos e ≡ n *ℤ pos d → unsigned_abs m * e ≡ unsigned_abs n * d
sizes m n d e p = sym (unsigned_abs-mul m (pos e)) ∙ ap unsigned_abs p ∙ unsigned_abs-mul n (pos d)

-- where the cross products agree, each denominator divides the other
divides : (m n : ℤ) (d e : ℕ) → IsGcd (unsigned_abs m) d 1 → m *ℤ pos e ≡ n *ℤ pos d → d ∣ e
divides m n d e h p = coprime_divides (unsigned_abs m) d e h (subst (λ k. d ∣ k) (sym (sizes m n d e p)) (dvd-mul_left d (unsigned_abs n)))

-- the denominator of a fraction divides that of each way to write its value
pub den_divides : (a : Frac) (num : ℤ) (den : ℕ) → HasValue a num den → a.den ∣ den
den_divides a num den h = divides a.num num a.den den a.lowest h

-- and its numerator is no greater than theirs
pub num_small : (a : Frac) (num : ℤ) (den : ℕ) → 0 < den → HasValue a num den → unsigned_abs a.num ≤ unsigned_abs num
num_small a num den some h =
    let same = sizes a.num num a.den den h in
    let low : unsigned_abs num * a.den ≤ unsigned_abs num * den = mul-le-mul_left (unsigned_abs num) (le_of_dvd some (den_divides a num den h)) in
    let both : unsigned_abs a.num * den ≤ unsigned_abs num * den = omega (arith, same, low) in
    le_of_mul-le-mul_right both some

-- two fractions whose cross products agree are equal
pub same_value : (a b : Frac) → a.num *ℤ pos b.den ≡ b.num *ℤ pos a.den → a ≡ b
same_value a b p =
    let dens : a.den ≡ b.den = dvd_antisymm (divides a.num b.num a.den b.den a.lowest p) (divides b.num a.num b.den a.den b.lowest (sym p)) in
    let nums : a.num ≡ b.num = scaled_cancel a.num b.num b.den b.positive (p ∙ ap (λ k. b.num *ℤ pos k) dens) in
    same_frac a b nums dens
