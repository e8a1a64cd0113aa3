use Rattle.std.proofs.Common.{arith, ℕ, ◌*◌, ◌+◌, ◌/◌, ◌<◌, ◌≤◌, ◌^◌, sym, subst}
use Rattle.std.proofs.Math.Nat.{mul-le-mul, mul-div_cancel, mul-div_cancel_left, dvd-mul_left, dvd-mul_right}
use Rattle.std.proofs.lemmas.Nat.{mul-lt}
use Rattle.std.proofs.lemmas.Nat.Gcd.{le_of_dvd}
use Rattle.std.specs.Int.{◌∣◌}
use Rattle.rule_tests.proofs.fractions.sum_and_difference.Goals as goal

-- a numerator and a denominator over the product of small denominators are small
within : (l m n p q r : ℕ) → l ≤ 128 → p ≤ 255 → m ≤ 128 → q ≤ 255 → 0 < p → 0 < q → r ∣ p * q → n ≤ l * (p * q / p) + m * (p * q / q) → (n ≤ 10 ^ 24) × (r ≤ 4000000)
within l m n p q r small_l small_p small_m small_q some_p some_q by low =
    let left : l * (p * q / p) ≤ 128 * 255 = mul-le-mul small_l (subst (λ k. k ≤ 255) (sym (mul-div_cancel_left q some_p)) small_q) in
    let right : m * (p * q / q) ≤ 128 * 255 = mul-le-mul small_m (subst (λ k. k ≤ 255) (sym (mul-div_cancel p some_q)) small_p) in
    let dens : p * q ≤ 255 * 255 = mul-le-mul small_p small_q in
    let some : 0 < p * q = mul-lt 0 0 p q some_p some_q in
    (omega (arith, left, right, low), omega (arith, le_of_dvd some by, dens))

pub add-requires-clause-result : goal.add-requires-clause-result
add-requires-clause-result c r h =
    let a = c.args.a in
    let b = c.args.b in
    within _ _ _ a.den b.den _ c.requires.a_num c.requires.a_den c.requires.b_num c.requires.b_den a.positive b.positive
    (c.sum_law.ensures.sum a b r _ (dvd-mul_right _ _) (dvd-mul_left _ _) h)
    (c.sum_law.ensures.sum_size a b r _ (mul-lt 0 0 a.den b.den a.positive b.positive) (dvd-mul_right _ _) (dvd-mul_left _ _) h)

pub sub-requires-clause-result : goal.sub-requires-clause-result
sub-requires-clause-result c r h =
    let a = c.args.a in
    let b = c.args.b in
    within _ _ _ a.den b.den _ c.requires.a_num c.requires.a_den c.requires.b_num c.requires.b_den a.positive b.positive
    (c.sum_law.ensures.difference a b r _ (dvd-mul_right _ _) (dvd-mul_left _ _) h)
    (c.sum_law.ensures.difference_size a b r _ (mul-lt 0 0 a.den b.den a.positive b.positive) (dvd-mul_right _ _) (dvd-mul_left _ _) h)
