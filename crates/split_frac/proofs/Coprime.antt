-- A number that divides a multiple of another, and shares no divisor above 1 with it, divides the other factor.
use Rattle.std.proofs.Common.{◌≡◌, ℕ, suc, zero, ◌*◌, ◌+◌, ◌-◌, ◌/◌, ◌%◌, ◌<◌, refl, subst, ap, ◌∙◌, arith}
use Rattle.std.specs.Int.{IsGcd, ◌∣◌}
use Rattle.std.proofs.Math.Nat.{dvd-sub, dvd-mul_right, dvd-mul_left_of_dvd, one-mul, mod-lt, div-add-mod}
use Rattle.std.proofs.lemmas.Nat.Gcd.{IsGcd-from_zero, IsGcd-from_mod, same_from_IsGcd}

-- a common divisor of one multiple of a and b divides that multiple of the remainder
remainder : (a b c d : ℕ) → d ∣ a * c → d ∣ b * c → d ∣ a % b * c
remainder a b c d p q =
    let parts : (b * (a / b) + a % b) * c ≡ a * c = ap (λ n. n * c) (div-add-mod a b) in
    let rest : a * c - a / b * (b * c) ≡ a % b * c = omega (arith, parts) in
    subst (λ n. d ∣ n) rest (dvd-sub d p (dvd-mul_left_of_dvd d q (a / b)))

-- Euclid's steps: a common divisor of one multiple of a and b divides that multiple of their greatest common divisor
pub common : (steps a b c d : ℕ) → b < steps → d ∣ a * c → d ∣ b * c → (g : ℕ) × IsGcd a b g × (d ∣ g * c)
common zero a b c d low p q = absurd (omega arith)
common (suc steps) a zero c d low p q = (a, IsGcd-from_zero a 0 refl, p)
common (suc steps) a (suc b) c d low p q =
    let some : 0 < suc b = omega arith in
    let less : a % suc b < steps = omega (arith, mod-lt a some) in
    let next = common steps (suc b) (a % suc b) c d less q (remainder a (suc b) c d p q) in
    (next.0, IsGcd-from_mod a (suc b) next.0 next.1, next.2)

-- d shares no divisor above 1 with a, and divides a multiple of a
pub coprime_divides : (a d c : ℕ) → IsGcd a d 1 → d ∣ a * c → d ∣ c
coprime_divides a d c h p =
    let found = common (suc d) a d c d (omega arith) p (dvd-mul_right d c) in
    let one : found.0 * c ≡ c = ap (λ n. n * c) (same_from_IsGcd a d found.0 1 found.1 h) ∙ one-mul c in
    subst (λ n. d ∣ n) one found.2
