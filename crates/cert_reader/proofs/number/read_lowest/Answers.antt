use Rattle.std.proofs.Common.{◌≡◌, refl, subst, unsigned_abs, ℕ}
use Rattle.std.specs.Int.{w128, IsGcd}
use Rattle.std.proofs.lemmas.Int.{to_z-of_z}
use Rattle.std.proofs.lemmas.Nat.Gcd.{same_from_IsGcd}
use Rattle.cert_reader.proofs.number.read_lowest.Goals as goal

is_lowest : (num den g size : ℕ) → size ≡ num → IsGcd size den g → g ≡ 1 → IsGcd num den 1
is_lowest num den g size e h one = subst (λ s. IsGcd s den 1) e (subst (λ d. IsGcd size den d) one h)

pub invariant_of-result : goal.invariant_of-result
invariant_of-result c =
    let fits = c.ranges.num in
    let is = simp to_z-of_z at c.unsigned_abs.ensures.value in
    simp to_z-of_z (record { positive = c.requires; lowest = is_lowest (unsigned_abs c.args.num) c.args.den c.gcd.result c.unsigned_abs.result is c.gcd.ensures.gcd c.if-gcd-eq1.true })

pub returns-then-gcd-eq1 : goal.returns-then-gcd-eq1
returns-then-gcd-eq1 c =
    let fits = c.ranges.num in
    let is = simp to_z-of_z at c.unsigned_abs.ensures.value in
    (to_z-of_z w128 c.args.num fits, refl, is_lowest (unsigned_abs c.args.num) c.args.den c.gcd.result c.unsigned_abs.result is c.gcd.ensures.gcd c.if-gcd-eq1.true)

pub returns-else-gcd-eq1 : goal.returns-else-gcd-eq1
returns-else-gcd-eq1 c h =
    let fits = c.ranges.num in
    let is = simp to_z-of_z at c.unsigned_abs.ensures.value in
    c.if-gcd-eq1.false (same_from_IsGcd (unsigned_abs c.args.num) c.args.den c.gcd.result 1 (subst (λ s. IsGcd s c.args.den c.gcd.result) is c.gcd.ensures.gcd) h)
