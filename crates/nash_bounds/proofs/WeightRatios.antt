-- A positive utility counts as a large factor k times itself, so that one product orders pairs.
use Rattle.std.proofs.Common.{◌≡◌, ℕ, suc, zero, ◌+◌, ◌*◌, ◌-◌, ◌<◌, ◌≤◌, arith, ap, ◌∙◌, subst, inl, inr}
use Rattle.std.proofs.lemmas.Bool.{cases_lt, cases_eq}
use Rattle.std.proofs.Math.Nat.{mul-le-mul, mul-le-mul_left, mul-le-mul_right, mul-pos}

-- a positive utility times k, or 1
unfoldable pub weight : ℕ → ℕ → ℕ
weight k zero = 1
weight k (suc u) = k * suc u

-- a power, by its recursion
unfoldable pub power : ℕ → ℕ → ℕ
power a zero = 1
power a (suc n) = a * power a n

-- a power of a sum is the product of the powers
pub power-add : (a m n : ℕ) → power a (m + n) ≡ power a m * power a n
unfolding power
power-add a m zero = let e : m + 0 ≡ m = omega arith in rw e (let f : power a m ≡ power a m * 1 = omega arith in f)
power-add a m (suc n) =
    let e : m + suc n ≡ suc (m + n) = omega arith in
    let h : power a (m + n) ≡ power a m * power a n = power-add a m n in
    rw e (ap (λ z. a * z) h ∙ (let f : a * (power a m * power a n) ≡ power a m * (a * power a n) = omega arith in f))

-- a weight is positive
pub weight_pos : (k u : ℕ) → 0 < k → 0 < weight k u
unfolding weight
weight_pos k zero h = omega arith
weight_pos k (suc u) h = mul-pos h (omega arith)

-- a power of a positive number is positive
pub power_pos : (a n : ℕ) → 0 < a → 0 < power a n
unfolding power
power_pos a zero h = omega arith
power_pos a (suc n) h = mul-pos h (power_pos a n h)

-- a power rises with its base
pub power_le : (a b n : ℕ) → a ≤ b → power a n ≤ power b n
unfolding power
power_le a b zero h = omega arith
power_le a b (suc n) h = mul-le-mul h (power_le a b n h)

-- one more point multiplies a smaller utility by more
pub ratio : (k t s : ℕ) → 2 ≤ k → t ≤ s → weight k (suc s) * weight k t ≤ weight k s * weight k (suc t)
unfolding weight
ratio k zero zero h l = omega arith
ratio k (suc t) zero h l = absurd (omega arith)
ratio k zero (suc s) h l =
    let two : k * suc s * (2 * 1) ≤ k * suc s * (k * 1) = mul-le-mul_left (k * suc s) (omega arith) in
    let half : k * suc (suc s) * 1 ≤ k * suc s * (2 * 1) = omega arith in
    omega arith
ratio k (suc t) (suc s) h l =
    let d = s - t in
    let is : s ≡ t + d = omega arith in
    let e : suc (suc s) * suc t + d ≡ suc s * suc (suc t) = rw is (omega arith) in
    let f : suc (suc s) * suc t ≤ suc s * suc (suc t) = omega arith in
    let g : k * k * (suc (suc s) * suc t) ≤ k * k * (suc s * suc (suc t)) = mul-le-mul_left (k * k) f in
    let left : k * suc (suc s) * (k * suc t) ≡ k * k * (suc (suc s) * suc t) = omega arith in
    let right : k * suc s * (k * suc (suc t)) ≡ k * k * (suc s * suc (suc t)) = omega arith in
    omega arith

-- rising d points from x, at or above the level
pub up : (k level x d : ℕ) → 2 ≤ k → level ≤ x → weight k (x + d) * power (weight k level) d ≤ weight k x * power (weight k (suc level)) d
unfolding power
up k level x zero h l = let e : x + 0 ≡ x = omega arith in rw e (omega arith)
up k level x (suc d) h l =
    let a = weight k level in
    let b = weight k (suc level) in
    let pa = power a d in
    let pb = power b d in
    let e : x + suc d ≡ suc (x + d) = omega arith in
    let one : weight k (suc (x + d)) * a ≤ weight k (x + d) * b = ratio k level (x + d) h (omega arith) in
    let one' : weight k (suc (x + d)) * a * pa ≤ weight k (x + d) * b * pa = mul-le-mul_right pa one in
    let rest : weight k (x + d) * pa ≤ weight k x * pb = up k level x d h l in
    let rest' : weight k (x + d) * pa * b ≤ weight k x * pb * b = mul-le-mul_right b rest in
    let swap : weight k (x + d) * b * pa ≡ weight k (x + d) * pa * b = omega arith in
    let left : weight k (suc (x + d)) * (a * pa) ≡ weight k (suc (x + d)) * a * pa = omega arith in
    let right : weight k x * (b * pb) ≡ weight k x * pb * b = omega arith in
    rw e (omega arith)

-- falling d points to y, from at most one above the level
pub down : (k level y d : ℕ) → 2 ≤ k → y + d ≤ suc level → weight k y * power (weight k (suc level)) d ≤ weight k (y + d) * power (weight k level) d
unfolding power
down k level y zero h l = let e : y + 0 ≡ y = omega arith in rw e (omega arith)
down k level y (suc d) h l =
    let a = weight k level in
    let b = weight k (suc level) in
    let pa = power a d in
    let pb = power b d in
    let e : y + suc d ≡ suc (y + d) = omega arith in
    let one : b * weight k (y + d) ≤ a * weight k (suc (y + d)) = ratio k (y + d) level h (omega arith) in
    let one' : b * weight k (y + d) * pa ≤ a * weight k (suc (y + d)) * pa = mul-le-mul_right pa one in
    let rest : weight k y * pb ≤ weight k (y + d) * pa = down k level y d h (omega arith) in
    let rest' : weight k y * pb * b ≤ weight k (y + d) * pa * b = mul-le-mul_right b rest in
    let swap : weight k (y + d) * pa * b ≡ b * weight k (y + d) * pa = omega arith in
    let left : weight k y * (b * pb) ≡ weight k y * pb * b = omega arith in
    let right : weight k (suc (y + d)) * (a * pa) ≡ a * weight k (suc (y + d)) * pa = omega arith in
    rw e (omega arith)

-- above a level, each further point multiplies the weight by at most what it does at the level
against_rising : (k level x d : ℕ) → 2 ≤ k → level ≤ x
    → weight k (x + d) * (power (weight k (suc level)) x * power (weight k level) (x + d)) ≤ weight k x * (power (weight k (suc level)) (x + d) * power (weight k level) x)
against_rising k level x d h at =
    let a = weight k level in
    let b = weight k (suc level) in
    let c = power b x * power a x in
    let main : weight k (x + d) * power a d ≤ weight k x * power b d = up k level x d h at in
    let times : weight k (x + d) * power a d * c ≤ weight k x * power b d * c = mul-le-mul_right c main in
    let pa : power a (x + d) ≡ power a x * power a d = power-add a x d in
    let pb : power b (x + d) ≡ power b x * power b d = power-add b x d in
    rw (pa, pb) (omega arith)

-- up to a level, each point less divides the weight by at least what it does at the level
against_falling : (k level y d : ℕ) → 2 ≤ k → y + d ≤ suc level
    → weight k y * (power (weight k (suc level)) (y + d) * power (weight k level) y) ≤ weight k (y + d) * (power (weight k (suc level)) y * power (weight k level) (y + d))
against_falling k level y d h at =
    let a = weight k level in
    let b = weight k (suc level) in
    let c = power b y * power a y in
    let main : weight k y * power b d ≤ weight k (y + d) * power a d = down k level y d h at in
    let times : weight k y * power b d * c ≤ weight k (y + d) * power a d * c = mul-le-mul_right c main in
    let pa : power a (y + d) ≡ power a y * power a d = power-add a y d in
    let pb : power b (y + d) ≡ power b y * power b d = power-add b y d in
    rw (pa, pb) (omega arith)

-- an entry x that the level fits, against any other entry y
pub against : (k level x y : ℕ) → 2 ≤ k → (x < y → level ≤ x) → (y < x → x ≤ suc level)
    → weight k y * (power (weight k (suc level)) x * power (weight k level) y) ≤ weight k x * (power (weight k (suc level)) y * power (weight k level) x)
against k level x y h high low =
    elim (cases_lt x y) [
      | inl l ↦ (let is : x + (y - x) ≡ y = omega arith in
          subst (λ z. weight k z * (power (weight k (suc level)) x * power (weight k level) z) ≤ weight k x * (power (weight k (suc level)) z * power (weight k level) x)) is
          (against_rising k level x (y - x) h (high l)))
      | inr l ↦ (let is : y + (x - y) ≡ x = omega arith in
          elim (cases_eq y x) [
            | inl e ↦ subst (λ z. weight k y * (power (weight k (suc level)) z * power (weight k level) y) ≤ weight k z * (power (weight k (suc level)) y * power (weight k level) z)) e (omega arith)
            | inr ne ↦ subst (λ z. weight k y * (power (weight k (suc level)) z * power (weight k level) y) ≤ weight k z * (power (weight k (suc level)) y * power (weight k level) z)) is
                (against_falling k level y (x - y) h (let at : x ≤ suc level = low (omega arith) in omega arith))
          ])
    ]
