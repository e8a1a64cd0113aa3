-- The geometric mean of positive numbers is at most their arithmetic mean.
use Rattle.std.proofs.Common.{◌≡◌, ℕ, suc, zero, ◌+◌, ◌*◌, ◌^◌, ◌-◌, ◌≤◌, max, List, [], ◌∷◌, length, sum, All, arith, refl, ap, ◌∙◌, subst, inl, inr}
use Rattle.std.proofs.Math.Nat.{mul-le-mul_left, mul-le-mul_right, le_of_mul-le-mul_left, pow-suc, pow-zero, one-le-pow}
use Rattle.std.proofs.lemmas.Nat.{mul-pow}
use Rattle.std.proofs.lemmas.Bool.{cases_lt}
use Rattle.std.proofs.lemmas.List.Sums.{sum_by-cons}
use Rattle.std.proofs.lemmas.List.Elements.{All-head, All-tail}
use Rattle.bid_rules.specs.Pairs.{positives, product}

-- a number and a greater one
squares_more : (x d : ℕ) → 2 * (x * (x + d)) ≤ x * x + (x + d) * (x + d)
squares_more x d = omega arith

-- twice a product of two numbers is at most the sum of their squares
squares : (x z : ℕ) → 2 * (x * z) ≤ x * x + z * z
squares x z =
    elim (cases_lt x z) [
      | inl l ↦ (let is : x + (z - x) ≡ z = omega arith in subst (λ y. 2 * (x * y) ≤ x * x + y * y) is (squares_more x (z - x)))
      | inr l ↦ (let is : z + (x - z) ≡ x = omega arith in
          subst (λ y. 2 * (y * z) ≤ y * y + z * z) is (let h = squares_more z (x - z) in omega arith))
    ]

-- the first power
first_power : (x : ℕ) → x ^ 1 ≡ x
first_power x = let z : x ^ 0 ≡ 1 = pow-zero x in pow-suc x 0 ∙ ap (λ k. k * x) z ∙ omega arith

-- a power is no lower than its tangent
tangent : (n x z : ℕ) → suc n * (x * z ^ n) ≤ x ^ suc n + n * z ^ suc n
tangent zero x z =
    let a : z ^ 0 ≡ 1 = pow-zero z in
    let b : x ^ 1 ≡ x = first_power x in
    rw (a, b) (omega arith)
tangent (suc n) x z =
    let p = z ^ n in
    let q = x ^ suc n in
    let one : z ^ suc n ≡ p * z = pow-suc z n in
    let two : z ^ suc (suc n) ≡ p * z * z = pow-suc z (suc n) ∙ ap (λ k. k * z) one in
    let more : x ^ suc (suc n) ≡ q * x = pow-suc x (suc n) in
    let before : suc n * (x * p) ≤ q + n * (p * z) = subst (λ k. suc n * (x * p) ≤ q + n * k) one (tangent n x z) in
    let times : suc n * (x * p) * x ≤ (q + n * (p * z)) * x = mul-le-mul_right x before in
    let square : suc n * p * (2 * (x * z)) ≤ suc n * p * (x * x + z * z) = mul-le-mul_left (suc n * p) (squares x z) in
    last n x z p q (z ^ suc n) (z ^ suc (suc n)) (x ^ suc (suc n)) one two more times square
  where
    last : (n x z p q a b c : ℕ) → a ≡ p * z → b ≡ p * z * z → c ≡ q * x → suc n * (x * p) * x ≤ (q + n * (p * z)) * x
        → suc n * p * (2 * (x * z)) ≤ suc n * p * (x * x + z * z) → suc (suc n) * (x * a) ≤ c + suc n * b
    last n x z p q a b c one two more times square = rw (one, two, more) (omega arith)

-- a number times itself as often as it says is positive
pub self_power_pos : (c : ℕ) → 1 ≤ c ^ c
self_power_pos zero = (let z : 0 ^ 0 ≡ 1 = pow-zero 0 in omega arith)
self_power_pos (suc c) = one-le-pow (suc c) (suc c) (omega arith)

-- one more number, of whatever size
one_more : (c y s : ℕ) → suc c ^ suc c * (y * s ^ c) ≤ c ^ c * (y + s) ^ suc c
one_more zero y s =
    let a : s ^ 0 ≡ 1 = pow-zero s in
    let b : (y + s) ^ 1 ≡ y + s = first_power (y + s) in
    let d : 0 ^ 0 ≡ 1 = pow-zero 0 in
    let e : 1 ^ 1 ≡ 1 = first_power 1 in
    rw (a, b) (omega arith)
one_more (suc k) y s =
    let c = suc k in
    let x = c * (y + s) in
    let z = suc c * s in
    let line : suc c * (x * z ^ c) ≤ x ^ suc c + c * z ^ suc c = tangent c x z in
    let zc : z ^ c ≡ suc c ^ c * s ^ c = mul-pow (suc c) s c in
    let zs : z ^ suc c ≡ z ^ c * z = pow-suc z c in
    let xs : x ^ suc c ≡ c ^ suc c * (y + s) ^ suc c = mul-pow c (y + s) (suc c) in
    let cs : c ^ suc c ≡ c ^ c * c = pow-suc c c in
    let ss : suc c ^ suc c ≡ suc c ^ c * suc c = pow-suc (suc c) c in
    le_of_mul-le-mul_left (joined c y s (z ^ c) (z ^ suc c) (x ^ suc c) (suc c ^ c) (s ^ c) (c ^ suc c) ((y + s) ^ suc c) (c ^ c) (suc c ^ suc c) line zc zs xs cs ss) (omega arith)
  where
    joined : (c y s zc zs xs d e f g h i : ℕ) → suc c * (c * (y + s) * zc) ≤ xs + c * zs → zc ≡ d * e → zs ≡ zc * (suc c * s) → xs ≡ f * g → f ≡ h * c → i ≡ d * suc c
        → c * (i * (y * e)) ≤ c * (h * g)
    joined c y s zc zs xs d e f g h i line a b m n o =
        let one : suc c * (c * (y + s) * (d * e)) ≤ h * c * g + c * (d * e * (suc c * s)) =
        subst (λ k. suc c * (c * (y + s) * k) ≤ h * c * g + c * (k * (suc c * s))) a
        (subst (λ k. suc c * (c * (y + s) * zc) ≤ k * g + c * (zc * (suc c * s))) n
        (subst (λ k. suc c * (c * (y + s) * zc) ≤ k + c * (zc * (suc c * s))) m (subst (λ k. suc c * (c * (y + s) * zc) ≤ xs + c * k) b line))) in
        rw o (omega arith)

-- the law with one more number follows from the law
longer : (c p s y : ℕ) → c ^ c * p ≤ s ^ c → suc c ^ suc c * (y * p) ≤ (y + s) ^ suc c
longer c p s y h =
    let a = c ^ c in
    let b = suc c ^ suc c in
    let one : b * y * (a * p) ≤ b * y * s ^ c = mul-le-mul_left (b * y) h in
    let two : b * (y * s ^ c) ≤ a * (y + s) ^ suc c = one_more c y s in
    let both : a * (b * (y * p)) ≤ a * (y + s) ^ suc c = omega arith in
    le_of_mul-le-mul_left both (self_power_pos c)

-- the law at numbers that are equal
same : (c p s d q t : ℕ) → d ≡ c → q ≡ p → t ≡ s → c ^ c * p ≤ s ^ c → d ^ d * q ≤ t ^ d
same c p s d q t i j k h = rw (i, j, k) h

-- the law for the positive ones of some numbers
pub mean : (ys : List ℕ) → positives ys ^ positives ys * product ys ≤ sum ys ^ positives ys
mean [] = (let z : 0 ^ 0 ≡ 1 = pow-zero 0 in omega arith)
mean (zero ∷ ys) =
    let total : sum (0 ∷ ys) ≡ 0 + sum ys = sum_by-cons (λ n. n) 0 ys in
    same (positives ys) (product ys) (sum ys) (positives (0 ∷ ys)) (product (0 ∷ ys)) (sum (0 ∷ ys)) (omega arith) (omega arith) (omega arith) (mean ys)
mean (suc y ∷ ys) =
    let total : sum (suc y ∷ ys) ≡ suc y + sum ys = sum_by-cons (λ n. n) (suc y) ys in
    same (suc (positives ys)) (suc y * product ys) (suc y + sum ys) (positives (suc y ∷ ys)) (product (suc y ∷ ys)) (sum (suc y ∷ ys)) (omega arith)
    (let e : max (suc y) 1 ≡ suc y = omega arith in ap (λ k. k * product ys) e) total
    (longer (positives ys) (product ys) (sum ys) (suc y) (mean ys))

-- where all numbers are positive
pub all_positive : (ys : List ℕ) → All (λ y. 1 ≤ y) ys → positives ys ≡ length ys
all_positive [] h = refl
all_positive (y ∷ ys) h =
    let one : 1 ≤ y = All-head (λ y. 1 ≤ y) y ys h in
    let rest : positives ys ≡ length ys = all_positive ys (All-tail (λ y. 1 ≤ y) y ys h) in
    omega arith

-- the law for positive numbers
pub mean_all : (ys : List ℕ) → All (λ y. 1 ≤ y) ys → length ys ^ length ys * product ys ≤ sum ys ^ length ys
mean_all ys h = subst (λ c. c ^ c * product ys ≤ sum ys ^ c) (all_positive ys h) (mean ys)
