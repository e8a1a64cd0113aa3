-- The order in which goods move, over goods to which the poorer player gives points: of two goods one is before the other, not both, and
-- what is before a good is before what comes after it.
use Rattle.std.proofs.Common.{◌≡◌, ℕ, ◌+◌, ◌*◌, ◌<◌, ◌≤◌, ◌==◌, ◌&&◌, ◌||◌, nat_lt, Bool, true, false, arith, ◌⊎◌, inl, inr, ⊎_elim}
use Rattle.std.proofs.Math.Nat.{mul-le-mul_left}
use Rattle.std.proofs.lemmas.Bool.{cases_lt}
use Rattle.std.proofs.lemmas.Bool.Decides.{nat_tests}
use Rattle.bid_rules.specs.declared.goods.GoodsCase.{GoodsCase}
use Rattle.winner_definition.specs.Winners.{first_owner, greater_points, lesser_points, may_move, moves_before}

-- what may move belongs to the player at first
pub may_owner : (case : GoodsCase) (player good : ℕ) → may_move case player good ≡ true → first_owner case good ≡ player
may_owner case player good h = own (first_owner case good) player (lesser_points case good) h
  where
    own : (o p l : ℕ) → ((o == p) && nat_lt 0 l) ≡ true → o ≡ p
    own o p l h = grind (arith, nat_tests)

-- and has points of the other
pub may_lesser : (case : GoodsCase) (player good : ℕ) → may_move case player good ≡ true → 1 ≤ lesser_points case good
may_lesser case player good h = some (first_owner case good) player (lesser_points case good) h
  where
    some : (o p l : ℕ) → ((o == p) && nat_lt 0 l) ≡ true → 1 ≤ l
    some o p l h = grind (arith, nat_tests)

-- the test of the order, by numbers
abbrev pub test : ℕ → ℕ → ℕ → ℕ → Bool
test p q x y = nat_lt p q || ((p == q) && nat_lt x y)

abbrev pub Before : ℕ → ℕ → ℕ → ℕ → Type 0
Before p q x y = (p < q) ⊎ ((p ≡ q) × (x < y))

pub from : (p q x y : ℕ) → test p q x y ≡ true → Before p q x y
from p q x y h = grind (arith, nat_tests)

pub to : (p q x y : ℕ) → Before p q x y → test p q x y ≡ true
to p q x y h = grind (arith, nat_tests)

-- where the test fails, neither way to pass it holds
not_less : (p q x y : ℕ) → test p q x y ≡ false → p < q → ⊥
not_less p q x y h t = grind (arith, nat_tests)

not_first : (p q x y : ℕ) → test p q x y ≡ false → x < y → p ≤ q → ⊥
not_first p q x y h s t = grind (arith, nat_tests)

two : (p q x y : ℕ) → test p q x y ≡ false → (x ≡ y) ⊎ (test q p y x ≡ true)
two p q x y h = ⊎_elim
    (λ (s : p < q). absurd (not_less p q x y h s))
    (λ (s : q ≤ p). ⊎_elim
    (λ (t : q < p). inr (to q p y x (inl t)))
    (λ (t : p ≤ q). ⊎_elim
    (λ (u : x < y). absurd (not_first p q x y h u t))
    (λ (u : y ≤ x). ⊎_elim (λ (v : y < x). inr (to q p y x (inr (omega arith, v)))) (λ (v : x ≤ y). inl (omega arith)) (cases_lt y x))
    (cases_lt x y))
    (cases_lt q p))
    (cases_lt p q)

-- of two goods one is before the other
pub total : (case : GoodsCase) (a b : ℕ) → moves_before case a b ≡ false → (a ≡ b) ⊎ (moves_before case b a ≡ true)
total case a b h = two (greater_points case a * lesser_points case b) (greater_points case b * lesser_points case a) a b h

-- not both
pub apart : (case : GoodsCase) (a b : ℕ) → moves_before case a b ≡ true → moves_before case b a ≡ true → ⊥
apart case a b h k = both (greater_points case a * lesser_points case b) (greater_points case b * lesser_points case a) a b (from _ _ a b h) (from _ _ b a k)
  where
    both : (p q x y : ℕ) → Before p q x y → Before q p y x → ⊥
    both p q x y h k = let r : ⊥ = grind arith in r

-- and none before itself
pub not_itself : (case : GoodsCase) (a : ℕ) → moves_before case a a ≡ true → ⊥
not_itself case a h = apart case a a h h

-- cross products of three ratios
crossed : (a b c d e f : ℕ) → a * d ≤ c * b → c * f ≤ e * d → (a * f) * d ≤ (e * b) * d
crossed a b c d e f h k =
    let x : f * (a * d) ≤ f * (c * b) = mul-le-mul_left f h in
    let y : b * (c * f) ≤ b * (e * d) = mul-le-mul_left b k in
    omega (arith, x, y)

crossed_first : (a b c d e f : ℕ) → 1 ≤ f → a * d < c * b → c * f ≤ e * d → (a * f) * d < (e * b) * d
crossed_first a b c d e f some h k =
    let x : f * (a * d + 1) ≤ f * (c * b) = mul-le-mul_left f (let s : a * d + 1 ≤ c * b = omega arith in s) in
    let y : b * (c * f) ≤ b * (e * d) = mul-le-mul_left b k in
    let z : f * (a * d + 1) ≡ f * (a * d) + f = omega arith in
    omega (arith, x, y, z, some)

crossed_second : (a b c d e f : ℕ) → 1 ≤ b → a * d ≤ c * b → c * f < e * d → (a * f) * d < (e * b) * d
crossed_second a b c d e f some h k =
    let x : f * (a * d) ≤ f * (c * b) = mul-le-mul_left f h in
    let y : b * (c * f + 1) ≤ b * (e * d) = mul-le-mul_left b (let s : c * f + 1 ≤ e * d = omega arith in s) in
    let z : b * (c * f + 1) ≡ b * (c * f) + b = omega arith in
    omega (arith, x, y, z, some)

-- a common factor
less_cancel : (p q d : ℕ) → p * d < q * d → p < q
less_cancel p q d h = ⊎_elim (λ (t : p < q). t) (λ (t : q ≤ p). let m : d * q ≤ d * p = mul-le-mul_left d t in absurd (omega (arith, h, m))) (cases_lt p q)

le_cancel : (p q d : ℕ) → 1 ≤ d → p * d ≤ q * d → p ≤ q
le_cancel p q d some h = ⊎_elim (λ (t : q < p). let m : d * (q + 1) ≤ d * p = mul-le-mul_left d (let s : q + 1 ≤ p = omega arith in s) in let z : d * (q + 1) ≡ d * q + d = omega arith in absurd (omega (arith, h, m, z, some)))
    (λ (t : p ≤ q). t) (cases_lt q p)

-- what is before a good is before what comes after it
pub through : (case : GoodsCase) (a b c : ℕ) → 1 ≤ lesser_points case a → 1 ≤ lesser_points case b → 1 ≤ lesser_points case c
    → moves_before case a b ≡ true → moves_before case b c ≡ true → moves_before case a c ≡ true
through case a b c la lb lc h k =
    numbers (greater_points case a) (lesser_points case a) (greater_points case b) (lesser_points case b) (greater_points case c) (lesser_points case c) a b c la lb lc
    (from _ _ a b h) (from _ _ b c k)
  where
    numbers : (a b c d e f x y z : ℕ) → 1 ≤ b → 1 ≤ d → 1 ≤ f → Before (a * d) (c * b) x y → Before (c * f) (e * d) y z → test (a * f) (e * b) x z ≡ true
    numbers a b c d e f x y z lb ld lf h k = to (a * f) (e * b) x z (⊎_elim
        (λ (s : a * d < c * b). inl (less_cancel (a * f) (e * b) d (crossed_first a b c d e f lf s (low k))))
        (λ (s : (a * d ≡ c * b) × (x < y)). ⊎_elim
        (λ (t : c * f < e * d). inl (less_cancel (a * f) (e * b) d (crossed_second a b c d e f lb (let u = s.0 in omega arith) t)))
        (λ (t : (c * f ≡ e * d) × (y < z)).
        let up : a * f ≤ e * b = le_cancel (a * f) (e * b) d ld (crossed a b c d e f (let u = s.0 in omega arith) (let u = t.0 in omega arith)) in
        let down : e * b ≤ a * f = le_cancel (e * b) (a * f) d ld (crossed e f c d a b (let u = t.0 in omega arith) (let u = s.0 in omega arith)) in
        inr (omega arith, let u = s.1 in let v = t.1 in omega arith))
        k)
        h)
      where
        low : {p q x y : ℕ} → Before p q x y → p ≤ q
        low {p} {q} (inl s) = omega arith
        low {p} {q} (inr s) = let u = s.0 in omega arith
