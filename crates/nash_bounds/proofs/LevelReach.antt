-- A pair that no list can reach, by the entries at one level: whatever the level, one more point than they have multiplies the product by
-- at most (level + 1) / level.
use Rattle.std.proofs.Common.{◌≡◌, ℕ, suc, zero, ◌+◌, ◌*◌, ◌-◌, ◌<◌, ◌≤◌, List, sum, arith, ap, ◌∙◌, subst}
use Rattle.std.specs.List.{AllZip}
use Rattle.std.proofs.Math.Nat.{mul-le-mul_left, mul-le-mul_right, le_of_mul-le-mul_right, le_of_mul-le-mul_left}
use Rattle.bid_rules.specs.Pairs.{positives, product}
use Rattle.nash_bounds.specs.Levels.{entries_at_level}
use Rattle.nash_bounds.proofs.WeightRatios.{weight, power, power-add, power_pos}
use Rattle.nash_bounds.proofs.GreatestPair.{weights, weights_are, weigh, lighter, filled_fits}

-- s steps of (a + 2) / a are at most (a + s) / (a - s)
steps : (a s : ℕ) → s < a → power (a + 2) s * (a - s) ≤ power a s * (a + s)
unfolding power
steps a zero l = omega arith
steps a (suc s) l =
    let e = a - suc s in
    let is : a ≡ s + e + 1 = omega arith in
    let before : power (a + 2) s * (a - s) ≤ power a s * (a + s) = steps a s (omega arith) in
    let left : a - s ≡ e + 1 = omega arith in
    let before' : power (a + 2) s * (e + 1) ≤ power a s * (a + s) = subst (λ n. power (a + 2) s * n ≤ power a s * (a + s)) left before in
    let key : (a + 2) * (a + s) * e ≤ a * (e + 1) * (a + suc s) = key_step s e a is in
    let one : power (a + 2) s * (e + 1) * ((a + 2) * e) ≤ power a s * (a + s) * ((a + 2) * e) = mul-le-mul_right ((a + 2) * e) before' in
    let two : power a s * ((a + 2) * (a + s) * e) ≤ power a s * (a * (e + 1) * (a + suc s)) = mul-le-mul_left (power a s) key in
    let three : power (a + 2) s * (e + 1) * ((a + 2) * e) ≡ (a + 2) * power (a + 2) s * e * (e + 1) = omega arith in
    let four : power a s * (a + s) * ((a + 2) * e) ≡ power a s * ((a + 2) * (a + s) * e) = omega arith in
    let five : power a s * (a * (e + 1) * (a + suc s)) ≡ a * power a s * (a + suc s) * (e + 1) = omega arith in
    let six : (a + 2) * power (a + 2) s * e * (e + 1) ≤ a * power a s * (a + suc s) * (e + 1) = omega arith in
    le_of_mul-le-mul_right six (omega arith)
  where
    key_step : (s e a : ℕ) → a ≡ s + e + 1 → (a + 2) * (a + s) * e ≤ a * (e + 1) * (a + suc s)
    key_step s e a is = rw is (let h : (s + e + 1) * (e + 1) * (s + e + 1 + suc s) ≡ (s + e + 1 + 2) * (s + e + 1 + s) * e + (2 * (s * s) + 2 * (s + e + 1) + 2 * s) = omega arith in omega arith)

-- entries at a level against any others with s points more, where as many are positive
pub slack : (m s : ℕ) (lows highs us : List ℕ) → AllZip ◌≤◌ lows highs → AllZip ◌≤◌ lows us → AllZip ◌≤◌ us highs → positives us ≡ positives (entries_at_level (suc m) 0 lows highs)
    → sum us ≤ sum (entries_at_level (suc m) 0 lows highs) + s → s < 2 * suc m → product us * (2 * suc m - s) ≤ product (entries_at_level (suc m) 0 lows highs) * (2 * suc m + s)
unfolding weight
slack m s lows highs us order above below same fits few =
    let xs = entries_at_level (suc m) 0 lows highs in
    let a = 2 * suc m in
    let b = 2 * suc (suc m) in
    let U = sum us in
    let X = sum xs in
    let all : weights 2 us * (power b X * power a U) ≤ weights 2 xs * (power b U * power a X) = weigh 2 (suc m) lows xs highs us (omega arith) (filled_fits (suc m) 0 lows highs order) above below in
    let more : weights 2 us * (power b X * power a U) * (power a s * power b s) ≤ weights 2 xs * (power b U * power a X) * (power a s * power b s) = mul-le-mul_right (power a s * power b s) all in
    let d = X + s - U in
    let is : X + s ≡ U + d = omega arith in
    let pb : power b (X + s) ≡ power b X * power b s = power-add b X s in
    let pa : power a (X + s) ≡ power a X * power a s = power-add a X s in
    let left : weights 2 us * (power b X * power a U) * (power a s * power b s) ≡ weights 2 us * power a s * (power b X * power b s * power a U) = omega arith in
    let right : weights 2 xs * (power b U * power a X) * (power a s * power b s) ≡ weights 2 xs * power b s * (power b U * (power a X * power a s)) = omega arith in
    let both : weights 2 us * power a s * (power b X * power b s * power a U) ≤ weights 2 xs * power b s * (power b U * (power a X * power a s)) = omega arith in
    let both' : weights 2 us * power a s * (power b (X + s) * power a U) ≤ weights 2 xs * power b s * (power b U * power a (X + s)) = rw (pb, pa) both in
    let both'' : weights 2 us * power a s * (power b (U + d) * power a U) ≤ weights 2 xs * power b s * (power b U * power a (U + d)) =
    subst (λ n. weights 2 us * power a s * (power b n * power a U) ≤ weights 2 xs * power b s * (power b U * power a n)) is both' in
    let pos : 0 < a = omega arith in
    let light : weights 2 us * power a s ≤ weights 2 xs * power b s = lighter a b (weights 2 us * power a s) (weights 2 xs * power b s) U d (omega arith) pos both'' in
    let p = power 2 (positives xs) in
    let eu : weights 2 us ≡ p * product us = weights_are 2 us ∙ ap (λ n. power 2 n * product us) same in
    let ex : weights 2 xs ≡ p * product xs = weights_are 2 xs in
    let light' : p * product us * power a s ≤ p * product xs * power b s =
    subst (λ w. w * power a s ≤ p * product xs * power b s) eu (subst (λ w. weights 2 us * power a s ≤ w * power b s) ex light) in
    let l1 : p * product us * power a s ≡ p * (product us * power a s) = omega arith in
    let l2 : p * product xs * power b s ≡ p * (product xs * power b s) = omega arith in
    let l3 : p * (product us * power a s) ≤ p * (product xs * power b s) = omega arith in
    let plain : product us * power a s ≤ product xs * power b s = le_of_mul-le-mul_left l3 (power_pos 2 (positives xs) (omega arith)) in
    let near : power (a + 2) s * (a - s) ≤ power a s * (a + s) = steps a s few in
    let ab : a + 2 ≡ b = omega arith in
    let near' : power b s * (a - s) ≤ power a s * (a + s) = subst (λ n. power n s * (a - s) ≤ power a s * (a + s)) ab near in
    let n1 : product us * power a s * (a - s) ≤ product xs * power b s * (a - s) = mul-le-mul_right (a - s) plain in
    let n2 : product xs * (power b s * (a - s)) ≤ product xs * (power a s * (a + s)) = mul-le-mul_left (product xs) near' in
    let n3 : product us * power a s * (a - s) ≡ product us * (a - s) * power a s = reorder (product us) (power a s) (a - s) in
    let n4 : product xs * power b s * (a - s) ≡ product xs * (power b s * (a - s)) = assoc (product xs) (power b s) (a - s) in
    let n5 : product xs * (power a s * (a + s)) ≡ product xs * (a + s) * power a s = assoc' (product xs) (power a s) (a + s) in
    let n6 : product us * (a - s) * power a s ≤ product xs * (a + s) * power a s = chain n3 n1 n4 n2 n5 in
    le_of_mul-le-mul_right n6 (power_pos a s pos)
  where
    reorder : (x y z : ℕ) → x * y * z ≡ x * z * y
    reorder x y z = omega arith

    assoc : (x y z : ℕ) → x * y * z ≡ x * (y * z)
    assoc x y z = omega arith

    assoc' : (x y z : ℕ) → x * (y * z) ≡ x * z * y
    assoc' x y z = omega arith

    chain : {a b c d e f : ℕ} → a ≡ b → a ≤ c → c ≡ d → d ≤ e → e ≡ f → b ≤ f
    chain p q r s t = omega arith
