-- One more entry of the raised list.
use Rattle.std.proofs.Common.{◌≡◌, ℕ, suc, ◌+◌, ◌*◌, ◌-◌, ◌^◌, ◌<◌, ◌≤◌, min, max, List, ◌∷◌, drop, drop-cons, get_or, length, arith, refl, ap, [], sum, All}
use Rattle.std.proofs.Math.Nat.{mul-le-mul, pow-suc, pow-le-pow_right}
use Rattle.bid_rules.specs.Pairs.{positives, product}
use Rattle.std.proofs.lemmas.List.Sums.{sum_by-cons}
use Rattle.std.proofs.lemmas.List.Elements.{All-head, All-tail}
use Rattle.nash_bounds.specs.Levels.{with_extra_points}
use Rattle.bid_rules.specs.declared.limits.TheConstants.{MEMBER_ROOM, WHOLE_POINTS}

-- the lifted entries from one place on: the first, and the rest
pub lifted_next : (extra : ℕ) (entries above : List ℕ) (i step : ℕ) → i < length entries → i < length above → step ≡ min (get_or above i 0 - get_or entries i 0) extra
    → with_extra_points extra (drop i entries) (drop i above) ≡ (get_or entries i 0 + step) ∷ with_extra_points (extra - step) (drop (i + 1) entries) (drop (i + 1) above)
lifted_next extra entries above i step a b is =
    let one : drop i entries ≡ get_or entries i 0 ∷ drop (suc i) entries = drop-cons entries i 0 a in
    let two : drop i above ≡ get_or above i 0 ∷ drop (suc i) above = drop-cons above i 0 b in
    let next : i + 1 ≡ suc i = omega arith in
    let d : min extra (get_or above i 0 - get_or entries i 0) ≡ step = omega arith in
    let e : extra - (get_or above i 0 - get_or entries i 0) ≡ extra - step = omega arith in
    rw (one, two, next, d, e) refl

-- one more utility is counted where it is positive
pub count_next : (count : ℕ) (all : ℕ) (x : ℕ) (before after : List ℕ) → before ≡ x ∷ after → count + positives before ≡ all → count + min x 1 + positives after ≡ all
count_next count all x before after is h = let e : positives before ≡ min x 1 + positives after = ap positives is in omega arith

-- one more utility is a factor where it is positive
pub product_next : (p : ℕ) (all : ℕ) (x : ℕ) (before after : List ℕ) → before ≡ x ∷ after → p * product before ≡ all → p * max x 1 * product after ≡ all
product_next p all x before after is h =
    let e : p * product before ≡ p * (max x 1 * product after) = ap (λ us. p * product us) is in
    let f : p * (max x 1 * product after) ≡ p * max x 1 * product after = omega arith in
    omega arith

-- one more factor of at most all points of a player makes one more power of these
pub power_next : (p x i : ℕ) → p ≤ WHOLE_POINTS ^ i → x ≤ WHOLE_POINTS → p * x ≤ WHOLE_POINTS ^ (i + 1)
power_next p x i a b =
    let e : i + 1 ≡ suc i = omega arith in
    let f : WHOLE_POINTS ^ suc i ≡ WHOLE_POINTS ^ i * WHOLE_POINTS = pow-suc WHOLE_POINTS i in
    let g : p * x ≤ WHOLE_POINTS ^ i * WHOLE_POINTS = mul-le-mul a b in
    rw (e, f) g

-- a product of one such factor a player fits 128 bits
pub power_fits : (p i : ℕ) → p ≤ WHOLE_POINTS ^ i → i ≤ MEMBER_ROOM → p < 2 ^ 128
power_fits p i a b =
    let e : WHOLE_POINTS ^ i ≤ WHOLE_POINTS ^ MEMBER_ROOM = pow-le-pow_right (omega arith) b in
    omega arith

-- entries of at most all points of a player sum to at most so many times these
pub sum_within : (xs : List ℕ) → All (λ x. x ≤ WHOLE_POINTS) xs → sum xs ≤ WHOLE_POINTS * length xs
sum_within [] h = omega arith
sum_within (x ∷ xs) h =
    let P : ℕ → Type 0 = λ x. x ≤ WHOLE_POINTS in
    let e : sum (x ∷ xs) ≡ x + sum xs = sum_by-cons (λ n. n) x xs in
    let own : x ≤ WHOLE_POINTS = All-head P x xs h in
    let rest = sum_within xs (All-tail P x xs h) in
    omega arith
