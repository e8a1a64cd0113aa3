-- A division that weights support is efficient, and envy-free where it is equitable.
use Rattle.std.proofs.Common.{◌≡◌, ℕ, suc, ◌+◌, ◌-◌, ◌*◌, ◌<◌, ◌≤◌, List, [], ◌∷◌, length, sum, sum_by, get_or, arith, refl, sym, ap, ◌∙◌, ⊎_elim, ◌⊎◌, subst}
use Rattle.std.specs.List.{range_with_len}
use Rattle.std.proofs.Math.Nat.{mul-le-mul_left}
use Rattle.std.proofs.lemmas.Bool.{cases_lt}
use Rattle.std.proofs.lemmas.List.Sums.{sum_by-cons}
use Rattle.bid_rules.specs.declared.limits.TheConstants.{WHOLE_POINTS}
use Rattle.bid_rules.specs.declared.goods.GoodsCase.{GoodsCase}
use Rattle.bid_rules.specs.Goods.{IsValidGoodsCase, player_count, points}
use Rattle.winner_definition.specs.Divisions.{AreWeights, IsDivision, IsEfficient, IsEnvyFree, IsEquitable, first_points, parts_held, second_points}
use Rattle.winner_definition.proofs.Weighted.{greatest, greatest_half, sum_first, sum_same, weighed_bounded, weighed_reached}

-- the sum of a list, by its places
pub sum_places : (xs : List ℕ) (a : ℕ) → sum_by (λ i. get_or xs (i - a) 0) (range_with_len a (length xs)) ≡ sum xs
sum_places [] a = refl
sum_places (x ∷ xs) a =
    let first : get_or (x ∷ xs) (a - a) 0 ≡ x = let none : a - a ≡ 0 = omega arith in ap (λ n. get_or (x ∷ xs) n 0) none in
    let shift : sum_by (λ i. get_or (x ∷ xs) (i - a) 0) (range_with_len (a + 1) (length xs)) ≡ sum_by (λ i. get_or xs (i - (a + 1)) 0) (range_with_len (a + 1) (length xs)) =
    sum_same (λ i. get_or (x ∷ xs) (i - a) 0) (λ i. get_or xs (i - (a + 1)) 0) (a + 1) (length xs)
    (λ i l m. let e : i - a ≡ suc (i - (a + 1)) = omega arith in ap (λ n. get_or (x ∷ xs) n 0) e) in
    let rest = sum_places xs (a + 1) in
    omega (arith, sum_first (λ i. get_or (x ∷ xs) (i - a) 0) a (length xs), sum_by-cons (λ (n : ℕ). n) x xs, first, shift, rest)

-- what a player gives all goods
pub all_points : (case : GoodsCase) (player : ℕ) → IsValidGoodsCase case → 1 ≤ player → player ≤ player_count case
    → sum_by (λ good. points case player good) (range_with_len 1 case.facts.goods) ≡ WHOLE_POINTS
all_points case player valid low high =
    let inside : player - 1 < length case.values.items = omega arith in
    let row = get_or case.values.items (player - 1) (record { items = [] }) in
    let count : length row.items ≡ case.facts.goods = valid.goods (player - 1) (record { items = [] }) inside in
    let whole : sum row.items ≡ WHOLE_POINTS = valid.sums (player - 1) (record { items = [] }) inside in
    subst (λ n. sum_by (λ good. points case player good) (range_with_len 1 n) ≡ WHOLE_POINTS) count (sum_places row.items 1 ∙ whole)

-- player 1 has at most all parts of a good
pub held_within : (case : GoodsCase) (parts : ℕ) (held : List ℕ) → IsDivision case parts held → (good : ℕ) → 1 ≤ good → good < 1 + case.facts.goods → parts_held held good ≤ parts
held_within case parts held division good low high = division.within (good - 1) 0 (omega (arith, division.each))

-- what all goods are worth by the weights, each with whom it is worth most
abbrev most : GoodsCase → ℕ → ℕ → ℕ
most case first second = greatest (points case 1) (points case 2) first second 1 case.facts.goods

-- a division comes to no more
no_more : (case : GoodsCase) (parts : ℕ) (held : List ℕ) (first second : ℕ) → IsDivision case parts held
    → first * first_points case held + second * second_points case parts held ≤ parts * most case first second
no_more case parts held first second division =
    weighed_bounded (points case 1) (points case 2) (parts_held held) parts first second 1 case.facts.goods (held_within case parts held division)

-- one that the weights support comes to no less
no_less : (case : GoodsCase) (parts : ℕ) (held : List ℕ) (first second : ℕ) → IsDivision case parts held → AreWeights case parts held first second
    → parts * most case first second ≤ first * first_points case held + second * second_points case parts held
no_less case parts held first second division weights =
    weighed_reached (points case 1) (points case 2) (parts_held held) parts first second 1 case.facts.goods (held_within case parts held division)
    (λ good l m. weights.had good l (omega arith)) (λ good l m. weights.left good l (omega arith))

-- greater points for one player and no smaller for the other come to more by weights
more_in_all : (k m a b u v x y : ℕ) → 1 ≤ a → 1 ≤ b → m * u ≤ k * x → m * v ≤ k * y → (m * u < k * x) ⊎ (m * v < k * y)
    → m * (a * u + b * v) < k * (a * x + b * y)
more_in_all k m a b u v x y some any first second more =
    let e : m * (a * u + b * v) ≡ a * (m * u) + b * (m * v) = omega arith in
    let f : k * (a * x + b * y) ≡ a * (k * x) + b * (k * y) = omega arith in
    let c : a * (m * u) ≤ a * (k * x) = mul-le-mul_left a first in
    let d : b * (m * v) ≤ b * (k * y) = mul-le-mul_left b second in
    ⊎_elim
    (λ (here : m * u < k * x).
    let g : a * (m * u + 1) ≤ a * (k * x) = mul-le-mul_left a (let s : m * u + 1 ≤ k * x = omega arith in s) in
    let i : a * (m * u + 1) ≡ a * (m * u) + a = omega arith in
    omega (arith, e, f, d, g, i, some))
    (λ (here : m * v < k * y).
    let g : b * (m * v + 1) ≤ b * (k * y) = mul-le-mul_left b (let s : m * v + 1 ≤ k * y = omega arith in s) in
    let i : b * (m * v + 1) ≡ b * (m * v) + b = omega arith in
    omega (arith, e, f, c, g, i, any))
    more

-- weights show that a division is efficient
pub efficient : (case : GoodsCase) (parts : ℕ) (held : List ℕ) (first second : ℕ) → IsDivision case parts held → AreWeights case parts held first second → IsEfficient case parts held
efficient case parts held first second division weights others_parts others other better =
    let here = no_less case parts held first second division weights in
    let there = no_more case others_parts others first second other in
    let over = more_in_all parts others_parts first second (first_points case held) (second_points case parts held) (first_points case others) (second_points case others_parts others)
    weights.first_low weights.second_low better.first better.second better.more in
    let a = mul-le-mul_left others_parts here in
    let b = mul-le-mul_left parts there in
    let c : others_parts * (parts * most case first second) ≡ parts * (others_parts * most case first second) = omega arith in
    omega (arith, over, a, b, c)

-- half of a positive weight
halves : (k a b u s : ℕ) → 1 ≤ a → k * s ≤ a * u + b * u → WHOLE_POINTS * a + WHOLE_POINTS * b ≤ 2 * s → WHOLE_POINTS * k ≤ 2 * u
halves k a b u s some reach half = ⊎_elim
    (λ (low : 2 * u < WHOLE_POINTS * k).
    let c : k * (WHOLE_POINTS * a + WHOLE_POINTS * b) ≤ k * (2 * s) = mul-le-mul_left k half in
    let d : (a + b) * (2 * u + 1) ≤ (a + b) * (WHOLE_POINTS * k) = mul-le-mul_left (a + b) (let t : 2 * u + 1 ≤ WHOLE_POINTS * k = omega arith in t) in
    let e : (a + b) * (2 * u + 1) ≡ 2 * (a * u + b * u) + a + b = omega arith in
    let f : (a + b) * (WHOLE_POINTS * k) ≡ k * (WHOLE_POINTS * a + WHOLE_POINTS * b) = omega arith in
    let g : k * (2 * s) ≡ 2 * (k * s) = omega arith in
    absurd (omega (arith, reach, c, d, e, f, g, some)))
    (λ high. high)
    (cases_lt (2 * u) (WHOLE_POINTS * k))

-- and envy-free where it is equitable
pub envy_free : (case : GoodsCase) (parts : ℕ) (held : List ℕ) (first second : ℕ) → IsValidGoodsCase case → player_count case ≡ 2 → IsDivision case parts held → IsEquitable case parts held
    → AreWeights case parts held first second → IsEnvyFree case parts held
envy_free case parts held first second valid two division equal weights =
    let u = first_points case held in
    let here = no_less case parts held first second division weights in
    let half = greatest_half (points case 1) (points case 2) first second 1 case.facts.goods in
    let one = all_points case 1 valid (omega arith) (omega (arith, two)) in
    let two = all_points case 2 valid (omega arith) (omega (arith, two)) in
    let w1 : first * sum_by (points case 1) (range_with_len 1 case.facts.goods) ≡ WHOLE_POINTS * first = ap (λ n. first * n) one ∙ omega arith in
    let w2 : second * sum_by (points case 2) (range_with_len 1 case.facts.goods) ≡ WHOLE_POINTS * second = ap (λ n. second * n) two ∙ omega arith in
    let same : second * second_points case parts held ≡ second * u = ap (λ n. second * n) (sym equal) in
    let all = halves parts first second u (most case first second) weights.first_low (omega (arith, here, same)) (omega (arith, half, w1, w2)) in
    record { first = all; second = omega (arith, all, equal) }
