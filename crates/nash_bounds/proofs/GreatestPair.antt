-- No list that the bound allows has a greater pair than the entries raised to one level.
use Rattle.std.proofs.Common.{◌≡◌, ℕ, suc, zero, ◌+◌, ◌*◌, ◌-◌, ◌<◌, ◌≤◌, min, max, List, [], ◌∷◌, arith, refl, sym, ap, ◌∙◌, subst, ◌⊎◌, inl, inr, sum}
use Rattle.std.specs.List.{AllZip}
use Rattle.std.proofs.lemmas.List.Sums.{sum_by-cons}
use Rattle.std.proofs.lemmas.Bool.{cases_order}
use Rattle.std.proofs.Math.Nat.{mul-le-mul, mul-le-mul_left, mul-pos, le_of_mul-le-mul_right, le_of_mul-le-mul_left}
use Rattle.bid_rules.specs.Pairs.{positives, product, nash_welfare, IsAtMost}
use Rattle.nash_bounds.specs.Levels.{entry_at, entries_at_level}
use Rattle.nash_bounds.specs.Bound.{IsBetween, IsBound}
use Rattle.nash_bounds.proofs.WeightRatios.{weight, power, power-add, weight_pos, power_pos, power_le, against}

-- the product of the weights
unfoldable pub weights : ℕ → List ℕ → ℕ
weights k [] = 1
weights k (u ∷ us) = weight k u * weights k us

-- the product of the weights is that of the utilities, times k for each positive one
pub weights_are : (k : ℕ) (us : List ℕ) → weights k us ≡ power k (positives us) * product us
unfolding weights weight power
weights_are k [] = refl
weights_are k (zero ∷ us) =
    let h : weights k us ≡ power k (positives us) * product us = weights_are k us in
    let none : min zero 1 + positives us ≡ positives us = omega arith in
    let one : max zero 1 ≡ 1 = omega arith in
    rw (none, one) (omega arith)
weights_are k (suc u ∷ us) =
    let h : weights k us ≡ power k (positives us) * product us = weights_are k us in
    let more : min (suc u) 1 + positives us ≡ suc (positives us) = omega arith in
    let it : max (suc u) 1 ≡ suc u = omega arith in
    let e : k * suc u * weights k us ≡ k * suc u * (power k (positives us) * product us) = ap (λ z. k * suc u * z) h in
    rw (more, it) (omega arith)

-- the product is positive
pub product_pos : (us : List ℕ) → 0 < product us
product_pos [] = omega arith
product_pos (u ∷ us) = mul-pos (let h : 0 < max u 1 = omega arith in h) (product_pos us)

-- the product of weights orders pairs
in_order : (k c p d q : ℕ) → p < k → q < k → 0 < p → 0 < q → power k c * p ≤ power k d * q → (c < d) ⊎ ((c ≡ d) × (p ≤ q))
unfolding power
in_order k c p d q hp hq pp pq h =
    elim (cases_order c d) [
      | inl e ↦ inr (e, le_of_mul-le-mul_left (subst (λ z. power k c * p ≤ power k z * q) (sym e) h) (power_pos k c (omega arith)))
      | inr l ↦ elim l [
        | inl l ↦ inl l
        | inr g ↦ absurd (
            let e = c - suc d in
            let is : c ≡ d + suc e = omega arith in
            let split : power k c ≡ power k d * (k * power k e) = ap (power k) is ∙ power-add k d (suc e) in
            let one : power k d * (k * power k e * p) ≤ power k d * q =
            (let f : power k d * (k * power k e * p) ≡ power k d * (k * power k e) * p = omega arith in
            let g : power k d * (k * power k e) * p ≤ power k d * q = subst (λ z. z * p ≤ power k d * q) split h in omega arith) in
            let two : k * power k e * p ≤ q = le_of_mul-le-mul_left one (power_pos k d (omega arith)) in
            let three : 0 < power k e * p = mul-pos (power_pos k e (omega arith)) pp in
            let four : k * 1 ≤ k * (power k e * p) = mul-le-mul_left k three in
            let five : k * (power k e * p) ≡ k * power k e * p = omega arith in
            omega arith)
      ]
    ]

-- an entry that could rise is not below the level, and one that has risen is at most one above it
abbrev pub FitsLevel : ℕ → List ℕ → List ℕ → List ℕ → Type 0
FitsLevel level [] [] [] = Unit {0}
FitsLevel level [] [] (high ∷ highs) = ⊥
FitsLevel level [] (x ∷ xs) highs = ⊥
FitsLevel level (low ∷ lows) [] highs = ⊥
FitsLevel level (low ∷ lows) (x ∷ xs) [] = ⊥
FitsLevel level (low ∷ lows) (x ∷ xs) (high ∷ highs) = ((x < high → level ≤ x) × (low < x → x ≤ suc level)) × FitsLevel level lows xs highs

-- the entries at a level do
pub filled_fits : (level extra : ℕ) (lows highs : List ℕ) → AllZip ◌≤◌ lows highs → FitsLevel level lows (entries_at_level level extra lows highs) highs
filled_fits level extra [] [] a = tt
filled_fits level extra [] (high ∷ highs) a = absurd a
filled_fits level extra (low ∷ lows) [] a = absurd a
filled_fits level extra (low ∷ lows) (high ∷ highs) a =
    let le : low ≤ high = a.0 in
    (((λ l. omega arith), (λ l. omega arith)), filled_fits level (extra - (entry_at (suc level) low high - entry_at level low high)) lows highs a.1)

-- entries raised to a level weigh at least as much as others within low and high, against the difference of the sums
pub weigh : (k level : ℕ) (lows xs highs us : List ℕ) → 2 ≤ k → FitsLevel level lows xs highs → AllZip ◌≤◌ lows us → AllZip ◌≤◌ us highs
    → weights k us * (power (weight k (suc level)) (sum xs) * power (weight k level) (sum us)) ≤ weights k xs * (power (weight k (suc level)) (sum us) * power (weight k level) (sum xs))
unfolding weights
weigh k level [] [] [] [] h a b c = omega arith
weigh k level [] [] [] (u ∷ us) h a b c = absurd b
weigh k level [] [] (high ∷ highs) us h a b c = absurd a
weigh k level [] (x ∷ xs) highs us h a b c = absurd a
weigh k level (low ∷ lows) [] highs us h a b c = absurd a
weigh k level (low ∷ lows) (x ∷ xs) [] us h a b c = absurd a
weigh k level (low ∷ lows) (x ∷ xs) (high ∷ highs) [] h a b c = absurd b
weigh k level (low ∷ lows) (x ∷ xs) (high ∷ highs) (u ∷ us) h a b c =
    let wa = weight k level in
    let wb = weight k (suc level) in
    let least : low ≤ u = b.0 in
    let most : u ≤ high = c.0 in
    let one = against k level x u h (λ l. a.0.0 (omega arith)) (λ l. a.0.1 (omega arith)) in
    let rest = weigh k level lows xs highs us h a.1 b.1 c.1 in
    let sum_u : sum (u ∷ us) ≡ u + sum us = sum_by-cons (λ n. n) u us in
    let sum_x : sum (x ∷ xs) ≡ x + sum xs = sum_by-cons (λ n. n) x xs in
    let bu : power wb (u + sum us) ≡ power wb u * power wb (sum us) = power-add wb u (sum us) in
    let au : power wa (u + sum us) ≡ power wa u * power wa (sum us) = power-add wa u (sum us) in
    let bx : power wb (x + sum xs) ≡ power wb x * power wb (sum xs) = power-add wb x (sum xs) in
    let ax : power wa (x + sum xs) ≡ power wa x * power wa (sum xs) = power-add wa x (sum xs) in
    let both = mul-le-mul one rest in
    let left : weight k u * weights k us * (power wb x * power wb (sum xs) * (power wa u * power wa (sum us)))
    ≡ weight k u * (power wb x * power wa u) * (weights k us * (power wb (sum xs) * power wa (sum us))) = omega arith in
    let right : weight k x * weights k xs * (power wb u * power wb (sum us) * (power wa x * power wa (sum xs)))
    ≡ weight k x * (power wb u * power wa x) * (weights k xs * (power wb (sum us) * power wa (sum xs))) = omega arith in
    rw (sum_u, sum_x, bu, au, bx, ax) (omega arith)

-- the weight rises with the level
pub weight_le : (k level : ℕ) → 2 ≤ k → weight k level ≤ weight k (suc level)
unfolding weight
weight_le k zero h = omega arith
weight_le k (suc n) h = mul-le-mul_left k (omega arith)

-- what is weighed against more points weighs no more
pub lighter : (a b u x s d : ℕ) → a ≤ b → 0 < a → u * (power b (s + d) * power a s) ≤ x * (power b s * power a (s + d)) → u ≤ x
lighter a b u x s d le pos h =
    let pb : power b (s + d) ≡ power b s * power b d = power-add b s d in
    let pa : power a (s + d) ≡ power a s * power a d = power-add a s d in
    let c = power b s * power a s in
    let h' : u * (power b s * power b d * power a s) ≤ x * (power b s * (power a s * power a d)) =
    subst (λ z. u * (z * power a s) ≤ x * (power b s * (power a s * power a d))) pb (subst (λ z. u * (power b (s + d) * power a s) ≤ x * (power b s * z)) pa h) in
    let left : u * (power b s * power b d * power a s) ≡ u * power b d * c = omega arith in
    let right : x * (power b s * (power a s * power a d)) ≡ x * power a d * c = omega arith in
    let some : 0 < c = mul-pos (power_pos b s (omega arith)) (power_pos a s pos) in
    let one : u * power b d * c ≤ x * power a d * c = omega arith in
    let two : u * power b d ≤ x * power a d = le_of_mul-le-mul_right one some in
    let three : x * power a d ≤ x * power b d = mul-le-mul_left x (power_le a b d le) in
    let four : u * power b d ≤ x * power b d = omega arith in
    le_of_mul-le-mul_right four (power_pos b d (omega arith))

-- of two lists entry by entry in order the sums are in order
pub sum_AllZip : (us vs : List ℕ) → AllZip ◌≤◌ us vs → sum us ≤ sum vs
sum_AllZip [] [] h = omega arith
sum_AllZip [] (v ∷ vs) h = absurd h
sum_AllZip (u ∷ us) [] h = absurd h
sum_AllZip (u ∷ us) (v ∷ vs) h =
    let a : sum (u ∷ us) ≡ u + sum us = sum_by-cons (λ n. n) u us in
    let b : sum (v ∷ vs) ≡ v + sum vs = sum_by-cons (λ n. n) v vs in
    let rest = sum_AllZip us vs h.1 in
    let first : u ≤ v = h.0 in
    omega arith

-- any list between low and high whose sum is no greater has no greater pair
pub no_greater : (level : ℕ) (lows xs highs us : List ℕ) → FitsLevel level lows xs highs → AllZip ◌≤◌ lows us → AllZip ◌≤◌ us highs
    → sum us ≤ sum xs → IsAtMost (nash_welfare us) (nash_welfare xs)
no_greater level lows xs highs us a b c le =
    let k = suc (suc (product us + product xs)) in
    let d = sum xs - sum us in
    let is : sum xs ≡ sum us + d = omega arith in
    let all = weigh k level lows xs highs us (omega arith) a b c in
    let all' : weights k us * (power (weight k (suc level)) (sum us + d) * power (weight k level) (sum us))
    ≤ weights k xs * (power (weight k (suc level)) (sum us) * power (weight k level) (sum us + d)) =
    subst (λ z. weights k us * (power (weight k (suc level)) z * power (weight k level) (sum us))
    ≤ weights k xs * (power (weight k (suc level)) (sum us) * power (weight k level) z)) is all in
    let less : weights k us ≤ weights k xs = lighter (weight k level) (weight k (suc level)) (weights k us) (weights k xs) (sum us) d
    (weight_le k level (omega arith)) (weight_pos k level (omega arith)) all' in
    let eu : weights k us ≡ power k (positives us) * product us = weights_are k us in
    let ex : weights k xs ≡ power k (positives xs) * product xs = weights_are k xs in
    in_order k (positives us) (product us) (positives xs) (product xs) (omega arith) (omega arith) (product_pos us) (product_pos xs) (omega arith)

-- raised entries sum to at most top
at_most : (top : ℕ) (xs high : List ℕ) → (sum xs ≡ top) ⊎ ((xs ≡ high) × (sum high ≤ top)) → sum xs ≤ top
at_most top xs high (inl e) = omega arith
at_most top xs high (inr p) = let e : sum xs ≡ sum high = ap sum p.0 in let f : sum high ≤ top = p.1 in omega arith

-- raised entries sum to at least what any list within low and high does
least : (low high us xs : List ℕ) (top : ℕ) → IsBetween low high top us → (sum xs ≡ top) ⊎ ((xs ≡ high) × (sum high ≤ top)) → sum us ≤ sum xs
least low high us xs top within (inl e) = let f : sum us ≤ top = within.total in omega arith
least low high us xs top within (inr p) = let e : sum xs ≡ sum high = ap sum p.0 in let f = sum_AllZip us high within.below in omega arith

-- where a list fits some level, and sums to top or is high, its pair is the bound
pub fitting_bound : (level : ℕ) (low xs high : List ℕ) (top : ℕ) → FitsLevel level low xs high → AllZip ◌≤◌ low xs → AllZip ◌≤◌ xs high
    → (sum xs ≡ top) ⊎ ((xs ≡ high) × (sum high ≤ top)) → IsBound low high top (nash_welfare xs)
fitting_bound level low xs high top fits above below ends = record {
  reached = (xs, record { above = above; below = below; total = at_most top xs high ends }, refl);
  greatest = λ us within. no_greater level low xs high us fits within.above within.below (least low high us xs top within ends);
}
