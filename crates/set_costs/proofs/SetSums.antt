-- Sums over the riders of a set, and their sizes.
use Rattle.std.proofs.Common.{◌≡◌, ◌≢◌, ℕ, zero, suc, ℤ, pos, ◌+◌, ◌-◌, ◌*◌, ◌^◌, ◌<◌, ◌≤◌, ◌+ℤ◌, ◌-ℤ◌, ◌*ℤ◌, List, [], ◌∷◌, ◌++◌, length, get_or, Contains, arith, ap, ◌∙◌, subst, sym, ⊎_elim, unsigned_abs, to_z, of_z, FitsSigned}
use Rattle.std.specs.Int.{w64}
use Rattle.std.specs.List.{range_with_len}
use Rattle.std.proofs.lemmas.Bool.{cases_lt}
use Rattle.std.proofs.lemmas.List.{get_or_append_left, get_or-append-add, length-append}
use Rattle.std.proofs.lemmas.List.FromFn.{length-range_with_len, get_or-range_with_len}
use Rattle.bid_rules.specs.declared.cases.FareCase.{FareCase}
use Rattle.bid_rules.specs.declared.limits.TheConstants.{MOST_FARE_CENTS, MOST_RIDERS}
use Rattle.bid_rules.specs.Coalitions.{riders_in}
use Rattle.bid_rules.specs.FareLimits.{most_cost, most_sum}
use Rattle.best_laws.specs.MarginalSums.{marginal_sum}
use Rattle.set_costs.specs.Sums.{ListsSums}
use Rattle.std.proofs.Math.Nat.{mul-le-mul, mul-le-mul_right}
use Rattle.std.proofs.lemmas.Int.{ints, unsigned_abs-mul}
use Rattle.bid_rules.specs.Orders.{factorial}
use Rattle.split_lemmas.proofs.Factorials.{factorial_rises}

-- the most that a part of a sum comes to: a cost, once for each order of all riders but one
abbrev pub most_part : ℕ
most_part = most_cost * factorial (MOST_RIDERS - 1)

-- a number up to a cost, once for each order of all riders but one or fewer
times_small : (z : ℤ) (orders : ℕ) → unsigned_abs z ≤ most_cost → orders ≤ factorial (MOST_RIDERS - 1) → unsigned_abs (z *ℤ pos orders) ≤ most_part
times_small z orders small few = subst (λ n. n ≤ most_part) (sym (unsigned_abs-mul z (pos orders))) (mul-le-mul small few)

-- a sum over the orders of n riders, and over those of the others
pub sum_of_riders : (z : ℤ) (n : ℕ) → unsigned_abs z ≤ MOST_FARE_CENTS * (n + 1) * factorial n → n ≤ MOST_RIDERS → unsigned_abs z ≤ most_cost * factorial n
sum_of_riders z n small few =
    let most : MOST_FARE_CENTS * (n + 1) * factorial n ≤ most_cost * factorial n = mul-le-mul_right (factorial n) (let h : MOST_FARE_CENTS * (n + 1) ≤ most_cost = omega (arith, few) in h) in
    omega (arith, small, most)

pub sum_of_others : (z : ℤ) (others : ℕ) → unsigned_abs z ≤ MOST_FARE_CENTS * (others + 1) * factorial others → others < MOST_RIDERS → unsigned_abs z ≤ most_part
sum_of_others z others small few =
    let most : MOST_FARE_CENTS * (others + 1) * factorial others ≤ most_part =
    mul-le-mul (let h : MOST_FARE_CENTS * (others + 1) ≤ most_cost = omega (arith, few) in h) (factorial_rises others (MOST_RIDERS - 1) (omega (arith, few))) in
    omega (arith, small, most)

-- and its size in numbers
pub sum_small : (z : ℤ) (n : ℕ) → unsigned_abs z ≤ most_cost * factorial n → n ≤ MOST_RIDERS → unsigned_abs z ≤ most_sum
sum_small z n small few = let most = factorial_rises n MOST_RIDERS few in omega (arith, small, most)

-- a number as the code keeps it
abbrev pub kept : ℤ → ℤ
kept z = to_z w64 (of_z w64 z)

-- a number of at most 63 bits is kept whole, and so is one without a sign
pub kept_whole : (z : ℤ) → unsigned_abs z < 2 ^ 63 → kept z ≡ z
kept_whole z small = omega (arith, ints)

pub fits_whole : (z : ℤ) → unsigned_abs z < 2 ^ 63 → FitsSigned w64 z
fits_whole z small = omega (arith, ints)

cast_whole : (n : ℕ) → n < 2 ^ 63 → to_z w64 n ≡ pos n
cast_whole n small = omega (arith, ints)

-- the difference of two costs, once for each of some orders, as the code makes it
pub added_is : (x y : ℤ) (a b orders : ℕ) → x ≡ pos a → y ≡ pos b → a ≤ most_cost → b ≤ most_cost → orders ≤ factorial (MOST_RIDERS - 1)
    → (kept (kept x -ℤ kept y) *ℤ to_z w64 orders ≡ (pos a -ℤ pos b) *ℤ pos orders) × (unsigned_abs (kept (kept x -ℤ kept y) *ℤ to_z w64 orders) ≤ most_part)
added_is x y a b orders e f high low few =
    let inner : kept (pos a -ℤ pos b) ≡ pos a -ℤ pos b = kept_whole (pos a -ℤ pos b) (omega (arith, ints, high, low)) in
    let first : kept x ≡ pos a = ap kept e ∙ kept_whole (pos a) (omega (arith, ints, high)) in
    let second : kept y ≡ pos b = ap kept f ∙ kept_whole (pos b) (omega (arith, ints, low)) in
    let third : to_z w64 orders ≡ pos orders = cast_whole orders (omega (arith, few)) in
    let whole : kept (kept x -ℤ kept y) *ℤ to_z w64 orders ≡ (pos a -ℤ pos b) *ℤ pos orders =
    ap (λ z. kept (z -ℤ kept y) *ℤ to_z w64 orders) first ∙ ap (λ z. kept (pos a -ℤ z) *ℤ to_z w64 orders) second ∙ ap (λ z. kept (pos a -ℤ pos b) *ℤ z) third
    ∙ ap (λ z. z *ℤ pos orders) inner in
    (whole, subst (λ z. unsigned_abs z ≤ most_part) (sym whole) (times_small (pos a -ℤ pos b) orders (omega (arith, ints, high, low)) few))

-- what is in a list and is not its first element comes after it
pub behind_other : (x y : ℕ) (xs : List ℕ) → x ≢ y → Contains (x ∷ xs) y → Contains xs y
behind_other x y xs apart (zero, l, e) = absurd (apart e)
behind_other x y xs apart (suc k, l, e) = (k, omega arith, e)

-- a sum so far with one more part, as the code makes it
pub next_sum : (s z : ℤ) (k : ℕ) → k < MOST_RIDERS → unsigned_abs s ≤ most_part * k → unsigned_abs z ≤ most_part
    → FitsSigned w64 (s +ℤ kept z) × (kept (s +ℤ kept z) ≡ s +ℤ z) × (unsigned_abs (kept (s +ℤ kept z)) ≤ most_part * (k + 1))
next_sum s z k few small part =
    let plain : kept (s +ℤ kept z) ≡ s +ℤ z = omega (arith, ints) in
    let sized : unsigned_abs (s +ℤ z) ≤ most_part * (k + 1) = omega (arith, ints) in
    (omega (arith, ints), plain, subst (λ a. unsigned_abs a ≤ most_part * (k + 1)) (sym plain) sized)

-- one more set has its sum
pub lists_more : (case : FareCase) (rider : ℕ) (old new : List ℤ) (z : ℤ) → new ≡ old ++ z ∷ [] → (Contains (riders_in (length old)) rider → z ≡ marginal_sum case rider (riders_in (length old)))
    → ListsSums case rider old → ListsSums case rider new
lists_more case rider old new z is value lists set l there = ⊎_elim
    (λ before. ap (λ (zs : List ℤ). get_or zs set (pos 0)) is ∙ get_or_append_left old (z ∷ []) (pos 0) set before ∙ lists set before there)
    (λ after.
    let here : set ≡ length old = (let long = ap length is ∙ length-append old (z ∷ []) in omega (arith, l, long, after)) in
    let end : length old ≡ length old + 0 = omega arith in
    ap (λ (zs : List ℤ). get_or zs set (pos 0)) is ∙ ap (λ n. get_or (old ++ z ∷ []) n (pos 0)) (here ∙ end) ∙ get_or-append-add old (z ∷ []) 0 (pos 0)
    ∙ value (subst (λ s. Contains (riders_in s) rider) here there) ∙ ap (λ s. marginal_sum case rider (riders_in s)) (sym here))
    (cases_lt set (length old))

-- each rider is in the set of all
pub rider_of_all : (n rider : ℕ) → riders_in (2 ^ n - 1) ≡ range_with_len 1 n → 1 ≤ rider → rider ≤ n → Contains (riders_in (2 ^ n - 1)) rider
rider_of_all n rider all low high = subst (λ xs. Contains xs rider) (sym all) (
  rider - 1,
  omega (arith, length-range_with_len 1 n, low, high),
  (let at = get_or-range_with_len 1 n (rider - 1) rider (omega (arith, low, high)) in omega (arith, at, low)),
)
