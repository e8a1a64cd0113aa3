-- What the test of weights shows.
use Rattle.std.proofs.Common.{◌≡◌, ℕ, suc, zero, ◌+◌, ◌*◌, ◌^◌, ◌-◌, ◌<◌, ◌≤◌, ◌&&◌, ◌||◌, max, List, [], ◌∷◌, ◌++◌, fold, length, map, replicate, All, arith, refl, sym, ap, ◌∙◌, subst, Bool, true, false, cond, eqb, nat_le, nat_lt, ◌⊎◌, inl, inr, ⊎_elim, length-append}
use Rattle.std.proofs.Math.Nat.{mul-le-mul_left, one-le-pow, pow-suc, pow-zero}
use Rattle.std.proofs.lemmas.Bool.Decides.{nat_tests, eqb_tells}
use Rattle.std.proofs.lemmas.List.{length-map, length-replicate}
use Rattle.std.proofs.lemmas.List.Elements.{All-append, All-cons, All-head, All-nil, All-replicate, All-tail}
use Rattle.bid_rules.specs.declared.goods.GoodsCase.{GoodsCase}
use Rattle.bid_rules.specs.declared.pair.Pair.{Pair}
use Rattle.bid_rules.specs.Goods.{IsAllocation, pair_of, utilities}
use Rattle.bid_rules.specs.Pairs.{positives, product}
use Rattle.nash_bounds.specs.Prefixes.{free_goods}
use Rattle.estate_bounds.specs.Counts.{IsCountLimit}
use Rattle.estate_bounds.specs.Shown.{factors, is_light, is_shown, is_shown_above, light_weights, most_holders, one_each_closes, raise_threshold, shares_of, sum_closes, threshold_of, weights_close, weights_from}
use Rattle.estate_bounds.specs.Weighted.{AreWeights, IsChoice, PairStaysBelow, StaysBelow, chosen, first_goods, most_weighted, weight, weighted_top, weights_with, whole_product}
use Rattle.estate_bounds.proofs.ClosedBounds.{at_equal, closed, fewer, is_some, not_some, product_some}
use Rattle.estate_bounds.proofs.LightWeights.{light_some, lightest}
use Rattle.estate_bounds.proofs.Means.{self_power_pos}
use Rattle.estate_bounds.proofs.OneEach.{are_with, one_each}
use Rattle.estate_bounds.proofs.RatioSteps.{shown_above}
use Rattle.estate_bounds.proofs.WeightedSums.{positives_within}

-- two tests that both pass
passed : (a b : Bool) → (a && b) ≡ true → (a ≡ true) × (b ≡ true)
passed true b h = (refl, h)
passed false b h = absurd (let wrong : false ≡ true = h in cc)

-- one of two tests passes
one_passed : (a b : Bool) → (a || b) ≡ true → (a ≡ true) ⊎ (b ≡ true)
one_passed true b h = inl refl
one_passed false b h = inr h

-- what passes the tests
at_most : (a b : ℕ) → nat_le a b ≡ true → a ≤ b
at_most a b h = grind (arith, nat_tests)

below : (a b : ℕ) → nat_lt a b ≡ true → a < b
below a b h = grind (arith, nat_tests)

equal_numbers : (a b : ℕ) → eqb a b ≡ true → a ≡ b
equal_numbers a b h = grind (arith, nat_tests)

-- a choice of two positive numbers
some_of : (b : Bool) (x y : ℕ) → 1 ≤ x → 1 ≤ y → 1 ≤ cond b x y
some_of true x y h k = h
some_of false x y h k = k

-- a threshold is positive
fold_some : (case : GoodsCase) (owners weights : List ℕ) (count threshold : ℕ) (ws : List ℕ) → 1 ≤ threshold → All (λ w. 1 ≤ w) ws → 1 ≤ fold (raise_threshold case owners weights count) threshold ws
fold_some case owners weights count threshold [] h some = h
fold_some case owners weights count threshold (w ∷ ws) h some =
    fold_some case owners weights count (raise_threshold case owners weights count threshold w) ws
    (some_of (nat_lt threshold w && nat_le (length (light_weights case owners weights w)) count) w threshold (All-head (λ w. 1 ≤ w) w ws some) h) (All-tail (λ w. 1 ≤ w) w ws some)

-- the product of a number again and again
product_replicate : (n v : ℕ) → 1 ≤ v → product (replicate n v) ≡ v ^ n
product_replicate zero v h = sym (pow-zero v)
product_replicate (suc n) v h =
    let e : max v 1 ≡ v = omega arith in
    let rest : product (replicate n v) ≡ v ^ n = product_replicate n v h in
    ap (λ k. k * product (replicate n v)) e ∙ ap (λ k. v * k) rest ∙ (let f : v * v ^ n ≡ v ^ n * v = omega arith in f) ∙ sym (pow-suc v n)

-- the whole product of one
whole_replicate : (n v : ℕ) → whole_product (replicate n v) ≡ v ^ n
whole_replicate zero v = sym (pow-zero v)
whole_replicate (suc n) v = ap (λ k. v * k) (whole_replicate n v) ∙ (let f : v * v ^ n ≡ v ^ n * v = omega arith in f) ∙ sym (pow-suc v n)

-- the product of two lists
product_append : (xs ys : List ℕ) → product (xs ++ ys) ≡ product xs * product ys
product_append [] ys = omega arith
product_append (x ∷ xs) ys = ap (λ n. max x 1 * n) (product_append xs ys) ∙ omega arith

-- their whole product
whole_append : (xs ys : List ℕ) → whole_product (xs ++ ys) ≡ whole_product xs * whole_product ys
whole_append [] ys = omega arith
whole_append (x ∷ xs) ys = ap (λ n. x * n) (whole_append xs ys) ∙ omega arith

-- the whole product of positive numbers
whole_positive : (xs : List ℕ) → All (λ x. 1 ≤ x) xs → whole_product xs ≡ product xs
whole_positive [] h = refl
whole_positive (x ∷ xs) h =
    let one : 1 ≤ x = All-head (λ x. 1 ≤ x) x xs h in
    let e : max x 1 ≡ x = omega arith in
    ap (λ n. x * n) (whole_positive xs (All-tail (λ x. 1 ≤ x) x xs h)) ∙ ap (λ n. n * product xs) (sym e)

-- the shares are as many as the positive utilities
pub shares_count : (us : List ℕ) → length (shares_of us) ≡ positives us
shares_count [] = refl
shares_count (zero ∷ us) = subst (λ b. length (cond b (0 ∷ shares_of us) (shares_of us)) ≡ positives (0 ∷ us)) (sym not_some) (let rest = shares_count us in omega arith)
shares_count (suc u ∷ us) = subst (λ b. length (cond b (suc u ∷ shares_of us) (shares_of us)) ≡ positives (suc u ∷ us)) (sym (is_some u)) (let rest = shares_count us in omega arith)

-- they have the same product
pub shares_product : (us : List ℕ) → product (shares_of us) ≡ product us
shares_product [] = refl
shares_product (zero ∷ us) = subst (λ b. product (cond b (0 ∷ shares_of us) (shares_of us)) ≡ product (0 ∷ us)) (sym not_some) (let rest = shares_product us in omega arith)
shares_product (suc u ∷ us) = subst (λ b. product (cond b (suc u ∷ shares_of us) (shares_of us)) ≡ product (suc u ∷ us)) (sym (is_some u)) (ap (λ n. max (suc u) 1 * n) (shares_product us))

-- and each is positive
pub shares_some : (us : List ℕ) → All (λ share. 1 ≤ share) (shares_of us)
shares_some [] = All-nil (λ share. 1 ≤ share)
shares_some (zero ∷ us) = subst (λ b. All (λ share. 1 ≤ share) (cond b (0 ∷ shares_of us) (shares_of us))) (sym not_some) (shares_some us)
shares_some (suc u ∷ us) = subst (λ b. All (λ share. 1 ≤ share) (cond b (suc u ∷ shares_of us) (shares_of us))) (sym (is_some u)) (All-cons (λ share. 1 ≤ share) (suc u) (shares_of us) (omega arith) (shares_some us))

-- what all factors multiply to
factors_product : (count : ℕ) (ws ss : List ℕ) → length ss ≡ length ws → All (λ w. 1 ≤ w) ws → All (λ s. 1 ≤ s) ss → whole_product (factors count ws ss) ≡ count ^ length ws * (product ws * product ss)
factors_product count [] [] each some all = (let z : count ^ 0 ≡ 1 = pow-zero count in rw z (omega arith))
factors_product count [] (s ∷ ss) each some all = absurd (omega arith)
factors_product count (w ∷ ws) [] each some all = absurd (omega arith)
factors_product count (w ∷ ws) (s ∷ ss) each some all =
    let first : 1 ≤ w = All-head (λ w. 1 ≤ w) w ws some in
    let second : 1 ≤ s = All-head (λ s. 1 ≤ s) s ss all in
    joined count w s (max w 1) (max s 1) (whole_product (factors count ws ss)) (count ^ length ws) (count ^ suc (length ws)) (product ws) (product ss) (omega arith) (omega arith) (pow-suc count (length ws))
    (factors_product count ws ss (omega arith) (All-tail (λ w. 1 ≤ w) w ws some) (All-tail (λ s. 1 ≤ s) s ss all))
  where
    joined : (count w s w' s' f c c' p q : ℕ) → w' ≡ w → s' ≡ s → c' ≡ c * count → f ≡ c * (p * q) → count * w * s * f ≡ c' * (w' * p * (s' * q))
    joined count w s w' s' f c c' p q i j k l = rw (i, j, k, l) (omega arith)

-- there are as many factors
factors_length : (count : ℕ) (ws ss : List ℕ) → length ss ≡ length ws → length (factors count ws ss) ≡ length ws
factors_length count [] ss each = refl
factors_length count (w ∷ ws) [] each = absurd (omega arith)
factors_length count (w ∷ ws) (s ∷ ss) each = ap suc (factors_length count ws ss (omega arith))

-- what stays below a number stays below a greater one
pub up_to : (equal : Bool) (a b c : ℕ) → StaysBelow equal a b → b ≤ c → StaysBelow equal a c
up_to true a b c h le = (let k : a ≤ b = h in omega arith)
up_to false a b c h le = (let k : a < b = h in omega arith)

-- 1 times itself
pub ones : (n : ℕ) → 1 ^ n ≡ 1
ones zero = pow-zero 1
ones (suc n) = (let rest = ones n in let e = pow-suc 1 n in omega arith)

-- a product of positive numbers is positive
times : (a b : ℕ) → 1 ≤ a → 1 ≤ b → 1 ≤ a * b
times zero b h k = absurd (omega arith)
times (suc a) b h k = omega arith

-- a test that passes shows it whichever players are chosen
shown_choice : (case : GoodsCase) (owners weights shares : List ℕ) (equal : Bool) (count : ℕ) (divisors : List ℕ) → AreWeights case weights → All (λ share. 1 ≤ share) shares → length divisors ≡ length shares
    → 1 ≤ count ^ length shares → is_shown case owners weights shares equal count divisors ≡ true → (test : ℕ → Bool) → IsChoice case owners (length shares) test
    → StaysBelow equal (whole_product divisors) (count ^ length shares * (product (map (weight weights) (chosen case test)) * product shares))
shown_choice case owners weights shares equal count divisors are some each power h test choice =
    let t : ℕ = threshold_of case owners weights (length shares) in
    let light : List ℕ = light_weights case owners weights t in
    let least : List ℕ = weights_from light (length shares) t in
    let tests = passed (nat_le (length light) (length shares)) (is_shown_above equal (factors count least shares) divisors) h in
    let few : length light ≤ length shares = at_most (length light) (length shares) tests.0 in
    let positive : 1 ≤ t = fold_some case owners weights (length shares) 1 weights (omega arith) are.some in
    let all : All (λ w. 1 ≤ w) least = All-append (λ w. 1 ≤ w) light (replicate (length shares - length light) t) (light_some case owners weights t are) (All-replicate (λ w. 1 ≤ w) (length shares - length light) t positive) in
    let long : length least ≡ length shares = (
    let a : length least ≡ length light + length (replicate (length shares - length light) t) = length-append light (replicate (length shares - length light) t) in
    let b : length (replicate (length shares - length light) t) ≡ length shares - length light = length-replicate (length shares - length light) t in
    omega arith) in
    let parts : product least ≡ product light * t ^ (length shares - length light) =
    product_append light (replicate (length shares - length light) t) ∙ ap (λ n. product light * n) (product_replicate (length shares - length light) t positive) in
    let many : length light ≡ length (chosen case (is_light case owners weights t)) = length-map (chosen case (is_light case owners weights t)) (weight weights) in
    let within : product light * t ^ (length shares - length (chosen case (is_light case owners weights t))) ≤ product (map (weight weights) (chosen case test)) =
    lightest case owners weights (length shares) t test are positive (omega arith) choice in
    let low : product least ≤ product (map (weight weights) (chosen case test)) = subst (λ n. n ≤ product (map (weight weights) (chosen case test))) (sym parts)
    (subst (λ n. product light * t ^ (length shares - n) ≤ product (map (weight weights) (chosen case test))) (sym many) within) in
    let multiply : whole_product (factors count least shares) ≡ count ^ length shares * (product least * product shares) =
    factors_product count least shares (sym long) all some ∙ ap (λ n. count ^ n * (product least * product shares)) long in
    let filled : 1 ≤ whole_product (factors count least shares) = subst (λ n. 1 ≤ n) (sym multiply) (times (count ^ length shares) (product least * product shares) power (times (product least) (product shares) (product_some least) (product_some shares))) in
    let shown : StaysBelow equal (whole_product divisors) (whole_product (factors count least shares)) =
    shown_above equal (factors count least shares) divisors (each ∙ sym long ∙ sym (factors_length count least shares (sym long))) filled tests.1 in
    up_to equal (whole_product divisors) (count ^ length shares * (product least * product shares)) (count ^ length shares * (product (map (weight weights) (chosen case test)) * product shares))
    (subst (λ n. StaysBelow equal (whole_product divisors) n) multiply shown)
    (raised (count ^ length shares) (product least) (product (map (weight weights) (chosen case test))) (product shares) low)
  where
    raised : (c a b s : ℕ) → a ≤ b → c * (a * s) ≤ c * (b * s)
    raised c a b s le = (let one : c * s * a ≤ c * s * b = mul-le-mul_left (c * s) le in omega arith)

-- the pair of an answer's shares
share_goal : List ℕ → Pair
share_goal shares = record { count = length shares; product = product shares }

-- the weighted top shows it
sum_shown : (case : GoodsCase) (owners weights shares rest : List ℕ) (equal : Bool) → AreWeights case weights → All (λ share. 1 ≤ share) shares → IsCountLimit case (length shares)
    → sum_closes case owners weights shares equal ≡ true → IsAllocation case (owners ++ rest) → (goal : Pair) → goal.count ≡ length shares → goal.product ≡ product shares
    → PairStaysBelow equal (pair_of case (owners ++ rest)) goal
sum_shown case owners weights shares rest equal are some limit h is goal count_is product_is =
    closed case owners weights rest equal goal are (subst (IsCountLimit case) (sym count_is) limit)
    (λ test choice.
    let n = length shares in
    let top = weighted_top case weights owners in
    let k = product (map (weight weights) (chosen case test)) in
    let shown : StaysBelow equal (whole_product (replicate n top)) (n ^ n * (k * product shares)) =
    shown_choice case owners weights shares equal n (replicate n top) are some (length-replicate n top) (self_power_pos n) h test (subst (λ c. IsChoice case owners c test) count_is choice) in
    at_equal equal (whole_product (replicate n top)) (n ^ n * (k * product shares)) (top ^ goal.count) (goal.count ^ goal.count * (k * goal.product))
    (whole_replicate n top ∙ ap (λ c. top ^ c) (sym count_is)) (ap (λ c. c ^ c * (k * product shares)) (sym count_is) ∙ ap (λ p. goal.count ^ goal.count * (k * p)) (sym product_is)) shown)
    is

-- there are as many divisors as shares
pub divisors_length : (case : GoodsCase) (owners weights shares : List ℕ) → most_holders case owners ≡ length shares → length (shares_of (utilities case owners) ++ first_goods case owners weights) ≡ length shares
divisors_length case owners weights shares just =
    let taken : List ℕ = shares_of (utilities case owners) in
    let offered : List ℕ = first_goods case owners weights in
    let a : length (taken ++ offered) ≡ length taken + length offered = length-append taken offered in
    let b : length taken ≡ positives (utilities case owners) = shares_count (utilities case owners) in
    let d : length offered ≡ length (free_goods case owners) = length-map (free_goods case owners) (most_weighted case (weights_with case owners weights 0)) in
    omega arith

-- the free goods show it
one_each_shown : (case : GoodsCase) (owners weights shares rest : List ℕ) (equal : Bool) → AreWeights case weights → All (λ share. 1 ≤ share) shares → most_holders case owners ≡ length shares
    → one_each_closes case owners weights shares equal ≡ true → IsAllocation case (owners ++ rest) → (goal : Pair) → goal.count ≡ length shares → goal.product ≡ product shares
    → PairStaysBelow equal (pair_of case (owners ++ rest)) goal
one_each_shown case owners weights shares rest equal are some just h is goal count_is product_is =
    let taken : List ℕ = shares_of (utilities case owners) in
    let offered : List ℕ = first_goods case owners weights in
    let long : length (taken ++ offered) ≡ length shares = divisors_length case owners weights shares just in
    let whole : whole_product (taken ++ offered) ≡ product (utilities case owners) * whole_product offered =
    whole_append taken offered ∙ ap (λ n. n * whole_product offered) (whole_positive taken (shares_some (utilities case owners)) ∙ shares_product (utilities case owners)) in
    one_each case owners weights rest equal goal are (just ∙ sym count_is)
    (λ test choice.
    let n = length shares in
    let k = product (map (weight (weights_with case owners weights 1)) (chosen case test)) in
    let shown : StaysBelow equal (whole_product (taken ++ offered)) (1 ^ n * (k * product shares)) =
    shown_choice case owners (weights_with case owners weights 1) shares equal 1 (taken ++ offered) (are_with case owners weights are) some long (one-le-pow n 1 (omega arith)) h test
    (subst (λ c. IsChoice case owners c test) count_is choice) in
    at_equal equal (whole_product (taken ++ offered)) (1 ^ n * (k * product shares)) (product (utilities case owners) * whole_product offered) (k * goal.product) whole
    (ap (λ c. c * (k * product shares)) (ones n) ∙ ap (λ p. 1 * (k * p)) (sym product_is) ∙ (let e : 1 * (k * goal.product) ≡ k * goal.product = omega arith in e)) shown)
    is

-- so if the weights close the owners, each allocation that begins with these stays below the answer
pub shown_below : (case : GoodsCase) (answer owners weights rest : List ℕ) (equal : Bool) → AreWeights case weights → IsCountLimit case (positives (utilities case answer))
    → weights_close case owners weights (shares_of (utilities case answer)) equal ≡ true → IsAllocation case (owners ++ rest) → PairStaysBelow equal (pair_of case (owners ++ rest)) (pair_of case answer)
unfolding weights_close
shown_below case answer owners weights rest equal are limit h is =
    let us : List ℕ = utilities case answer in
    let shares : List ℕ = shares_of us in
    let count_is : positives us ≡ length shares = sym (shares_count us) in
    let product_is : product us ≡ product shares = sym (shares_product us) in
    ⊎_elim
    (λ (either : (nat_lt (most_holders case owners) (length shares) || sum_closes case owners weights shares equal) ≡ true). ⊎_elim
    (λ (few : nat_lt (most_holders case owners) (length shares) ≡ true).
    let l = below (most_holders case owners) (length shares) few in
    let within = positives_within case owners rest is in
    fewer equal (pair_of case (owners ++ rest)) (pair_of case answer) (omega arith))
    (λ (sums : sum_closes case owners weights shares equal ≡ true).
    sum_shown case owners weights shares rest equal are (shares_some us) (subst (IsCountLimit case) count_is limit) sums is (pair_of case answer) count_is product_is)
    (one_passed (nat_lt (most_holders case owners) (length shares)) (sum_closes case owners weights shares equal) either))
    (λ (each : (eqb (most_holders case owners) (length shares) && one_each_closes case owners weights shares equal) ≡ true).
    let tests = passed (eqb (most_holders case owners) (length shares)) (one_each_closes case owners weights shares equal) each in
    one_each_shown case owners weights shares rest equal are (shares_some us) (equal_numbers (most_holders case owners) (length shares) tests.0) tests.1 is (pair_of case answer) count_is product_is)
    (one_passed (nat_lt (most_holders case owners) (length shares) || sum_closes case owners weights shares equal) (eqb (most_holders case owners) (length shares) && one_each_closes case owners weights shares equal) h)

-- too few may have something
pub close_few : (case : GoodsCase) (owners weights shares : List ℕ) (equal : Bool) → most_holders case owners < length shares → true ≡ weights_close case owners weights shares equal
unfolding weights_close
close_few case owners weights shares equal few =
    sym (ap (λ (b : Bool). b || sum_closes case owners weights shares equal || (eqb (most_holders case owners) (length shares) && one_each_closes case owners weights shares equal)) (passes (most_holders case owners) (length shares) few))
  where
    passes : (a b : ℕ) → a < b → nat_lt a b ≡ true
    passes a b h = grind (arith, nat_tests)

-- where enough may, the other tests decide
enough_may : (a b : ℕ) → b ≤ a → nat_lt a b ≡ false
enough_may a b h = grind (arith, nat_tests)

-- the weighted top shows it
pub close_sums : (case : GoodsCase) (owners weights shares : List ℕ) (equal : Bool) → length shares ≤ most_holders case owners → sum_closes case owners weights shares equal ≡ true
    → true ≡ weights_close case owners weights shares equal
unfolding weights_close
close_sums case owners weights shares equal enough sums =
    sym (ap (λ (b : Bool). b || sum_closes case owners weights shares equal || (eqb (most_holders case owners) (length shares) && one_each_closes case owners weights shares equal)) (enough_may (most_holders case owners) (length shares) enough)
    ∙ ap (λ (b : Bool). false || b || (eqb (most_holders case owners) (length shares) && one_each_closes case owners weights shares equal)) sums)

-- where it does not, and more than the shares may have something, nothing does
pub close_none : (case : GoodsCase) (owners weights shares : List ℕ) (equal : Bool) → length shares ≤ most_holders case owners → sum_closes case owners weights shares equal ≡ false
    → (most_holders case owners ≡ length shares → ⊥) → false ≡ weights_close case owners weights shares equal
unfolding weights_close
close_none case owners weights shares equal enough sums other =
    sym (ap (λ (b : Bool). b || sum_closes case owners weights shares equal || (eqb (most_holders case owners) (length shares) && one_each_closes case owners weights shares equal)) (enough_may (most_holders case owners) (length shares) enough)
    ∙ ap (λ (b : Bool). false || b || (eqb (most_holders case owners) (length shares) && one_each_closes case owners weights shares equal)) sums
    ∙ ap (λ (b : Bool). false || false || (b && one_each_closes case owners weights shares equal)) (differ (most_holders case owners) (length shares) other))
  where
    differ : (a b : ℕ) → (a ≡ b → ⊥) → eqb a b ≡ false
    differ a b h = elim (eqb_tells a b) [
      | inl same ↦ absurd (h same.1)
      | inr other ↦ other.0
    ]

-- and where just enough may, the free goods decide
pub close_each : (case : GoodsCase) (owners weights shares : List ℕ) (equal : Bool) → length shares ≤ most_holders case owners → sum_closes case owners weights shares equal ≡ false
    → most_holders case owners ≡ length shares → one_each_closes case owners weights shares equal ≡ weights_close case owners weights shares equal
unfolding weights_close
close_each case owners weights shares equal enough sums just =
    sym (ap (λ (b : Bool). b || sum_closes case owners weights shares equal || (eqb (most_holders case owners) (length shares) && one_each_closes case owners weights shares equal)) (enough_may (most_holders case owners) (length shares) enough)
    ∙ ap (λ (b : Bool). false || b || (eqb (most_holders case owners) (length shares) && one_each_closes case owners weights shares equal)) sums
    ∙ ap (λ (b : Bool). false || false || (b && one_each_closes case owners weights shares equal)) (same (most_holders case owners) (length shares) just))
  where
    same : (a b : ℕ) → a ≡ b → eqb a b ≡ true
    same a b h = grind (arith, nat_tests)
