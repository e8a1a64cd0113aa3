-- If the weights close the owners, each allocation that begins with these has a smaller pair than the goal, or one no greater.
use Rattle.std.proofs.Common.{◌≡◌, ℕ, suc, zero, ◌+◌, ◌*◌, ◌^◌, ◌-◌, ◌<◌, ◌≤◌, max, min, List, [], ◌∷◌, ◌++◌, length, map, sum, All, arith, refl, sym, ap, ◌∙◌, subst, Bool, true, false, cond, nat_lt, inl, inr}
use Rattle.std.specs.List.{filter, range_with_len}
use Rattle.std.proofs.Math.Nat.{pow-le-pow_left, lt_of_mul-lt-mul_left, le_of_mul-le-mul_left}
use Rattle.std.proofs.lemmas.Bool.{cases_lt}
use Rattle.std.proofs.lemmas.Bool.Decides.{nat_tests}
use Rattle.std.proofs.lemmas.List.Sums.{sum-map}
use Rattle.std.proofs.lemmas.List.Elements.{All-head, All-tail}
use Rattle.bid_rules.specs.declared.goods.GoodsCase.{GoodsCase}
use Rattle.bid_rules.specs.declared.pair.Pair.{Pair}
use Rattle.bid_rules.specs.Goods.{IsAllocation, pair_of, player_count, order_of, utility, utilities}
use Rattle.bid_rules.specs.Pairs.{positives, product}
use Rattle.estate_bounds.specs.Counts.{IsCountLimit}
use Rattle.estate_bounds.specs.Weighted.{AreWeights, IsChoice, PairStaysBelow, StaysBelow, WeightedBoundCloses, chosen, weight, weighted_sum, weighted_top}
use Rattle.estate_bounds.proofs.Means.{mean, self_power_pos}
use Rattle.estate_bounds.proofs.NextOwners.{each_player, still_has}
use Rattle.estate_bounds.proofs.WeightedSums.{weighted_within}

-- a weight keeps a number positive
min_one : (w n : ℕ) → 1 ≤ w → min (w * n) 1 ≡ min n 1
min_one w zero h = omega arith
min_one w (suc n) h = omega arith

-- the weights don't change which numbers are positive
weighted_positives : (w u : ℕ → ℕ) (ps : List ℕ) → All (λ p. 1 ≤ w p) ps → positives (map (λ p. w p * u p) ps) ≡ positives (map u ps)
weighted_positives w u [] h = refl
weighted_positives w u (p ∷ ps) h =
    let one : min (w p * u p) 1 ≡ min (u p) 1 = min_one (w p) (u p) (All-head (λ p. 1 ≤ w p) p ps h) in
    let rest = weighted_positives w u ps (All-tail (λ p. 1 ≤ w p) p ps h) in
    omega arith

-- a number that is 0 fails the test
pub not_some : nat_lt 0 0 ≡ false
not_some = grind (arith, nat_tests)

-- and others pass it
pub is_some : (n : ℕ) → nat_lt 0 (suc n) ≡ true
is_some n = grind (arith, nat_tests)

-- one more factor
one_factor : (w : ℕ → ℕ) (p n a b : ℕ) (qs : List ℕ) → 1 ≤ w p → a ≡ product (map w qs) * b → max (w p * n) 1 * a ≡ product (map w (cond (nat_lt 0 n) (p ∷ qs) qs)) * (max n 1 * b)
one_factor w p zero a b qs h is =
    let e : max (w p * 0) 1 ≡ 1 = omega arith in
    subst (λ t. max (w p * 0) 1 * a ≡ product (map w (cond t (p ∷ qs) qs)) * (max 0 1 * b)) (sym not_some) (rw e (omega arith))
one_factor w p (suc n) a b qs h is =
    let e : max (w p * suc n) 1 ≡ w p * suc n = omega arith in
    let f : max (suc n) 1 ≡ suc n = omega arith in
    let g : max (w p) 1 ≡ w p = omega arith in
    subst (λ t. max (w p * suc n) 1 * a ≡ product (map w (cond t (p ∷ qs) qs)) * (max (suc n) 1 * b)) (sym (is_some n))
    (joined (w p) (suc n) a b (product (map w qs)) (max (w p * suc n) 1) (max (suc n) 1) (max (w p) 1) e f g is)
  where
    joined : (w n a b q x y z : ℕ) → x ≡ w * n → y ≡ n → z ≡ w → a ≡ q * b → x * a ≡ z * q * (y * b)
    joined w n a b q x y z e f g is = rw (e, f, g, is) (omega arith)

-- the product of the weighted numbers is that of the weights of the positive ones times that of the numbers
pub weighted_product : (w u : ℕ → ℕ) (ps : List ℕ) → All (λ p. 1 ≤ w p) ps
    → product (map (λ p. w p * u p) ps) ≡ product (map w (filter (λ p. nat_lt 0 (u p)) ps)) * product (map u ps)
weighted_product w u [] h = refl
weighted_product w u (p ∷ ps) h =
    one_factor w p (u p) (product (map (λ p. w p * u p) ps)) (product (map u ps)) (filter (λ p. nat_lt 0 (u p)) ps) (All-head (λ p. 1 ≤ w p) p ps h)
    (weighted_product w u ps (All-tail (λ p. 1 ≤ w p) p ps h))

-- one more that may pass
one_passes : (n p : ℕ) (qs : List ℕ) → length (cond (nat_lt 0 n) (p ∷ qs) qs) ≡ min n 1 + length qs
one_passes zero p qs = subst (λ t. length (cond t (p ∷ qs) qs) ≡ min 0 1 + length qs) (sym not_some) (omega arith)
one_passes (suc n) p qs = subst (λ t. length (cond t (p ∷ qs) qs) ≡ min (suc n) 1 + length qs) (sym (is_some n)) (omega arith)

-- as many pass the test as are positive
positives_pass : (u : ℕ → ℕ) (ps : List ℕ) → length (filter (λ p. nat_lt 0 (u p)) ps) ≡ positives (map u ps)
positives_pass u [] = refl
positives_pass u (p ∷ ps) = one_passes (u p) p (filter (λ p. nat_lt 0 (u p)) ps) ∙ ap (λ n. min (u p) 1 + n) (positives_pass u ps)

-- each player's weight is positive
pub weights_some : (case : GoodsCase) (weights : List ℕ) → AreWeights case weights → All (λ p. 1 ≤ weight weights p) (range_with_len 1 (player_count case))
weights_some case weights are =
    let each = are.each in
    each_player (λ p. 1 ≤ weight weights p) case (λ p l h. are.some (p - 1) 0 (omega arith))

-- a product is positive
pub product_some : (us : List ℕ) → 1 ≤ product us
product_some [] = omega arith
product_some (u ∷ us) =
    let rest = product_some us in
    some (max u 1) (product us) (omega arith) rest
  where
    some : (a b : ℕ) → 1 ≤ a → 1 ≤ b → 1 ≤ a * b
    some zero b h k = absurd (omega arith)
    some (suc a) b h k = omega arith

-- a common factor is left out
pub cancelled : (equal : Bool) (k a b : ℕ) → 1 ≤ k → StaysBelow equal (k * a) (k * b) → StaysBelow equal a b
cancelled true k a b some h = le_of_mul-le-mul_left h some
cancelled false k a b some h = lt_of_mul-lt-mul_left k h

-- what is at most what stays below stays below
pub through : (equal : Bool) (a b c : ℕ) → a ≤ b → StaysBelow equal b c → StaysBelow equal a c
through true a b c le h = (let k : b ≤ c = h in omega arith)
through false a b c le h = (let k : b < c = h in omega arith)

-- the same for equal numbers
pub at_equal : (equal : Bool) (a b c d : ℕ) → a ≡ c → b ≡ d → StaysBelow equal a b → StaysBelow equal c d
at_equal equal a b c d e f h = subst (λ n. StaysBelow equal c n) f (subst (λ n. StaysBelow equal n b) e h)

-- a mean below the goal's has a product below the goal's
below_goal : (equal : Bool) (c w u p s t : ℕ) → 1 ≤ w → c ^ c * (w * u) ≤ s ^ c → s ≤ t → StaysBelow equal (t ^ c) (c ^ c * (w * p)) → StaysBelow equal u p
below_goal equal c w u p s t some mean le above =
    let a : s ^ c ≤ t ^ c = pow-le-pow_left le c in
    let k : c ^ c * (w * u) ≤ t ^ c = omega arith in
    let l : c ^ c * (w * p) ≡ c ^ c * w * p = omega arith in
    let m : c ^ c * (w * u) ≡ c ^ c * w * u = omega arith in
    cancelled equal (c ^ c * w) u p (positive (c ^ c) w (self_power_pos c) some) (at_equal equal (c ^ c * (w * u)) (c ^ c * (w * p)) (c ^ c * w * u) (c ^ c * w * p) m l (through equal (c ^ c * (w * u)) (t ^ c) (c ^ c * (w * p)) k above))
  where
    positive : (a b : ℕ) → 1 ≤ a → 1 ≤ b → 1 ≤ a * b
    positive zero b h k = absurd (omega arith)
    positive (suc a) b h k = omega arith

-- the players who have something are a choice
pub choice : (case : GoodsCase) (owners rest : List ℕ) (count : ℕ) → IsAllocation case (owners ++ rest) → positives (utilities case (owners ++ rest)) ≡ count
    → IsChoice case owners count (λ p. nat_lt 0 (utility case p (order_of case) (owners ++ rest)))
choice case owners rest count is e = record {
  many = positives_pass (λ p. utility case p (order_of case) (owners ++ rest)) (range_with_len 1 (player_count case)) ∙ e;
  holders = λ p l h some. (let more = still_has case p owners rest is in passes (utility case p (order_of case) (owners ++ rest)) (omega arith));
}
  where
    passes : (n : ℕ) → 0 < n → nat_lt 0 n ≡ true
    passes n h = grind (arith, nat_tests)

-- a pair with fewer who have points stays below
pub fewer : (equal : Bool) (a b : Pair) → a.count < b.count → PairStaysBelow equal a b
fewer true a b l = inl l
fewer false a b l = inl l

-- so does one with as many, and a product that stays below
pub level : (equal : Bool) (a b : Pair) → a.count ≡ b.count → StaysBelow equal a.product b.product → PairStaysBelow equal a b
level true a b e h = inr (e, h)
level false a b e h = inr (e, h)

-- the law
pub closed : (case : GoodsCase) (owners weights rest : List ℕ) (equal : Bool) (goal : Pair) → AreWeights case weights → IsCountLimit case goal.count → WeightedBoundCloses case owners weights equal goal
    → IsAllocation case (owners ++ rest) → PairStaysBelow equal (pair_of case (owners ++ rest)) goal
closed case owners weights rest equal goal are limit closes is =
    let xs = owners ++ rest in
    let most = limit xs is in
    elim (cases_lt (positives (utilities case xs)) goal.count) [
      | inl l ↦ fewer equal (pair_of case xs) goal l
      | inr l ↦ (
          let e : positives (utilities case xs) ≡ goal.count = omega arith in
          level equal (pair_of case xs) goal e (same case owners weights rest equal goal are is e (closes (λ p. nat_lt 0 (utility case p (order_of case) xs)) (choice case owners rest goal.count is e))))
    ]
  where
    same : (case : GoodsCase) (owners weights rest : List ℕ) (equal : Bool) (goal : Pair) → AreWeights case weights → IsAllocation case (owners ++ rest)
        → positives (utilities case (owners ++ rest)) ≡ goal.count
        → StaysBelow equal (weighted_top case weights owners ^ goal.count)
        (goal.count ^ goal.count * (product (map (weight weights) (chosen case (λ p. nat_lt 0 (utility case p (order_of case) (owners ++ rest))))) * goal.product))
        → StaysBelow equal (product (utilities case (owners ++ rest))) goal.product
    same case owners weights rest equal goal are is e above =
        let xs = owners ++ rest in
        let w : ℕ → ℕ = λ p. weight weights p in
        let u : ℕ → ℕ = λ p. utility case p (order_of case) xs in
        let ps : List ℕ = range_with_len 1 (player_count case) in
        let ys : List ℕ = map (λ p. w p * u p) ps in
        let some = weights_some case weights are in
        let count : positives ys ≡ goal.count = weighted_positives w u ps some ∙ e in
        let factors : product ys ≡ product (map w (filter (λ p. nat_lt 0 (u p)) ps)) * product (map u ps) = weighted_product w u ps some in
        let total : sum ys ≡ weighted_sum case weights xs = sum-map (λ p. w p * u p) ps in
        let one : goal.count ^ goal.count * product ys ≤ sum ys ^ goal.count = subst (λ c. c ^ c * product ys ≤ sum ys ^ c) count (mean ys) in
        let two : goal.count ^ goal.count * (product (map w (filter (λ p. nat_lt 0 (u p)) ps)) * product (map u ps)) ≤ weighted_sum case weights xs ^ goal.count =
        subst (λ s. goal.count ^ goal.count * (product (map w (filter (λ p. nat_lt 0 (u p)) ps)) * product (map u ps)) ≤ s ^ goal.count) total
        (subst (λ k. goal.count ^ goal.count * k ≤ sum ys ^ goal.count) factors one) in
        below_goal equal goal.count (product (map w (filter (λ p. nat_lt 0 (u p)) ps))) (product (map u ps)) goal.product (weighted_sum case weights xs) (weighted_top case weights owners)
        (product_some (map w (filter (λ p. nat_lt 0 (u p)) ps))) two (weighted_within case weights owners rest is) above
