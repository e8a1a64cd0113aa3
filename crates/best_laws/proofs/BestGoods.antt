-- A case of goods has one best allocation, and no allocation dominates it.
use Rattle.std.proofs.Common.{◌≡◌, ℕ, suc, zero, ◌+◌, ◌*◌, ◌<◌, ◌≤◌, List, [], ◌∷◌, map, min, max, arith, refl, sym, ap, ◌∙◌, subst, ◌⊎◌, inl, inr, ⊎_elim}
use Rattle.std.specs.List.{range_with_len, AllZip}
use Rattle.std.specs.Cmp.Lexicographic.{slice_cmp}
use Rattle.std.specs.Ordering.{nat_cmp}
use Rattle.std.specs.declared.cmp.Ordering.TheVariants.{Less}
use Rattle.std.proofs.Math.Nat.{mul-le-mul, mul-le-mul_left, mul-pos}
use Rattle.std.proofs.lemmas.Bool.{cases_lt}
use Rattle.bid_rules.specs.declared.goods.GoodsCase.{GoodsCase}
use Rattle.bid_rules.specs.declared.pair.Pair.{Pair}
use Rattle.bid_rules.specs.Goods.{Dominates, GoodsBest, IsAllocation, order_of, pair_of, player_count, utilities, utility}
use Rattle.bid_rules.specs.Pairs.{IsAtMost, IsLess, nash_welfare, positives, product}
use Rattle.best_laws.specs.MaximumWelfare.{HasMaximumWelfare}
use Rattle.split_lemmas.proofs.PairOrder.{at_most_itself, less_at_most, less_not as less_not_at_most}
use Rattle.split_lemmas.proofs.ListOrder.{same_from_neither}

-- a smaller pair is not greater, and not the same
less_not : (a b : Pair) → IsLess a b → (IsLess b a ⊎ (b ≡ a)) → ⊥
less_not a b less other = ⊎_elim
    (λ (more : IsLess b a). let h : ⊥ = grind arith in h)
    (λ (same : b ≡ a). let c = ap (λ (p : Pair). p.count) same in let d = ap (λ (p : Pair). p.product) same in let h : ⊥ = grind arith in h)
    other

-- two best allocations are the same list
pub one_allocation : (case : GoodsCase) (owners others : List ℕ) → GoodsBest case owners → GoodsBest case others → others ≡ owners
one_allocation case owners others best other = ⊎_elim
    (λ (less : IsLess (nash_welfare (utilities case others)) (nash_welfare (utilities case owners))).
    absurd (less_not (nash_welfare (utilities case others)) (nash_welfare (utilities case owners)) less (back (other.best owners best.allocation))))
    (λ (same : (nash_welfare (utilities case others) ≡ nash_welfare (utilities case owners)) × (slice_cmp nat_cmp others owners ≡ Less → ⊥)). ⊎_elim
    (λ (less : IsLess (nash_welfare (utilities case owners)) (nash_welfare (utilities case others))).
    absurd (less_not (nash_welfare (utilities case owners)) (nash_welfare (utilities case others)) less (inr same.0)))
    (λ (again : (nash_welfare (utilities case owners) ≡ nash_welfare (utilities case others)) × (slice_cmp nat_cmp owners others ≡ Less → ⊥)).
    same_from_neither others owners same.1 again.1)
    (other.best owners best.allocation))
    (best.best others other.allocation)
  where
    back : {A B C : Type 0} → A ⊎ (B × C) → A ⊎ B
    back (inl a) = inl a
    back (inr b) = inr b.0

-- the product of the positive utilities is positive
product_pos : (us : List ℕ) → 1 ≤ product us
product_pos [] = omega arith
product_pos (u ∷ us) = mul-pos (let h : 0 < max u 1 = omega arith in h) (product_pos us)

-- of two numbers that make no product and no count smaller, and both the same, neither is greater
same_head : (u v p q : ℕ) → u ≤ v → min u 1 ≡ min v 1 → 1 ≤ p → p ≤ q → max u 1 * p ≡ max v 1 * q → (u ≡ v) × (p ≡ q)
same_head u v p q le count some rest same =
    let one : max v 1 * p ≤ max v 1 * q = mul-le-mul_left (max v 1) rest in
    ⊎_elim
    (λ (less : u < v).
    let two : (max u 1 + 1) * p ≤ max v 1 * p = mul-le-mul (let h : max u 1 + 1 ≤ max v 1 = omega arith in h) (let r : p ≤ p = omega arith in r) in
    let three : (max u 1 + 1) * p ≡ max u 1 * p + p = omega arith in
    absurd (omega arith))
    (λ (not : v ≤ u).
    let is : u ≡ v = omega arith in (
      is,
      ⊎_elim
          (λ (less : p < q).
          let two : max v 1 * (p + 1) ≤ max v 1 * q = mul-le-mul_left (max v 1) (let h : p + 1 ≤ q = omega arith in h) in
          let three : max v 1 * (p + 1) ≡ max v 1 * p + max v 1 = omega arith in
          let four : max u 1 * p ≡ max v 1 * p = ap (λ x. max x 1 * p) is in
          absurd (omega arith))
          (λ (not : q ≤ p). omega arith)
          (cases_lt p q),
    ))
    (cases_lt u v)

-- where no utility falls, neither the count nor the product falls
rises : (us vs : List ℕ) → AllZip ◌≤◌ us vs → (positives us ≤ positives vs) × (product us ≤ product vs)
rises [] [] h = (omega arith, omega arith)
rises [] (v ∷ vs) h = absurd h
rises (u ∷ us) [] h = absurd h
rises (u ∷ us) (v ∷ vs) h =
    let rest = rises us vs h.1 in
    let le = h.0 in
    (omega (arith, rest.0), mul-le-mul (let m : max u 1 ≤ max v 1 = omega arith in m) rest.1)

-- and where both stay the same, so do the utilities
stays : (us vs : List ℕ) → AllZip ◌≤◌ us vs → positives us ≡ positives vs → product us ≡ product vs → us ≡ vs
stays [] [] h count same = refl
stays [] (v ∷ vs) h count same = absurd h
stays (u ∷ us) [] h count same = absurd h
stays (u ∷ us) (v ∷ vs) h count same =
    let rest = rises us vs h.1 in
    let le = h.0 in
    let head = same_head u v (product us) (product vs) le (omega (arith, rest.0)) (product_pos us) rest.1 same in
    let tail = stays us vs h.1 (omega (arith, rest.0)) head.1 in
    let is = head.0 in
    cc

-- two functions over a range, the second nowhere below the first
range_rises : (f g : ℕ → ℕ) (a n : ℕ) → ((i : ℕ) → a ≤ i → i < a + n → f i ≤ g i) → AllZip ◌≤◌ (map f (range_with_len a n)) (map g (range_with_len a n))
range_rises f g a zero h = tt
range_rises f g a (suc n) h = (h a (omega arith) (omega arith), range_rises f g (a + 1) n (λ i l m. h i (omega arith) (omega arith)))

-- lists of their values that are the same have the same number at each place
range_same : (f g : ℕ → ℕ) (a n : ℕ) → map f (range_with_len a n) ≡ map g (range_with_len a n) → (i : ℕ) → a ≤ i → i < a + n → f i ≡ g i
range_same f g a zero e i l m = absurd (omega arith)
range_same f g a (suc n) e i l m =
    let head : f a ≡ g a = cc in
    let tail : map f (range_with_len (a + 1) n) ≡ map g (range_with_len (a + 1) n) = cc in
    ⊎_elim
    (λ (later : a < i). range_same f g (a + 1) n tail i (omega arith) (omega arith))
    (λ (here : i ≤ a). let is : i ≡ a = omega arith in ap f is ∙ head ∙ ap g (sym is))
    (cases_lt a i)

-- an allocation that dominates another has the greater pair
pub dominating : (case : GoodsCase) (owners others : List ℕ) → Dominates case others owners → IsLess (pair_of case owners) (pair_of case others)
dominating case owners others dominates =
    let f = λ (player : ℕ). utility case player (order_of case) owners in
    let g = λ (player : ℕ). utility case player (order_of case) others in
    let n = player_count case in
    let zip : AllZip ◌≤◌ (utilities case owners) (utilities case others) = range_rises f g 1 n (λ i l m. dominates.each i l (omega arith)) in
    let more = rises (utilities case owners) (utilities case others) zip in
    let one = dominates.more in
    ⊎_elim
    (λ (less : positives (utilities case owners) < positives (utilities case others)). inl less)
    (λ (as_many : positives (utilities case others) ≤ positives (utilities case owners)). ⊎_elim
    (λ (less : product (utilities case owners) < product (utilities case others)). inr (omega (arith, as_many, more.0), less))
    (λ (no_less : product (utilities case others) ≤ product (utilities case owners)).
    let lists = stays (utilities case owners) (utilities case others) zip (omega (arith, as_many, more.0)) (omega (arith, no_less, more.1)) in
    let is = range_same f g 1 n lists one.0 one.1 (omega (arith, one.2)) in
    let over = one.3 in
    absurd (omega (arith, is, over)))
    (cases_lt (product (utilities case owners)) (product (utilities case others))))
    (cases_lt (positives (utilities case owners)) (positives (utilities case others)))

-- the best allocation is one of maximum welfare
pub maximum : (case : GoodsCase) (owners : List ℕ) → GoodsBest case owners → HasMaximumWelfare case owners
maximum case owners best = record {
  allocation = best.allocation;
  greatest = λ others h. ⊎_elim
      (λ (less : IsLess (pair_of case others) (pair_of case owners)). less_at_most (pair_of case others) (pair_of case owners) less)
      (λ (same : (pair_of case others ≡ pair_of case owners) × (slice_cmp nat_cmp others owners ≡ Less → ⊥)).
      subst (λ (p : Pair). IsAtMost p (pair_of case owners)) (sym same.0) (at_most_itself (pair_of case owners)))
      (best.best others h);
}

-- no allocation dominates one of maximum welfare
pub undominated : (case : GoodsCase) (owners others : List ℕ) → HasMaximumWelfare case owners → IsAllocation case others → Dominates case others owners → ⊥
undominated case owners others most allocation dominates =
    less_not_at_most (pair_of case owners) (pair_of case others) (dominating case owners others dominates) (most.greatest others allocation)
