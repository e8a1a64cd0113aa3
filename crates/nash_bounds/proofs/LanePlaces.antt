-- Vectors lane by lane, and masks bit by bit.
use Rattle.std.proofs.Common.{◌≡◌, ℕ, ◌+◌, ◌*◌, ◌/◌, ◌%◌, ◌^◌, ◌<◌, ◌≤◌, min, max, List, length, get_or, replicate, ltb, cond, Bool, true, false, bit_and, bit_or, arith, sym, ap, ◌∙◌, subst, inl, inr}
use lib.Lanes.{zip2, sel_l, mask_l}
use Rattle.std.proofs.lemmas.Bool.Decides.{nat_tests}
use Rattle.std.proofs.lemmas.Bool.{cases_lt}
use Rattle.std.proofs.lemmas.Nat.{and_shr, and_mod, and_mask, or_shr, or_mod, le_or_l, le_or_r, mul-le}
use Rattle.std.proofs.lemmas.Simd.{length-zip2, get_or-zip2, length-sel_l, get_or-sel_l, mask_l-mod, bit_mask_l, get_or-replicate, length-replicate}
use Rattle.nash_bounds.specs.FarLanes.{IsNoMore, lane_bit}
use Rattle.bid_rules.specs.declared.limits.TheConstants.{WHOLE_POINTS}
use Rattle.nash_bounds.specs.declared.limits.TheConstants.{ALL_LANES, LANES, SHARES}

-- a lane of what two vectors give
pub both_at : (f : ℕ → ℕ → ℕ) (xs ys : List ℕ) (k : ℕ) → length xs ≡ LANES → length ys ≡ LANES → k < LANES → get_or (zip2 f xs ys) k 0 ≡ f (get_or xs k 0) (get_or ys k 0)
both_at f xs ys k a b l = get_or-zip2 f xs ys k 0 0 0 (omega arith) (omega arith)

-- they give as many lanes
pub both_long : (f : ℕ → ℕ → ℕ) (xs ys : List ℕ) → length xs ≡ LANES → length ys ≡ LANES → length (zip2 f xs ys) ≡ LANES
both_long f xs ys a b = length-zip2 f xs ys (omega arith) ∙ a

-- a lane of a vector of one number
pub splat_at : (n k : ℕ) → k < LANES → get_or (replicate LANES n) k 0 ≡ n
splat_at n k l = get_or-replicate LANES k n 0 l

-- it has all lanes
pub splat_long : (n : ℕ) → length (replicate LANES n) ≡ LANES
splat_long n = length-replicate LANES n

-- a lane of the lower of two vectors
pub lower_at : (xs ys : List ℕ) (k : ℕ) → length xs ≡ LANES → length ys ≡ LANES → k < LANES → get_or (sel_l (zip2 ltb xs ys) xs ys) k 0 ≡ min (get_or xs k 0) (get_or ys k 0)
lower_at xs ys k a b l =
    let n = length-zip2 ltb xs ys (omega arith) in
    get_or-sel_l (zip2 ltb xs ys) xs ys k 0 (omega arith) (omega arith) (omega arith)
    ∙ ap (λ m. cond m (get_or xs k 0) (get_or ys k 0)) (get_or-zip2 ltb xs ys k 0 0 false (omega arith) (omega arith))
    ∙ chosen (get_or xs k 0) (get_or ys k 0)
  where
    chosen : (x y : ℕ) → cond (ltb x y) x y ≡ min x y
    chosen x y = grind (arith, nat_tests)

-- a lane of the higher of two vectors
pub higher_at : (xs ys : List ℕ) (k : ℕ) → length xs ≡ LANES → length ys ≡ LANES → k < LANES → get_or (sel_l (zip2 ltb xs ys) ys xs) k 0 ≡ max (get_or xs k 0) (get_or ys k 0)
higher_at xs ys k a b l =
    let n = length-zip2 ltb xs ys (omega arith) in
    get_or-sel_l (zip2 ltb xs ys) ys xs k 0 (omega arith) (omega arith) (omega arith)
    ∙ ap (λ m. cond m (get_or ys k 0) (get_or xs k 0)) (get_or-zip2 ltb xs ys k 0 0 false (omega arith) (omega arith))
    ∙ chosen (get_or xs k 0) (get_or ys k 0)
  where
    chosen : (x y : ℕ) → cond (ltb x y) y x ≡ max x y
    chosen x y = grind (arith, nat_tests)

-- a choice between two vectors has as many lanes
pub chosen_long : (us vs xs ys : List ℕ) → length us ≡ LANES → length vs ≡ LANES → length xs ≡ LANES → length ys ≡ LANES → length (sel_l (zip2 ltb us vs) xs ys) ≡ LANES
chosen_long us vs xs ys a b c d =
    let n = length-zip2 ltb us vs (omega arith) in
    length-sel_l (zip2 ltb us vs) xs ys (omega arith) (omega arith) ∙ n ∙ a

-- a bit of a test of two vectors
pub bit_at : (t : ℕ → ℕ → Bool) (xs ys : List ℕ) (k : ℕ) → length xs ≡ LANES → length ys ≡ LANES → k < LANES → lane_bit (mask_l (zip2 t xs ys) % 2 ^ 64) k ≡ cond (t (get_or xs k 0) (get_or ys k 0)) 1 0
bit_at t xs ys k a b l =
    let n = length-zip2 t xs ys (omega arith) in
    ap (λ m. m / 2 ^ k % 2) (mask_l-mod (zip2 t xs ys) 64 (omega arith)) ∙ bit_mask_l (zip2 t xs ys) k
    ∙ ap (λ m. cond m 1 0) (get_or-zip2 t xs ys k 0 0 false (omega arith) (omega arith))

-- a bit of all lanes is set
pub all_bits : (k : ℕ) → k < LANES → lane_bit ALL_LANES k ≡ 1
all_bits k l = bit_mask_l (replicate LANES true) k ∙ ap (λ b. cond b 1 0) (get_or-replicate LANES k true false l)

-- a bit of one mask or the other
or_bit : (a b k : ℕ) → lane_bit (bit_or a b) k ≡ bit_or (lane_bit a k) (lane_bit b k)
or_bit a b k = ap (λ m. m % 2) (or_shr a b k) ∙ or_mod (a / 2 ^ k) (b / 2 ^ k) 1

-- a bit of both masks
and_bit : (a b k : ℕ) → lane_bit (bit_and a b) k ≡ bit_and (lane_bit a k) (lane_bit b k)
and_bit a b k = ap (λ m. m % 2) (and_shr a b k) ∙ and_mod (a / 2 ^ k) (b / 2 ^ k) 1

-- where as many lanes are open, neither bit is set
pub no_more_either : (open_lanes count reaching opened k : ℕ) → open_lanes ≡ count → lane_bit (bit_or reaching opened) k ≡ 0 → IsNoMore (open_lanes + lane_bit opened k) count (lane_bit reaching k)
no_more_either open_lanes count reaching opened k same none =
    let e = or_bit reaching opened k in
    let a = le_or_l (lane_bit reaching k) (lane_bit opened k) in
    let b = le_or_r (lane_bit reaching k) (lane_bit opened k) in
    inr (omega arith, omega arith)

-- where one is missing, one bit is clear
pub no_more_both : (open_lanes count reaching opened k : ℕ) → open_lanes + 1 ≡ count → lane_bit (bit_and reaching opened) k ≡ 0 → IsNoMore (open_lanes + lane_bit opened k) count (lane_bit reaching k)
no_more_both open_lanes count reaching opened k same none =
    elim (cases_lt (lane_bit opened k) 1) [
      | inl l ↦ inl (omega arith)
      | inr l ↦ inr (
          let one : lane_bit opened k ≡ 1 = omega arith in
          let both : bit_and (lane_bit reaching k) (lane_bit opened k) ≡ 0 = sym (and_bit reaching opened k) ∙ none in
          let with : bit_and (lane_bit reaching k) 1 ≡ 0 = subst (λ b. bit_and (lane_bit reaching k) b ≡ 0) one both in
          let mask = and_mask (lane_bit reaching k) 1 in
          (omega arith, omega arith))
    ]

-- a weight fits its lane
pub weight_fits : (factor number shares : ℕ) → factor ≤ WHOLE_POINTS → number ≤ 4 * WHOLE_POINTS → shares ≤ SHARES → (factor * number < 2 ^ 32) × (factor * number * shares < 2 ^ 32)
weight_fits factor number shares a b c =
    let one = mul-le factor number WHOLE_POINTS (4 * WHOLE_POINTS) a b in
    let two = mul-le (factor * number) shares (WHOLE_POINTS * (4 * WHOLE_POINTS)) SHARES one c in
    (omega arith, omega arith)
