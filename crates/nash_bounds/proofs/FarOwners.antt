-- An owner who could not reach a pair has a bound below it.
use Rattle.std.proofs.Common.{◌≡◌, ℕ, suc, zero, ◌+◌, ◌*◌, ◌-◌, ◌<◌, ◌≤◌, min, max, List, [], ◌∷◌, ◌++◌, length, get_or, set, sum, All, arith, refl, sym, ap, ◌∙◌, subst, inl, inr}
use Rattle.std.specs.List.{AllZip}
use Rattle.std.proofs.lemmas.Bool.{cases_lt}
use Rattle.std.proofs.lemmas.List.Elements.{AllZip-get_or}
use Rattle.std.proofs.Math.Nat.{mul-le-mul_right, le_of_mul-le-mul_right}
use Rattle.bid_rules.specs.declared.goods.GoodsCase.{GoodsCase}
use Rattle.bid_rules.specs.declared.pair.Pair.{Pair}
use Rattle.bid_rules.specs.Goods.{player_count, points}
use Rattle.bid_rules.specs.Pairs.{positives, product, nash_welfare, IsLess}
use Rattle.nash_bounds.specs.Bound.{IsBetween, IsBound}
use Rattle.nash_bounds.specs.Levels.{entry_at, entries_at_level}
use Rattle.nash_bounds.specs.Prefixes.{prefix_bound}
use Rattle.nash_bounds.specs.Lanes.{IsFork, HasFreeGood, next_good}
use Rattle.nash_bounds.specs.Reach.{IsFlat, entries_at}
use Rattle.nash_bounds.specs.Reach.{IsSpan}
use Rattle.nash_bounds.specs.FarLanes.{FallsShort, IsFar}
use Rattle.nash_bounds.specs.declared.lanes.Lanes.{Lanes}
use Rattle.nash_bounds.specs.declared.reach.Flat.{Flat}
use Rattle.nash_bounds.proofs.OneBound.{bound_of-is}
use Rattle.nash_bounds.proofs.NextEntries.{sum_within}
use Rattle.nash_bounds.proofs.LaneEntries.{filled_zero, entries_length, entries_get, entries_positive, positives_le, entries_set, sum_set, positives_set, product_set}
use Rattle.nash_bounds.proofs.LaneVectors.{entries_most}
use Rattle.nash_bounds.proofs.FarProducts.{slack_at}
use Rattle.nash_bounds.proofs.LaneNumbers.{give_is, span_of_lanes, lanes_bound}
use Rattle.bid_rules.specs.declared.limits.TheConstants.{MEMBER_ROOM, WHOLE_POINTS}
use Rattle.nash_bounds.specs.declared.limits.TheConstants.{LANES, MOST_LANES_SUM, SHARES}

-- there are at most as many positive entries as entries
pub few_positive : (xs : List ℕ) → positives xs ≤ length xs
few_positive [] = omega arith
few_positive (x ∷ xs) = let rest = few_positive xs in omega arith

-- a lane's entry is the one at the level
pub flat_before : (lanes : Lanes) (flat : Flat) (i : ℕ) → IsSpan lanes → IsFlat lanes flat → i < LANES → get_or flat.entries i 0 ≡ entry_at flat.level (get_or lanes.low i 0) (get_or lanes.high i 0)
flat_before lanes flat i span is l =
    let a = span.lows in let b = span.highs in
    ap (λ xs. get_or xs i 0) is.is_entries ∙ entries_get flat.level lanes.low lanes.high i (omega arith) (omega arith)

-- a lane's low is at most its high
pub lane_order : (lanes : Lanes) (i : ℕ) → IsSpan lanes → i < LANES → get_or lanes.low i 0 ≤ get_or lanes.high i 0
lane_order lanes i span l = let a = span.lows in AllZip-get_or ◌≤◌ lanes.low lanes.high i 0 0 span.in_order (omega arith)

-- no entry of a span is above all points of a player
pub entries_within : (level : ℕ) (lanes : Lanes) → IsSpan lanes → All (λ v. v ≤ WHOLE_POINTS) (entries_at level lanes.low lanes.high)
entries_within level lanes span = entries_most level lanes.low lanes.high span.in_order span.small

-- the entries at a level sum to at most the most points that the players have in sum
pub entries_total : (level : ℕ) (lanes : Lanes) → IsSpan lanes → sum (entries_at level lanes.low lanes.high) ≤ MOST_LANES_SUM
entries_total level lanes span =
    let a = span.lows in let b = span.highs in
    let n = entries_length level lanes.low lanes.high (omega arith) in
    let s = sum_within (entries_at level lanes.low lanes.high) (entries_within level lanes span) in
    omega arith

-- the numbers of the test by shares: a product u is below P
below_shares : (u d e C' C c n p P : ℕ) → u * d ≤ C' * e → C' * c ≡ C * n → C * SHARES < p * P → n * e * p < c * d * SHARES → u < P
below_shares u d e C' C c n p P near ratio above test =
    elim (cases_lt u P) [
      | inl l ↦ l
      | inr l ↦ absurd (
          let a1 : u * d * c ≤ C' * e * c = mul-le-mul_right c near in
          let a2 : C' * e * c ≡ C' * c * e = omega arith in
          let a3 : C' * c * e ≡ C * n * e = ap (λ z. z * e) ratio in
          let a4 : P * (d * c) ≤ u * (d * c) = mul-le-mul_right (d * c) l in
          let a5 : u * (d * c) ≡ u * d * c = omega arith in
          let a6 : P * (d * c) * SHARES ≤ C * n * e * SHARES = mul-le-mul_right SHARES (let h : P * (d * c) ≤ C * n * e = omega arith in h) in
          let a7 : C * n * e * SHARES ≡ C * SHARES * (n * e) = omega arith in
          let a8 : C * SHARES * (n * e) ≤ p * P * (n * e) = mul-le-mul_right (n * e) (let h : C * SHARES ≤ p * P = omega arith in h) in
          let a9 : p * P * (n * e) ≡ n * e * p * P = omega arith in
          let a10 : P * (d * c) * SHARES ≡ c * d * SHARES * P = omega arith in
          let b : c * d * SHARES * P ≤ n * e * p * P = omega arith in
          let some : 0 < P = positive P above in
          let b' : c * d * SHARES ≤ n * e * p = le_of_mul-le-mul_right b some in
          omega arith)
    ]
  where
    positive : (P : ℕ) → C * SHARES < p * P → 0 < P
    positive zero h = absurd (let e : p * zero ≡ 0 = omega arith in omega arith)
    positive (suc P) h = omega arith

-- where a lane falls short, a list with as many positive utilities has a smaller product
far_by_product : (lanes : Lanes) (flat : Flat) (i points shares after over : ℕ) (pair : Pair) (us : List ℕ) → IsSpan lanes → IsFlat lanes flat → i < LANES
    → after ≡ entry_at flat.level (get_or lanes.low i 0 + points) (get_or lanes.high i 0 + points)
    → flat.spare + points + get_or flat.entries i 0 ≤ over + after
    → AllZip ◌≤◌ (set lanes.low i (get_or lanes.low i 0 + points)) (set lanes.high i (get_or lanes.high i 0 + points))
    → IsBetween (set lanes.low i (get_or lanes.low i 0 + points)) (set lanes.high i (get_or lanes.high i 0 + points)) (lanes.top + points) us
    → positives us ≡ positives (set lanes.high i (get_or lanes.high i 0 + points))
    → flat.product * SHARES < shares * pair.product
    → FallsShort flat.level (get_or flat.entries i 0) after over shares
    → product us < pair.product
far_by_product lanes flat i points shares after over pair us span is l after_is over_is order within same above short =
    let lows = set lanes.low i (get_or lanes.low i 0 + points) in
    let highs = set lanes.high i (get_or lanes.high i 0 + points) in
    let level = flat.level in
    let before = get_or flat.entries i 0 in
    let old = entries_at level lanes.low lanes.high in
    let a = span.lows in let b = span.highs in
    let some : 1 ≤ level = let few = short.0 in omega arith in
    let n = entries_length level lanes.low lanes.high (omega arith) in
    let before_is : before ≡ get_or old i 0 = ap (λ xs. get_or xs i 0) is.is_entries in
    let new : entries_at_level level 0 lows highs ≡ set old i after =
    filled_zero level lows highs ∙ entries_set level lanes.low lanes.high i (get_or lanes.low i 0 + points) (get_or lanes.high i 0 + points) (omega arith) ∙ ap (set old i) (sym after_is) in
    let sums : sum (set old i after) + get_or old i 0 ≡ sum old + after = sum_set old i after (omega arith) in
    let new_sum : sum (entries_at_level level 0 lows highs) ≡ sum (set old i after) = ap sum new in
    let spare = is.is_spare in
    let top : sum us ≤ lanes.top + points = within.total in
    let fits : sum us ≤ sum (entries_at_level level 0 lows highs) + over = omega arith in
    let positive : positives us ≡ positives (entries_at_level level 0 lows highs) = same ∙ sym (entries_positive level lows highs some order) ∙ ap positives (sym (filled_zero level lows highs)) in
    let near = slack_at level over lows highs us some order within.above within.below positive fits short.0 in
    let ratio : product (entries_at_level level 0 lows highs) * max before 1 ≡ product old * max after 1 =
    ap (λ xs. product xs * max before 1) new ∙ ap (λ v. product (set old i after) * max v 1) before_is ∙ product_set old i after (omega arith) in
    let less : product old * SHARES < shares * pair.product = subst (λ v. v * SHARES < shares * pair.product) is.is_product above in
    below_shares (product us) (2 * level - over) (2 * level + over) (product (entries_at_level level 0 lows highs)) (product old) (max before 1) (max after 1) shares pair.product near ratio less short.1

-- where a lane is far, each list allowed has a smaller pair
far_less : (lanes : Lanes) (flat : Flat) (i points shares : ℕ) (pair : Pair) (us : List ℕ) → IsSpan lanes → IsFlat lanes flat → i < LANES
    → AllZip ◌≤◌ (set lanes.low i (get_or lanes.low i 0 + points)) (set lanes.high i (get_or lanes.high i 0 + points))
    → IsBetween (set lanes.low i (get_or lanes.low i 0 + points)) (set lanes.high i (get_or lanes.high i 0 + points)) (lanes.top + points) us
    → IsFar (get_or lanes.low i 0) (get_or lanes.high i 0) points flat (get_or flat.entries i 0) shares pair → IsLess (nash_welfare us) pair
far_less lanes flat i points shares pair us span is l order within (inl few) =
    let b = span.highs in
    let p = positives_le us (set lanes.high i (get_or lanes.high i 0 + points)) within.below in
    let s = positives_set lanes.high i (get_or lanes.high i 0 + points) (omega arith) in
    let o = is.is_open in
    let c : positives us < pair.count = omega arith in
    inl c
far_less lanes flat i points shares pair us span is l order within (inr far) =
    let b = span.highs in
    let p = positives_le us (set lanes.high i (get_or lanes.high i 0 + points)) within.below in
    let s = positives_set lanes.high i (get_or lanes.high i 0 + points) (omega arith) in
    let o = is.is_open in
    let count : flat.open_lanes + (min (get_or lanes.high i 0 + points) 1 - min (get_or lanes.high i 0) 1) ≡ pair.count = far.0 in
    let after = entry_at flat.level (get_or lanes.low i 0 + points) (get_or lanes.high i 0 + points) in
    let over = flat.spare + points + get_or flat.entries i 0 - after in
    elim (cases_lt (positives us) pair.count) [
      | inl c ↦ inl c
      | inr c ↦ inr (omega arith, far_by_product lanes flat i points shares after over pair us span is l refl (omega arith) order within (omega arith) far.1 far.2)
    ]

-- where a lane is far, the bound with its points is below the pair
far_child : (lanes : Lanes) (flat : Flat) (i given shares : ℕ) (pair bound : Pair) → IsSpan lanes → IsFlat lanes flat → i < LANES
    → AllZip ◌≤◌ (set lanes.low i (get_or lanes.low i 0 + given)) (set lanes.high i (get_or lanes.high i 0 + given))
    → IsBound (set lanes.low i (get_or lanes.low i 0 + given)) (set lanes.high i (get_or lanes.high i 0 + given)) (lanes.top + given) bound
    → IsFar (get_or lanes.low i 0) (get_or lanes.high i 0) given flat (get_or flat.entries i 0) shares pair → IsLess bound pair
far_child lanes flat i given shares pair bound span is l order best far =
    subst (λ (p : Pair). IsLess p pair) best.reached.2 (far_less lanes flat i given shares pair best.reached.0 span is l order best.reached.1 far)

-- where the owner's lane is far, the bound with the next good given to the owner is below the pair
pub far_bound : (case : GoodsCase) (owners : List ℕ) (owner given shares : ℕ) (lanes : Lanes) (flat : Flat) (pair : Pair) → HasFreeGood case owners → player_count case ≤ MEMBER_ROOM → 1 ≤ owner → owner ≤ player_count case
    → given ≡ points case owner (next_good case owners) → IsSpan lanes → IsFork case owners lanes → IsFlat lanes flat
    → IsFar (get_or lanes.low (owner - 1) 0) (get_or lanes.high (owner - 1) 0) given flat (get_or flat.entries (owner - 1) 0) shares pair → IsLess (prefix_bound case (owners ++ owner ∷ [])) pair
far_bound case owners owner given shares lanes flat pair free few low high is span fork flat_is far =
    let to = owners ++ owner ∷ [] in
    let child : Lanes = record { low = set lanes.low (owner - 1) (get_or lanes.low (owner - 1) 0 + given); high = set lanes.high (owner - 1) (get_or lanes.high (owner - 1) 0 + given); top = lanes.top + given } in
    let child_is = give_is case owners owner given lanes free low high (omega arith) is fork in
    let child_span = span_of_lanes case to child free.valid few child_is in
    let best = bound_of-is child.low child.high child.top child_span.in_order child_span.small child_span.within in
    far_child lanes flat (owner - 1) given shares pair (prefix_bound case to) span flat_is (omega arith) child_span.in_order
    (subst (λ (p : Pair). IsBound child.low child.high child.top p) (lanes_bound case to child few child_is) best) far
