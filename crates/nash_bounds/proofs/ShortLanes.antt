-- A lane whose test fails is far.
use Rattle.std.proofs.Common.{◌≡◌, ℕ, ◌+◌, ◌-◌, ◌*◌, ◌/◌, ◌%◌, ◌^◌, ◌<◌, ◌≤◌, ◌⊎◌, min, max, List, length, get_or, arith, ap, ◌∙◌, subst, inl, inr, cond, nat_le, ◌==◌, false}
use Rattle.std.proofs.Math.Nat.{mul-le-mul, mul-le-mul_right, mul-le-mul_left}
use Rattle.std.proofs.lemmas.Bool.{cases_lt, eqb-false}
use Rattle.std.proofs.lemmas.Bool.Decides.{nat_tests}
use Rattle.std.proofs.lemmas.Nat.{div-add-mod', mod_below}
use Rattle.bid_rules.specs.declared.goods.GoodsCase.{GoodsCase}
use Rattle.bid_rules.specs.declared.pair.Pair.{Pair}
use Rattle.bid_rules.specs.Goods.{player_count, points}
use Rattle.nash_bounds.specs.FarLanes.{FallsShort, IsFar, IsNoMore, lane_bit}
use Rattle.nash_bounds.specs.Levels.{entry_at}
use Rattle.nash_bounds.specs.Lanes.{IsFork, IsLaneRow, HasFreeGood, next_good}
use Rattle.nash_bounds.specs.Reach.{IsFlat, IsSpan}
use Rattle.nash_bounds.specs.declared.lanes.Lanes.{Lanes}
use Rattle.nash_bounds.specs.declared.lanes.LaneRow.{LaneRow}
use Rattle.nash_bounds.specs.declared.reach.Flat.{Flat}
use Rattle.nash_bounds.proofs.FarOwners.{flat_before, lane_order}
use Rattle.nash_bounds.proofs.LaneNumbers.{forked, lane_at, lane_length, may_small, next_within, row_points, top_small}
use Rattle.bid_rules.specs.declared.limits.TheConstants.{MEMBER_ROOM, WHOLE_POINTS}
use Rattle.nash_bounds.specs.declared.limits.TheConstants.{LANES, MOST_TOP, SHARES}

-- the product is below these shares of the goal's, or they are all
pub shares_above : (product units own shift whole shares : ℕ) → 0 < own → own * 2 ^ shift ≤ whole → (product < units * 2 ^ shift) ⊎ (own < units) → shares ≡ min (units * SHARES / own + 1) SHARES
    → (shares ≡ SHARES) ⊎ (product * SHARES < shares * whole)
shares_above product units own shift whole shares some within above is =
    elim (cases_lt (units * SHARES / own + 1) SHARES) [
      | inr l ↦ inl (omega arith)
      | inl l ↦ inr (
          let parts : units * SHARES / own * own + units * SHARES % own ≡ units * SHARES = div-add-mod' (units * SHARES) own in
          let rest : units * SHARES % own < own = mod_below (units * SHARES) own some in
          let value : shares ≡ units * SHARES / own + 1 = omega arith in
          let all : shares * own ≡ units * SHARES / own * own + own = ap (λ n. n * own) value ∙ (omega arith) in
          let next : units * SHARES < shares * own = omega arith in
          let most : shares * own ≤ SHARES * own = mul-le-mul_right own (let h : shares ≤ SHARES = omega arith in h) in
          let fewer : units < own = omega arith in
          below (2 ^ shift) fewer next above within)
    ]
  where
    below : (unit : ℕ) → units < own → units * SHARES < shares * own → (product < units * unit) ⊎ (own < units) → own * unit ≤ whole → product * SHARES < shares * whole
    below unit fewer next (inr h) fits = absurd (omega arith)
    below unit fewer next (inl h) fits =
        let a : units * SHARES * unit ≤ shares * own * unit = mul-le-mul_right unit (let g : units * SHARES ≤ shares * own = omega arith in g) in
        let b : units * SHARES * unit ≡ units * unit * SHARES = omega arith in
        let c : shares * own * unit ≡ shares * (own * unit) = omega arith in
        let d : shares * (own * unit) ≤ shares * whole = mul-le-mul_left shares fits in
        omega arith

-- no lane falls short of all shares, since no entry falls with points
short_of_all : (level low high points over : ℕ) → FallsShort level (entry_at level low high) (entry_at level (low + points) (high + points)) over SHARES → ⊥
short_of_all level low high points over short =
    let before = max (entry_at level low high) 1 in
    let after = max (entry_at level (low + points) (high + points)) 1 in
    let a : before ≤ after = omega arith in
    let b : 2 * level - over ≤ 2 * level + over = omega arith in
    let c : before * (2 * level - over) ≤ after * (2 * level + over) = mul-le-mul a b in
    let d : before * (2 * level - over) * SHARES ≤ after * (2 * level + over) * SHARES = mul-le-mul_right SHARES c in
    omega (arith, short.1)

-- where the lane's bits are clear, it is far
pub far_lane : (low high points before after over shares opened reaching : ℕ) (flat : Flat) (pair : Pair) → before ≡ entry_at flat.level low high → after ≡ entry_at flat.level (low + points) (high + points)
    → over ≡ flat.spare + points + before - after → opened ≡ min (high + points) 1 - min high 1
    → (reaching ≡ 0 → FallsShort flat.level before after over shares) → (shares ≡ SHARES) ⊎ (flat.product * SHARES < shares * pair.product)
    → IsNoMore (flat.open_lanes + opened) pair.count reaching → IsFar low high points flat before shares pair
far_lane low high points before after over shares opened reaching flat pair before_is after_is over_is opened_is short above (inl few) = inl (omega arith)
far_lane low high points before after over shares opened reaching flat pair before_is after_is over_is opened_is short (inl all) (inr same) =
    absurd (short_of_all flat.level low high points over
    (subst (λ n. FallsShort flat.level (entry_at flat.level low high) (entry_at flat.level (low + points) (high + points)) over n) all
    (subst (λ n. FallsShort flat.level (entry_at flat.level low high) n over shares) after_is
    (subst (λ n. FallsShort flat.level n after over shares) before_is (short same.1)))))
far_lane low high points before after over shares opened reaching flat pair before_is after_is over_is opened_is short (inr above) (inr same) =
    inr (
      omega (arith, same.0),
      above,
      subst (λ n. FallsShort flat.level before n (flat.spare + points + before - n) shares) after_is
          (subst (λ n. FallsShort flat.level before after n shares) over_is (short same.1)),
    )

-- a row has all lanes
pub row_long : (case : GoodsCase) (good : ℕ) (row : LaneRow) → IsLaneRow case good row → length row.points ≡ LANES
row_long case good row is = lane_length (λ player. points case player good) row.points is.is_points

-- a lane has at most all points of a player with the next good
pub fork_whole : (case : GoodsCase) (owners : List ℕ) (row : LaneRow) (lanes : Lanes) (k : ℕ) → IsLaneRow case (next_good case owners) row → HasFreeGood case owners → IsFork case owners lanes → k < LANES
    → get_or lanes.high k 0 + get_or row.points k 0 ≤ WHOLE_POINTS
fork_whole case owners row lanes k is free lanes_are l =
    let a = row_points case owners row k is l in
    let b = lane_at (forked case owners) lanes.high k lanes_are.is_high l in
    let w = next_within case owners (k + 1) free.short in
    let s = may_small case owners (k + 1) free.valid (omega arith) in
    omega arith

-- a lane's entry is at most all points of a player
pub before_small : (lanes : Lanes) (flat : Flat) (k : ℕ) → IsSpan lanes → IsFlat lanes flat → k < LANES → get_or flat.entries k 0 ≤ WHOLE_POINTS
before_small lanes flat k span is l =
    let b = span.highs in
    let e = flat_before lanes flat k span is l in
    let o = lane_order lanes k span l in
    let s : get_or lanes.high k 0 ≤ WHOLE_POINTS = span.small k 0 (omega arith) in
    omega arith

-- what is left over at the level is at most the top, which is small
pub spare_small : (case : GoodsCase) (owners : List ℕ) (lanes : Lanes) (flat : Flat) → HasFreeGood case owners → player_count case ≤ MEMBER_ROOM → IsFork case owners lanes → IsFlat lanes flat → flat.spare ≤ MOST_TOP
spare_small case owners lanes flat free few fork is =
    let a = is.is_spare in
    let t = fork.is_top in
    let s = top_small case owners free.valid few in
    omega arith

-- with points an entry rises by no more
pub after_within : (lanes : Lanes) (flat : Flat) (k points after : ℕ) → IsSpan lanes → IsFlat lanes flat → k < LANES
    → after ≡ entry_at flat.level (get_or lanes.low k 0 + points) (get_or lanes.high k 0 + points) → after ≤ flat.spare + points + get_or flat.entries k 0
after_within lanes flat k points after span is l after_is = let e = flat_before lanes flat k span is l in omega arith

-- where the test fails the lane falls short
pub short_by : (level before after over shares few most least rises stays bit : ℕ) → few ≡ min over (2 * level) → most ≡ 2 * level + few → least ≡ 2 * level - few → rises ≡ max after 1 * most * shares
    → stays ≡ max before 1 * least * SHARES → bit ≡ cond (nat_le stays rises) 1 0 → bit ≡ 0 → FallsShort level before after over shares
short_by level before after over shares few most least rises stays bit few_is most_is least_is rises_is stays_is bit_is none =
    let less = below stays rises bit bit_is none in
    elim (cases_lt over (2 * level)) [
      | inl l ↦ (
          let same : few ≡ over = omega arith in
          let m : most ≡ 2 * level + over = omega arith in
          let n : least ≡ 2 * level - over = omega arith in
          let r : rises ≡ max after 1 * (2 * level + over) * shares = rises_is ∙ ap (λ v. max after 1 * v * shares) m in
          let s : stays ≡ max before 1 * (2 * level - over) * SHARES = stays_is ∙ ap (λ v. max before 1 * v * SHARES) n in
          (l, omega arith))
      | inr l ↦ absurd (
          let n : least ≡ 0 = omega arith in
          let s : stays ≡ max before 1 * 0 * SHARES = stays_is ∙ ap (λ v. max before 1 * v * SHARES) n in
          let z : max before 1 * 0 * SHARES ≡ 0 = omega arith in
          omega arith)
    ]
  where
    below : (a b bit : ℕ) → bit ≡ cond (nat_le a b) 1 0 → bit ≡ 0 → b < a
    below a b bit is none = grind (arith, nat_tests)

-- a bit that is not set is clear
pub bit_clear : (bits k : ℕ) → (lane_bit bits k == 1) ≡ false → lane_bit bits k ≡ 0
bit_clear bits k none = let e = eqb-false (lane_bit bits k) 1 none in grind arith
