-- What a row of points says of a player by number.
use Rattle.std.proofs.Common.{◌≡◌, ℕ, ◌+◌, ◌-◌, ◌<◌, ◌≤◌, List, get_or, length, arith, ap, ◌∙◌, subst, nat_lt, true, false}
use Rattle.std.proofs.lemmas.Bool.Decides.{nat_tests}
use Rattle.bid_rules.specs.declared.goods.GoodsCase.{GoodsCase}
use Rattle.bid_rules.specs.declared.limits.TheConstants.{MEMBER_ROOM}
use Rattle.bid_rules.specs.Goods.{AreOwners, player_count, points}
use Rattle.nash_bounds.specs.declared.lanes.LaneRow.{LaneRow}
use Rattle.nash_bounds.specs.Lanes.{IsLaneRow}
use Rattle.estate_bounds.proofs.TopSteps.{by_lane_at}

-- a player's points for the good of the row
points_at : (case : GoodsCase) (good : ℕ) (row : LaneRow) (lanes players : List ℕ) (k player : ℕ) → IsLaneRow case good row → lanes ≡ row.points → AreOwners case players → player_count case ≤ MEMBER_ROOM
    → k < length players → player ≡ get_or players k 0 → get_or lanes (player - 1) 0 ≡ points case (get_or players k 0) good
points_at case good row lanes players k player is same named few l e =
    let own : (1 ≤ get_or players k 0) × (get_or players k 0 ≤ player_count case) = named k 0 l in
    let low = own.0 in
    let high = own.1 in
    let at : get_or lanes (player - 1) 0 ≡ points case (player - 1 + 1) good = by_lane_at (λ p. points case p good) case lanes (player - 1) (same ∙ is.is_points) few (omega arith) in
    let again : player - 1 + 1 ≡ get_or players k 0 = omega arith in
    at ∙ ap (λ p. points case p good) again

-- the player wants it
pub wants : (case : GoodsCase) (good : ℕ) (row : LaneRow) (lanes players : List ℕ) (k player : ℕ) → IsLaneRow case good row → lanes ≡ row.points → AreOwners case players → player_count case ≤ MEMBER_ROOM
    → k < length players → player ≡ get_or players k 0 → 0 < get_or lanes (player - 1) 0 → nat_lt 0 (points case (get_or players k 0) good) ≡ true
wants case good row lanes players k player is same named few l e some =
    passes (points case (get_or players k 0) good) (subst (λ n. 0 < n) (points_at case good row lanes players k player is same named few l e) some)
  where
    passes : (n : ℕ) → 0 < n → nat_lt 0 n ≡ true
    passes n h = grind (arith, nat_tests)

-- or does not
pub wants_not : (case : GoodsCase) (good : ℕ) (row : LaneRow) (lanes players : List ℕ) (k player : ℕ) → IsLaneRow case good row → lanes ≡ row.points → AreOwners case players → player_count case ≤ MEMBER_ROOM
    → k < length players → player ≡ get_or players k 0 → get_or lanes (player - 1) 0 ≤ 0 → nat_lt 0 (points case (get_or players k 0) good) ≡ false
wants_not case good row lanes players k player is same named few l e none =
    fails (points case (get_or players k 0) good) (subst (λ n. n ≤ 0) (points_at case good row lanes players k player is same named few l e) none)
  where
    fails : (n : ℕ) → n ≤ 0 → nat_lt 0 n ≡ false
    fails n h = grind (arith, nat_tests)
