-- What the lanes say of room.
use Rattle.std.proofs.Common.{◌≡◌, ℕ, ◌-◌, ◌<◌, ◌≤◌, Bool, true, false, List, length, get_or, arith, refl, sym, ap, ◌∙◌}
use Rattle.std.proofs.lemmas.List.FromFn.{get_or-map-range_with_len}
use Rattle.bid_rules.specs.declared.goods.GoodsCase.{GoodsCase}
use Rattle.bid_rules.specs.declared.limits.TheConstants.{MEMBER_ROOM}
use Rattle.nash_bounds.specs.declared.limits.TheConstants.{LANES}
use Rattle.bid_rules.specs.Goods.{player_count}
use Rattle.nash_bounds.specs.declared.lanes.Lanes.{Lanes}
use Rattle.nash_bounds.specs.Lanes.{IsLanes, by_lane, has, may_have}
use Rattle.goods_audit.specs.Domination.{leaves_room}
use Rattle.goods_audit.proofs.WholeDivisions.{OrderLong, open_from, open_to, whole_top}

-- a player's entry in the lanes
lane_entry : (f : ℕ → ℕ) (lanes : List ℕ) (player : ℕ) → lanes ≡ by_lane f → 1 ≤ player → player ≤ LANES → get_or lanes (player - 1) 0 ≡ f player
lane_entry f lanes player is low high =
    ap (λ xs. get_or xs (player - 1) 0) is ∙ get_or-map-range_with_len f 1 LANES (player - 1) player 0 (omega (arith, low, high)) (omega (arith, low))

-- where all together may have no more, there is no room
pub no_room_top : OrderLong → (case : GoodsCase) (owners prefix : List ℕ) (whole lanes : Lanes) → length owners ≡ case.facts.goods → IsLanes case owners whole → IsLanes case prefix lanes → lanes.top ≤ whole.top
    → false ≡ leaves_room case owners prefix
no_room_top long case owners prefix whole lanes is_whole a b less = by_cases (leaves_room case owners prefix) refl
  where
    by_cases : (t : Bool) → leaves_room case owners prefix ≡ t → false ≡ leaves_room case owners prefix
    by_cases false e = sym e
    by_cases true e =
        let more = (open_from case owners prefix e).more in
        let total = whole_top long case owners is_whole in
        let top = a.is_top in
        let tops = b.is_top in
        absurd (omega (arith, more, total, top, tops, less))

-- the lanes of all players say whether there is room, where all together may have more
pub room_is : OrderLong → (case : GoodsCase) (owners prefix : List ℕ) (whole lanes : Lanes) (result : Bool) → player_count case ≤ MEMBER_ROOM → length owners ≡ case.facts.goods → IsLanes case owners whole → IsLanes case prefix lanes → whole.top < lanes.top
    → (result ≡ true → (player : ℕ) → 1 ≤ player → player ≤ player_count case → get_or whole.low (player - 1) 0 ≤ get_or lanes.high (player - 1) 0)
    → (result ≡ false → (player : ℕ) × (1 ≤ player) × (player ≤ player_count case) × (get_or lanes.high (player - 1) 0 < get_or whole.low (player - 1) 0))
    → result ≡ leaves_room case owners prefix
room_is long case owners prefix whole lanes true few is_whole a b more each some =
    sym (open_to case owners prefix (record {
      each = λ player low high.
          let entry = each refl player low high in
          let one = lane_entry (has case owners) whole.low player a.is_low low (omega (arith, high, few)) in
          let other = lane_entry (may_have case prefix) lanes.high player b.is_high low (omega (arith, high, few)) in
          omega (arith, entry, one, other);
      more = (let total = whole_top long case owners is_whole in let top = a.is_top in let tops = b.is_top in omega (arith, total, top, tops, more));
    }))
room_is long case owners prefix whole lanes false few is_whole a b more each some = by_cases (leaves_room case owners prefix) refl
  where
    by_cases : (t : Bool) → leaves_room case owners prefix ≡ t → false ≡ leaves_room case owners prefix
    by_cases false e = sym e
    by_cases true e =
        let player = some refl in
        let low = player.1 in
        let high = player.2 in
        let less = player.3 in
        let may = (open_from case owners prefix e).each player.0 low high in
        let one = lane_entry (has case owners) whole.low player.0 a.is_low low (omega (arith, high, few)) in
        let other = lane_entry (may_have case prefix) lanes.high player.0 b.is_high low (omega (arith, high, few)) in
        absurd (omega (arith, less, may, one, other))
