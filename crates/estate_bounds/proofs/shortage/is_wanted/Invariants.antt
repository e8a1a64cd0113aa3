use Rattle.std.proofs.Common.{◌≡◌, ℕ, drop, nat_lt}
use Rattle.std.specs.List.{list_any}
use Rattle.bid_rules.specs.Goods.{points}
use Rattle.nash_bounds.specs.Lanes.{IsLaneRow}
use Rattle.estate_bounds.specs.Counts.{is_wanted}
use Rattle.estate_bounds.proofs.shortage.is_wanted.Given as goal

abbrev pub invariant-loop-player : goal.invariant-loop-player
invariant-loop-player l = (good : ℕ) → IsLaneRow l.case good l.row → list_any (λ player. nat_lt 0 (points l.case player good)) (drop l.player-index l.players) ≡ is_wanted l.case l.players good
