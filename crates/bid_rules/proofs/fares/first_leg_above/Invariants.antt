use Rattle.std.proofs.Common.{◌≡◌, ◌*◌, ◌≤◌, length, take, All, flat_map}
use Rattle.bid_rules.specs.declared.limits.TheConstants.{MOST_FARE_CENTS, PLACE_ROOM}
use Rattle.bid_rules.proofs.fares.first_leg_above.Given as goal

abbrev pub invariant-loop-row : goal.invariant-loop-row
invariant-loop-row l =
    let before = flat_map (λ row. row.items) (take l.row-index l.row-items) in
    record {
      passed : l.passed ≡ length before;
      small : l.passed ≤ PLACE_ROOM * l.row-index;
      fits : All (λ cents. cents ≤ MOST_FARE_CENTS) before;
    }
