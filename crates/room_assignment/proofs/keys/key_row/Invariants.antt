use Rattle.std.proofs.Common.{◌+◌}
use Rattle.bid_rules.specs.Keys.{key}
use Rattle.room_assignment.specs.declared.limits.TheConstants.{MOST_KEY}
use Rattle.room_assignment.specs.Entries.{IsRowOf}
use Rattle.room_assignment.proofs.keys.key_row.Given as goal

abbrev pub invariant-loop-room : goal.invariant-loop-room
invariant-loop-room l = IsRowOf l.room MOST_KEY (λ j. key l.case l.member (j + 1)) l.row.items
