use Rattle.bid_rules.specs.Rent.{value}
use Rattle.std.proofs.Common.{◌+◌}
use Rattle.room_assignment.specs.declared.limits.TheConstants.{MOST_KEY}
use Rattle.room_assignment.specs.Entries.{IsRowOf}
use Rattle.room_assignment.proofs.keys.value_row.Given as goal

abbrev pub invariant-loop-room : goal.invariant-loop-room
invariant-loop-room l = IsRowOf l.room MOST_KEY (λ j. value l.case l.member (j + 1)) l.row.items
