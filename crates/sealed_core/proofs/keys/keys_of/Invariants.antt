use Rattle.std.proofs.Common.{◌≡◌, ◌≤◌, map}
use Rattle.std.specs.List.{range_with_len}
use Rattle.bid_rules.specs.declared.limits.TheConstants.{MEMBER_ROOM}
use Rattle.sealed_core.specs.Keys.{key_text}
use Rattle.sealed_core.proofs.keys.keys_of.Given as goal

abbrev pub invariant-loop-member : goal.invariant-loop-member
invariant-loop-member l = record { so_far : l.keys.items ≡ map (key_text l.secret l.id) (range_with_len 0 l.member); few : l.members ≤ MEMBER_ROOM }
