use Rattle.std.proofs.Common.{◌≡◌, ◌+◌, ◌<◌, ℕ, [], length, slice_index_or}
use Rattle.bid_rules.specs.Rent.{room_count}
use Rattle.bid_rules.specs.Keys.{key}
use Rattle.room_assignment.specs.declared.limits.TheConstants.{MOST_KEY}
use Rattle.room_assignment.specs.Entries.{IsRowOf}
use Rattle.room_assignment.proofs.keys.keys_of.Given as goal

abbrev pub invariant-loop-member : goal.invariant-loop-member
invariant-loop-member l = record {
  rows_count : length l.keys.items ≡ l.member;
  rows : (i : ℕ) → i < l.member → IsRowOf (room_count l.case) MOST_KEY (λ j. key l.case i (j + 1)) (slice_index_or l.keys.items i (record { items = [] })).items;
}
