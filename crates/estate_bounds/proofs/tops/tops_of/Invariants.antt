use Rattle.std.proofs.Common.{◌≡◌, ◌+◌, ◌*◌, ◌≤◌, All, length, map}
use Rattle.std.specs.List.{range_with_len}
use Rattle.bid_rules.specs.declared.limits.TheConstants.{ITEM_ROOM}
use Rattle.estate_bounds.specs.Sums.{free_top}
use Rattle.estate_bounds.specs.declared.limits.TheConstants.{MOST_TERM}
use Rattle.estate_bounds.proofs.tops.tops_of.Given as goal

abbrev pub invariant-loop-free : goal.invariant-loop-free
invariant-loop-free l = record {
  small : l.top ≤ MOST_TERM * l.free;
  top : l.top ≡ free_top l.case l.weights l.free;
  all : All (λ top. top ≤ MOST_TERM * ITEM_ROOM) l.tops.items;
  long : length l.tops.items ≡ l.free + 1;
  items : l.tops.items ≡ map (free_top l.case l.weights) (range_with_len 0 (l.free + 1));
}
