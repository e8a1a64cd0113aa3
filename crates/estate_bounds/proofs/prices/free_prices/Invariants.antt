use Rattle.std.proofs.Common.{◌≡◌, ◌+◌, ◌*◌, ◌≤◌, All, length, map}
use Rattle.std.specs.List.{range_with_len}
use Rattle.bid_rules.specs.declared.limits.TheConstants.{ITEM_ROOM}
use Rattle.estate_bounds.specs.Prices.{free_price}
use Rattle.estate_bounds.specs.declared.limits.TheConstants.{MOST_PAYMENT}
use Rattle.estate_bounds.proofs.prices.free_prices.Given as goal

abbrev pub invariant-loop-free : goal.invariant-loop-free
invariant-loop-free l = record {
  small : l.top ≤ MOST_PAYMENT * l.free;
  top : l.top ≡ free_price l.case l.rates l.fees l.free;
  all : All (λ top. top ≤ MOST_PAYMENT * ITEM_ROOM) l.tops.items;
  long : length l.tops.items ≡ l.free + 1;
  items : l.tops.items ≡ map (free_price l.case l.rates l.fees) (range_with_len 0 (l.free + 1));
}
