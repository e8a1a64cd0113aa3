use Rattle.std.proofs.Common.{◌≡◌, All, length, map, take}
use Rattle.bid_rules.specs.Cents.{prices_by_member}
use Rattle.envy_check.specs.Envy.{IsAmount}
use Rattle.split_frac.specs.Frac.{fraction_of}
use Rattle.certificates.proofs.payments.prices_of_members.Given as goal

abbrev pub invariant-loop-room : goal.invariant-loop-room
invariant-loop-room l = record {
  count : length l.amounts.items ≡ l.room-index;
  so_far : map fraction_of l.amounts.items ≡ prices_by_member (take l.room-index l.rooms) (map fraction_of l.prices);
  amounts : All IsAmount l.amounts.items;
}
