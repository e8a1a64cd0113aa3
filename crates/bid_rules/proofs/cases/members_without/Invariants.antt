use Rattle.std.proofs.Common.{◌≡◌, ◌≤◌, length, take, is_none}
use Rattle.bid_rules.specs.Facts.{members_where}
use Rattle.bid_rules.proofs.cases.members_without.Given as goal

abbrev pub invariant-loop-k : goal.invariant-loop-k
invariant-loop-k l = record {
  few : length l.missing.items ≤ l.k;
  listed : l.missing.items ≡ members_where is_none (take l.k l.bids);
}
