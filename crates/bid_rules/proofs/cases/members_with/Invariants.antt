use Rattle.std.proofs.Common.{◌≡◌, ◌≤◌, length, take, is_some}
use Rattle.bid_rules.specs.Facts.{members_where}
use Rattle.bid_rules.proofs.cases.members_with.Given as goal

abbrev pub invariant-loop-k : goal.invariant-loop-k
invariant-loop-k g l = record {
  few : length l.who.items ≤ l.k;
  listed : l.who.items ≡ members_where is_some (take l.k l.bids);
}
