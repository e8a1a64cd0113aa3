use Rattle.std.proofs.Common.{◌≡◌, length}
use Rattle.bid_rules.specs.Goods.{AreOwners}
use Rattle.estate_search.proofs.tables.all_to_first.Given as goal

abbrev pub invariant-loop-good : goal.invariant-loop-good
invariant-loop-good l = record {
  each : length l.owners.items ≡ l._good;
  owned : AreOwners l.case l.owners.items;
}
