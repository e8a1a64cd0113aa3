use Rattle.std.proofs.Common.{◌≡◌, length}
use Rattle.goods_audit.specs.Paths.{IsPath, later_ones}
use Rattle.goods_audit.proofs.paths.Path.leave.Given as goal

abbrev pub invariant-full : goal.invariant-full
invariant-full l = record {
  path : IsPath l.case l.self;
  same : later_ones l.case l.self.owners.items ≡ later_ones l.case l.fn.self.owners.items;
}

abbrev pub decreases-full : goal.decreases-full
decreases-full l = length l.self.owners.items
