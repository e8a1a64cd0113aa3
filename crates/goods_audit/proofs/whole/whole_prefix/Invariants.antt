use Rattle.std.proofs.Common.{◌≡◌, take}
use Rattle.nash_bounds.specs.Prefixes.{HasBound, IsPrefix}
use Rattle.goods_audit.proofs.whole.whole_prefix.Given as goal

abbrev pub invariant-loop-k : goal.invariant-loop-k
invariant-loop-k l = record {
  is_prefix : IsPrefix l.case l.prefix;
  has_bound : HasBound l.prefix;
  owners : l.prefix.owners.items ≡ take l.k l.owners;
}
