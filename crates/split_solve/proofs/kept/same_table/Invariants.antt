use Rattle.std.proofs.Common.{◌≡◌, take}
use Rattle.split_solve.proofs.kept.same_table.Given as goal

abbrev pub invariant-loop-values : goal.invariant-loop-values
invariant-loop-values l = l.copy.items ≡ take l.values-index l.values-items
