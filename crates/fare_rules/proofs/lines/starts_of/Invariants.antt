use Rattle.fare_rules.proofs.StartLists.{Upto}
use Rattle.fare_rules.proofs.lines.starts_of.Given as goal

abbrev pub invariant-loop-bit : goal.invariant-loop-bit
invariant-loop-bit l = Upto l.set l.bit l.starts.items
