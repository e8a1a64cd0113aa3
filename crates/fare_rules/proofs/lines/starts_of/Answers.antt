use Rattle.std.proofs.Common.{◌+◌, ℕ, subst, sym}
use Rattle.fare_rules.specs.declared.lines.TheConstants.{START_ROOM}
use Rattle.arrayvec.specs.declared.array_vec.ArrayVec.{ArrayVec}
use Rattle.fare_rules.proofs.StartLists.{Upto, upto_with, upto_without}
use Rattle.fare_rules.proofs.lines.starts_of.Goals as goal
use Rattle.fare_rules.proofs.lines.starts_of.Goals.{then-set-bit-ne1, else-set-bit-ne1}

pub loop-bit-preserved : goal.loop-bit-preserved
loop-bit-preserved c = elim c.if-set-bit-ne1.branch [
  | then-set-bit-ne1 w ↦ subst (λ (o : ArrayVec ℕ START_ROOM (Unit {0})). Upto c.args.set (c.loop-bit.bit + 1) o.items) (sym w.starts-is)
      (upto_with c.args.set c.loop-bit.bit c.loop-bit.starts.items w.push-then-set-bit-ne1.new.self.items w.if-set-bit-ne1.true w.push-then-set-bit-ne1.ensures.items c.loop-bit.invariant)
  | else-set-bit-ne1 w ↦ subst (λ (o : ArrayVec ℕ START_ROOM (Unit {0})). Upto c.args.set (c.loop-bit.bit + 1) o.items) (sym w.starts-is)
      (upto_without c.args.set c.loop-bit.bit c.loop-bit.starts.items w.if-set-bit-ne1.false c.loop-bit.invariant)
]
