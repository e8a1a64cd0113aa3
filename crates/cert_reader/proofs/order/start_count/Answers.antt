use Rattle.std.proofs.Common.{arith, ◌∙◌}
use Rattle.std.proofs.lemmas.Nat.Bits.{bit_at-lt}
use Rattle.cert_reader.proofs.Starts.{start_with, start_without, starts_few}
use Rattle.cert_reader.proofs.order.start_count.Goals as goal
use Rattle.cert_reader.proofs.order.start_count.Goals.{then-set-bit-eq0, else-set-bit-eq0}

pub overflow_add-count : goal.overflow_add-count
overflow_add-count c =
    let few = starts_few c.loop-bit.bit c.args.set in
    let is = c.loop-bit.invariant in
    let test = c.loop-bit-test.true in
    let most = c.requires in
    omega arith

pub loop-bit-preserved : goal.loop-bit-preserved
loop-bit-preserved c = elim c.if-set-bit-eq0.branch [
  | then-set-bit-eq0 w ↦ w.count-is ∙ start_without c.loop-bit.bit c.args.set c.loop-bit.count w.if-set-bit-eq0.true c.loop-bit.invariant
  | else-set-bit-eq0 w ↦ w.count-is ∙ start_with c.loop-bit.bit c.args.set c.loop-bit.count w.if-set-bit-eq0.false (bit_at-lt c.args.set c.loop-bit.bit) c.loop-bit.invariant
]

pub returns-clause-small : goal.returns-clause-small
returns-clause-small c =
    let few = starts_few c.loop-bit.bit c.args.set in
    let is = c.loop-bit.invariant in
    let test = c.loop-bit-test.false in
    let end = c.loop-bit.auto.bit-end in
    omega arith
