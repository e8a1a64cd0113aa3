use Rattle.std.proofs.Common.{sym, arith}
use Rattle.std.specs.Int.{w32}
use Rattle.host_journal.specs.Reading.{number_at}
use Rattle.host_journal.proofs.Loop.{goes_on, ends, is_done}
use Rattle.host_journal.proofs.reading.numbers_of.Goals as goal

pub returns-in_err-number : goal.returns-in_err-number
returns-in_err-number g c = rw c.from_residual.ensures (ends (number_at w32) c.loop.numbers.items c.args.count c.loop.counter c.loop.rest.now _ c.loop-test.true (sym c.in_err-number.ensures) c.loop.invariant.0)

pub loop-preserved : goal.loop-preserved
loop-preserved g c = (
  rw c.push.ensures.items (goes_on (number_at w32) c.loop.numbers.items c.args.count c.loop.counter c.loop.rest.now c.in_ok-number.number c.in_ok-number.after.now _ c.loop-test.true (sym c.in_ok-number.ensures) c.loop.invariant.0),
  omega (arith, c.push.ensures.len, c.loop.invariant.1),
)

pub returns : goal.returns
returns g c = is_done (number_at w32) c.loop.numbers.items c.args.count c.loop.counter c.loop.rest.now _ c.loop-test.false c.loop.invariant.0
