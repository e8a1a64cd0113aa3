use Rattle.std.proofs.Common.{◌+◌, sym, arith}
use Rattle.host_journal.specs.Reading.{row_at}
use Rattle.host_journal.proofs.Loop.{goes_on, ends, is_done}
use Rattle.host_journal.proofs.reading.rows_of.Goals as goal

pub returns-in_err-row : goal.returns-in_err-row
returns-in_err-row c = rw c.from_residual.ensures (ends (row_at c.args.places) c.loop.rows.items (c.args.places + 1) c.loop.counter c.loop.rest.now _ c.loop-test.true (sym c.in_err-row.ensures) c.loop.invariant.0)

pub loop-preserved : goal.loop-preserved
loop-preserved c = (
  rw c.push.ensures.items (goes_on (row_at c.args.places) c.loop.rows.items (c.args.places + 1) c.loop.counter c.loop.rest.now c.in_ok-row.row c.in_ok-row.after.now _ c.loop-test.true (sym c.in_ok-row.ensures) c.loop.invariant.0),
  omega (arith, c.push.ensures.len, c.loop.invariant.1),
)

pub returns : goal.returns
returns c = is_done (row_at c.args.places) c.loop.rows.items (c.args.places + 1) c.loop.counter c.loop.rest.now _ c.loop-test.false c.loop.invariant.0
