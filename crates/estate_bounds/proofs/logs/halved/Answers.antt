use Rattle.std.proofs.Common.{arith}
use Rattle.estate_bounds.proofs.PowerFits.{is_halved, stays}
use Rattle.estate_bounds.proofs.logs.halved.Goals as goal

pub returns-then-power-lt-TWO : goal.returns-then-power-lt-TWO
returns-then-power-lt-TWO c = stays c.args.rounding c.args.power (let l = c.if-power-lt-TWO.true in omega arith)

pub returns : goal.returns
returns c = is_halved c.args.rounding c.args.power (let l = c.if-power-lt-TWO.false in omega arith)
