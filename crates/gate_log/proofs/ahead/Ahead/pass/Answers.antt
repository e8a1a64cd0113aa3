use Rattle.std.proofs.Common.{ℕ, arith}
use Rattle.std.proofs.lemmas.List.{length-take, length-drop}
use Rattle.gate_log.proofs.Buffer.{passed}
use Rattle.gate_log.proofs.ahead.Ahead.pass.Goals as goal

pub returns : goal.returns
returns c =
    let a = c.args.self.now in
    passed a.piece a.from a.to c.args.count (omega (arith, length-take {A = ℕ}, length-drop {A = ℕ}))
