use Rattle.std.proofs.lemmas.List.{take_rest}
use Rattle.cert_reader.proofs.Cuts.{below_zero}
use Rattle.cert_reader.proofs.number.read_whole.Goals as goal

pub returns-then-token-eq45 : goal.returns-then-token-eq45
returns-then-token-eq45 c = below_zero c.read_below.result c.args.token.now _ c.if-token-gt0.true c.if-token-eq45.true (take_rest c.args.token.now 1) c.read_below.ensures
