use Rattle.std.proofs.Common.{refl}
use Rattle.split_top.proofs.program.execute.Goals as goal

pub returns-in-Serve-clause-came : goal.returns-in-Serve-clause-came
returns-in-Serve-clause-came g c = rw (c.in-Serve.is) (λ output. (record { dialer = refl; input = (refl, refl) }, c.serve_port.ensures.serves))

pub returns-in-Dump-clause-came : goal.returns-in-Dump-clause-came
returns-in-Dump-clause-came g c = rw (c.in-Dump.is) (λ output. (record { port = refl; clock = refl; dialer = refl; input = (refl, refl) }, c.dump.ensures.dumps))
