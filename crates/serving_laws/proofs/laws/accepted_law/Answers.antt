use Rattle.serving_laws.proofs.Accepted.{accepts}
use Rattle.serving_laws.proofs.laws.accepted_law.Goals as goal

pub returns : goal.returns
returns g c w run new answered honest = accepts g.D.Disk w run new answered honest
