use Rattle.serving_laws.proofs.Crashing.{acknowledges, since}
use Rattle.serving_laws.proofs.laws.acknowledged_law.Goals as goal

pub returns : goal.returns
returns g c w run new answered honest each = acknowledges g.D.Disk w run new answered honest (since g.D.Disk g.met.D.Disk.only_now w run new answered honest each)
