use Rattle.serving_laws.proofs.Crashing.{since}
use Rattle.serving_laws.proofs.laws.crash_law.Goals as goal

pub returns : goal.returns
returns g c w run new answered honest each = since g.D.Disk g.met.D.Disk.only_now w run new answered honest each
