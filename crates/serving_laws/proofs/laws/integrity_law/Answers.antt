use Rattle.serving_laws.proofs.Accepted.{accepts}
use Rattle.serving_laws.proofs.Integral.{integral}
use Rattle.serving_laws.proofs.laws.integrity_law.Goals as goal

pub returns : goal.returns
returns g c w run new answered honest ready =
    integral c.machine_law.ensures.origin c.sameness_law.ensures.holder run w.1 new.1 ready (accepts g.D.Disk w run new answered honest)
