use Rattle.serving.specs.Served.{tells_of}
use Rattle.serving.specs.Serving.{host_service}
use Rattle.serving.proofs.Joining.{port_answered}
use Rattle.serving.proofs.laws.port_law.Goals as goal

pub returns : goal.returns
returns g c links answers w new run = port_answered (host_service g.D.Disk) (tells_of g.P.Link.Source g.P.Link.Sink) links answers w new run
