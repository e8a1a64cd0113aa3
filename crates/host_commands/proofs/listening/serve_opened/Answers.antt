use Rattle.serving.specs.Served.{tells_of}
use Rattle.host_commands.specs.Serves.{Listens}
use Rattle.host_commands.proofs.Listened.{was_cut, was_served}
use Rattle.host_commands.proofs.listening.serve_opened.Given.{Over}
use Rattle.host_commands.proofs.listening.serve_opened.Goals as goal
use Rattle.host_commands.proofs.listening.serve_opened.Goals.{After-serve}

listens : (g : Over) (c : After-serve g) → Listens g.P.Port c.args.number c.args.port.now c.listen.new.self
listens g c = record {
  asked = c.listen.ensures.asked;
  still = c.in-Ok.ensures.count;
  none = record { come = c.listen.ensures.come; back = c.listen.ensures.back; places = c.listen.ensures.places; ended = c.listen.ensures.stays };
}

pub returns-in-Err-serve-clause-serves : goal.returns-in-Err-serve-clause-serves
returns-in-Err-serve-clause-serves g c w stands =
    was_cut g.D.Disk g.P.Port (tells_of g.P.Link.Source g.P.Link.Sink) g.C.Clock w c.args.number c.args.port.now c.listen.new.self (listens g (goal.at.returns-in-Err-serve-clause-serves g c).After-serve)
    c.serve.new.disk c.serve.new.port c.args.clock.now c.serve.new.clock c.args.count c.serve.new.serving c.serve.result
    c.in-Err-serve.field-0 c.in-Err-serve.is c.serve.ensures.cause c.serve.ensures.counted (c.serve.ensures.run w stands)

pub returns-clause-serves : goal.returns-clause-serves
returns-clause-serves g c w stands =
    was_served g.D.Disk g.P.Port (tells_of g.P.Link.Source g.P.Link.Sink) g.C.Clock w c.args.number c.args.port.now c.listen.new.self (listens g (goal.at.returns-clause-serves g c).After-serve)
    c.serve.new.disk c.serve.new.port c.args.clock.now c.serve.new.clock c.args.count c.serve.new.serving c.serve.result
    c.in-Ok-serve.served _ c.in-Ok-serve.is c.served.ensures c.serve.ensures.counted c.in-Ok-serve.ensures.most c.in-Ok-serve.ensures.few (c.serve.ensures.run w stands)
