use Rattle.std.proofs.Common.{sym}
use Rattle.serving.proofs.Finishing.{finished, torn}
use Rattle.serving.specs.Served.{link_view, tells_of}
use Rattle.serving.proofs.writing.finish.Goals as goal

pub returns-in-Err-clause-says : goal.returns-in-Err-clause-says
returns-in-Err-clause-says g c due tells memory =
    let says = tells_of g.L.Source g.L.Sink in
    torn (link_view says c.args.link.now) (link_view says c.write_reply.new.sink) due c.args.reply.now tells c.in-Err.ensures.part
    ((c.sides_law.ensures.write c.args.link.now c.write_reply.new.sink c.write_reply.ensures.beside).1, c.in-Err.ensures.count, c.in-Err.ensures.empty)

pub returns-in-Ok-clause-says : goal.returns-in-Ok-clause-says
returns-in-Ok-clause-says g c due tells memory =
    let says = tells_of g.L.Source g.L.Sink in
    finished (link_view says c.args.link.now) (link_view says c.write_reply.new.sink) due c.args.reply.now tells c.end_behind.result
    (c.end_behind.ensures due (sym tells.close) memory) c.in-Ok.ensures.whole
    ((c.sides_law.ensures.write c.args.link.now c.write_reply.new.sink c.write_reply.ensures.beside).1, c.in-Ok.ensures.count, c.in-Ok.ensures.empty)
