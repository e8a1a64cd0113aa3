use Rattle.std.proofs.Common.{refl}
use Rattle.serving.proofs.Finishing.{ends_behind}
use Rattle.serving.specs.Served.{link_view, tells_of}
use Rattle.serving.specs.Serving.{due_of}
use Rattle.serving.proofs.replies.write_said.Goals as goal

pub returns-clause-says : goal.returns-clause-says
returns-clause-says g c = c.finish.ensures.says (due_of c.args.said.now c.args.moment c.args.bodiless c.args.closes) c.reply_of-reply.ensures.tells refl

pub returns-clause-closed : goal.returns-clause-closed
returns-clause-closed g c closed =
    let tells = tells_of g.L.Source g.L.Sink in
    let due = due_of c.args.said.now c.args.moment c.args.bodiless c.args.closes in
    ends_behind (link_view tells c.args.link.now) (link_view tells c.finish.new.link) due c.finish.result (c.finish.ensures.says due c.reply_of-reply.ensures.tells refl) closed
