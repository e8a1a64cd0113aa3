use Rattle.std.proofs.Common.{Bool, Some, ap, ◌∙◌, true}
use Rattle.std.specs.Io.KnownBytes.{prepend_known}
use Rattle.split_base.specs.Clocks.{ClockRun}
use Rattle.serving.specs.Dues.{is_head}
use Rattle.serving.proofs.Finishing.{finish_held}
use Rattle.serving.proofs.Going.{counts_finished, head_quiet, head_served}
use Rattle.serving.proofs.Hearing.{due_to_refused, due_to_request}
use Rattle.serving.specs.Served.{with_carry, link_view, tells_of}
use Rattle.reply_texts.specs.Contents.{ContentView, content_view}
use Rattle.serving.specs.Serving.{StandsAt, due_of, host_service}
use Rattle.serving.proofs.Worlds.{responded}
use Rattle.serving.proofs.links.serve_head.Goals as goal

pub returns-in-Quiet-clause-says : goal.returns-in-Quiet-clause-says
returns-in-Quiet-clause-says g c w stands =
    let tells = tells_of g.L.Source g.L.Sink in
    head_quiet (host_service g.D.Disk) (with_carry c.args.carry.now (link_view tells c.args.link.now)) c.hear.new.carry (link_view tells c.hear.new.link)
    (ClockRun g.C.Clock.gives g.C.Clock.faults c.args.clock.now c.hear.new.clock) (StandsAt g.D.Disk c.args.serving.now c.args.disk.now) c.args.last w c.in-Quiet.end c.in-Quiet.ensures.says stands

pub returns-in-Quiet-clause-counts : goal.returns-in-Quiet-clause-counts
returns-in-Quiet-clause-counts g c = (c.in-Quiet.ensures.says.ending, c.in-Quiet.ensures.says.is_end, c.in-Quiet.ensures.says.counts)

pub returns-in-Refused-clause-says : goal.returns-in-Refused-clause-says
returns-in-Refused-clause-says g c w stands =
    let tells = tells_of g.L.Source g.L.Sink in
    let link = with_carry c.args.carry.now (link_view tells c.args.link.now) in
    let mid = with_carry c.hear.new.carry (link_view tells c.hear.new.link) in
    let now = link_view tells c.write_said.new.link in
    let asked = ClockRun g.C.Clock.gives g.C.Clock.faults c.args.clock.now c.hear.new.clock in
    let stand = StandsAt g.D.Disk c.args.serving.now c.args.disk.now in
    let due = due_of c.refusal_said.result c.in-Refused.answer c.in-Refused.bodiless true in
    head_served (host_service g.D.Disk) link mid c.hear.new.carry now asked stand c.args.last w due c.write_said.result (ap (prepend_known c.hear.new.carry) c.write_said.ensures.left)
    (due_to_refused (host_service g.D.Disk) link mid asked stand c.args.last w due c.in-Refused.refusal c.in-Refused.answer c.in-Refused.bodiless c.in-Refused.ensures.says stands
    (ap (λ (s : ContentView). record { said = s; manner = record { moment = c.in-Refused.answer; bodiless = c.in-Refused.bodiless; closes = true } }) c.refusal_said.ensures))
    (finish_held c.hear.new.carry (link_view tells c.hear.new.link) (link_view tells c.write_said.new.link) due c.write_said.result c.write_said.ensures.says)

pub returns-in-Refused-clause-counts : goal.returns-in-Refused-clause-counts
returns-in-Refused-clause-counts g c =
    let tells = tells_of g.L.Source g.L.Sink in
    counts_finished (link_view tells c.args.link.now) (link_view tells c.hear.new.link) (link_view tells c.write_said.new.link)
    (due_of c.refusal_said.result c.in-Refused.answer c.in-Refused.bodiless true) c.write_said.result c.in-Refused.ensures.says.counts c.write_said.ensures.says

pub returns-in-Request-clause-says : goal.returns-in-Request-clause-says
returns-in-Request-clause-says g c w stands =
    let tells = tells_of g.L.Source g.L.Sink in
    let link = with_carry c.args.carry.now (link_view tells c.args.link.now) in
    let mid = with_carry c.hear.new.carry (link_view tells c.hear.new.link) in
    let now = link_view tells c.write_said-in-Request.new.link in
    let asked = ClockRun g.C.Clock.gives g.C.Clock.faults c.args.clock.now c.hear.new.clock in
    let stand = StandsAt g.D.Disk c.respond-said.new.serving c.respond-said.new.disk in
    let head = c.in-Request.head in
    let moment = c.in-Request.moment in
    let said = content_view c.respond-said.result in
    let due = due_of c.respond-said.result (Some moment) c.is_head-bodiless.result c.closes.result in
    let (new, at, responds) =
    responded g.D.Disk c.respond-said.new.serving c.args.disk.now c.respond-said.new.disk w head c.in-Request.body.items c.deref.result.now moment said stands.0 c.deref.ensures.value
    (c.respond-said.ensures.responds w.1 stands.1) in
    head_served (host_service g.D.Disk) link mid c.hear.new.carry now asked stand c.args.last w due c.write_said-in-Request.result (ap (prepend_known c.hear.new.carry) c.write_said-in-Request.ensures.left)
    (due_to_request (host_service g.D.Disk) link mid asked stand c.args.last w due head c.in-Request.body.items moment new said c.in-Request.ensures.says at responds
    (ap (λ (b : Bool). record { said = said; manner = record { moment = Some moment; bodiless = b; closes = c.closes.result } }) c.is_head-bodiless.ensures
    ∙ ap (λ (b : Bool). record { said = said; manner = record { moment = Some moment; bodiless = is_head head.verb; closes = b } }) c.closes.ensures))
    (finish_held c.hear.new.carry (link_view tells c.hear.new.link) (link_view tells c.write_said-in-Request.new.link) due c.write_said-in-Request.result c.write_said-in-Request.ensures.says)

pub returns-in-Request-clause-counts : goal.returns-in-Request-clause-counts
returns-in-Request-clause-counts g c =
    let tells = tells_of g.L.Source g.L.Sink in
    counts_finished (link_view tells c.args.link.now) (link_view tells c.hear.new.link) (link_view tells c.write_said-in-Request.new.link)
    (due_of c.respond-said.result (Some c.in-Request.moment) c.is_head-bodiless.result c.closes.result) c.write_said-in-Request.result c.in-Request.ensures.says.counts c.write_said-in-Request.ensures.says
