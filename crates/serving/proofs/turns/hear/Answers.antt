use Rattle.std.proofs.Common.{refl, None, Some, false}
use Rattle.split_base.specs.Clocks.{ClockRun}
use Rattle.serving.specs.declared.refusals.HeadRefusal.TheVariants as refusals
use Rattle.serving.proofs.Hearing.{head_text, heard_bad, heard_body_fault, heard_cut, heard_end, heard_fault, heard_late, heard_memory, heard_no_room, heard_request, heard_stated}
use Rattle.serving.specs.Served.{with_carry, link_view, tells_of}
use Rattle.serving.proofs.RefusedHeads.{says_refused}
use Rattle.serving.proofs.turns.hear.Goals as goal

pub returns-in-End-clause-says : goal.returns-in-End-clause-says
returns-in-End-clause-says g c =
    let tells = tells_of g.L.Source g.L.Sink in
    let link = with_carry c.args.carry.now (link_view tells c.args.link.now) in
    let mid = link_view tells c.turn.new.link in
    let asked = ClockRun g.C.Clock.gives g.C.Clock.faults c.args.clock.now c.args.clock.now in
    heard_end link mid asked c.in-End.ensures.written c.in-End.ensures.says.1 (c.in-End.ensures.count, c.in-End.ensures.writes, c.in-End.ensures.empty) refl

pub returns-in-LinkFault-clause-says : goal.returns-in-LinkFault-clause-says
returns-in-LinkFault-clause-says g c =
    let tells = tells_of g.L.Source g.L.Sink in
    let link = with_carry c.args.carry.now (link_view tells c.args.link.now) in
    let mid = link_view tells c.turn.new.link in
    let asked = ClockRun g.C.Clock.gives g.C.Clock.faults c.args.clock.now c.args.clock.now in
    heard_fault link mid asked c.in-LinkFault.ensures.written c.turn.new.carry c.in-LinkFault.ensures.says (c.in-LinkFault.ensures.held refl)
    (c.in-LinkFault.ensures.count, c.in-LinkFault.ensures.writes, c.in-LinkFault.ensures.empty) refl

pub returns-in-BadHead-clause-says : goal.returns-in-BadHead-clause-says
returns-in-BadHead-clause-says g c =
    let tells = tells_of g.L.Source g.L.Sink in
    let link = with_carry c.args.carry.now (link_view tells c.args.link.now) in
    let mid = with_carry c.turn.new.carry (link_view tells c.turn.new.link) in
    let asked = ClockRun g.C.Clock.gives g.C.Clock.faults c.args.clock.now c.ask.new.clock in
    says_refused link c.turn.new.carry (link_view tells c.turn.new.link) asked c.refused.result refusals.BadHead c.ask.result false c.refused.ensures
    (heard_bad link mid asked c.in-BadHead.ensures.written c.in-BadHead.ensures.says.1 (c.in-BadHead.ensures.count, c.in-BadHead.ensures.writes, c.in-BadHead.ensures.empty) c.ask.result c.ask.ensures.asked)

pub returns-in-NoMemory-clause-says : goal.returns-in-NoMemory-clause-says
returns-in-NoMemory-clause-says g c =
    let tells = tells_of g.L.Source g.L.Sink in
    let link = with_carry c.args.carry.now (link_view tells c.args.link.now) in
    let mid = with_carry c.turn.new.carry (link_view tells c.turn.new.link) in
    let asked = ClockRun g.C.Clock.gives g.C.Clock.faults c.args.clock.now c.ask-in-NoMemory.new.clock in
    says_refused link c.turn.new.carry (link_view tells c.turn.new.link) asked c.refused-in-NoMemory.result refusals.Memory c.ask-in-NoMemory.result c.is_head.result c.refused-in-NoMemory.ensures
    (heard_memory link mid asked c.in-NoMemory.ensures.written c.in-NoMemory.verb c.in-NoMemory.ensures.says.1 (c.in-NoMemory.ensures.count, c.in-NoMemory.ensures.writes, c.in-NoMemory.ensures.empty) c.ask-in-NoMemory.result c.ask-in-NoMemory.ensures.asked
    c.is_head.result c.is_head.ensures)

pub returns-in-None-clause-says : goal.returns-in-None-clause-says
returns-in-None-clause-says g c =
    let tells = tells_of g.L.Source g.L.Sink in
    let link = with_carry c.args.carry.now (link_view tells c.args.link.now) in
    let mid = with_carry c.turn.new.carry (link_view tells c.turn.new.link) in
    let asked = ClockRun g.C.Clock.gives g.C.Clock.faults c.args.clock.now c.ask-in-Head.new.clock in
    says_refused link c.turn.new.carry (link_view tells c.turn.new.link) asked c.refused-in-None.result refusals.ClockFault None c.is_head-in-None.result c.refused-in-None.ensures
    (heard_late link mid asked c.in-Head.ensures.written c.in-Head.head (head_text _ _ c.in-Head.head c.in-Head.ensures.says) (c.in-Head.ensures.count, c.in-Head.ensures.writes, c.in-Head.ensures.empty) c.in-None.ensures.asked
    c.is_head-in-None.result c.is_head-in-None.ensures)

pub returns-in-Refused-clause-says : goal.returns-in-Refused-clause-says
returns-in-Refused-clause-says g c =
    let tells = tells_of g.L.Source g.L.Sink in
    let link = with_carry c.args.carry.now (link_view tells c.args.link.now) in
    let mid = with_carry c.turn.new.carry (link_view tells c.turn.new.link) in
    let now = with_carry c.next_body.new.carry (link_view tells c.next_body.new.link) in
    let asked = ClockRun g.C.Clock.gives g.C.Clock.faults c.args.clock.now c.ask-in-Head.new.clock in
    let says = c.in-Refused.ensures.says in
    says_refused link c.next_body.new.carry (link_view tells c.next_body.new.link) asked c.refused-in-Refused.result (refusals.Stated c.in-Refused.row) (Some c.in-Some.moment) c.is_head-in-Refused.result c.refused-in-Refused.ensures
    (heard_stated link mid now asked c.in-Head.head c.in-Some.moment (head_text _ _ c.in-Head.head c.in-Head.ensures.says) c.in-Head.ensures.written
    (c.in-Head.ensures.count, c.in-Head.ensures.writes, c.in-Head.ensures.empty) c.in-Some.ensures.asked
    c.in-Refused.row says.0 says.1 says.2 (c.in-Refused.ensures.counts.0, c.in-Refused.ensures.counts.1, c.in-Refused.ensures.empty) c.is_head-in-Refused.result c.is_head-in-Refused.ensures)

pub returns-in-NoMemory-next_body-clause-says : goal.returns-in-NoMemory-next_body-clause-says
returns-in-NoMemory-next_body-clause-says g c =
    let tells = tells_of g.L.Source g.L.Sink in
    let link = with_carry c.args.carry.now (link_view tells c.args.link.now) in
    let mid = with_carry c.turn.new.carry (link_view tells c.turn.new.link) in
    let now = with_carry c.next_body.new.carry (link_view tells c.next_body.new.link) in
    let asked = ClockRun g.C.Clock.gives g.C.Clock.faults c.args.clock.now c.ask-in-Head.new.clock in
    let says = c.in-NoMemory-next_body.ensures.says in
    says_refused link c.next_body.new.carry (link_view tells c.next_body.new.link) asked c.refused-in-NoMemory-next_body.result refusals.Memory (Some c.in-Some.moment) c.is_head-in-NoMemory-next_body.result c.refused-in-NoMemory-next_body.ensures
    (heard_no_room link mid now asked c.in-Head.head c.in-Some.moment (head_text _ _ c.in-Head.head c.in-Head.ensures.says) c.in-Head.ensures.written
    (c.in-Head.ensures.count, c.in-Head.ensures.writes, c.in-Head.ensures.empty) c.in-Some.ensures.asked
    says.0 says.1 says.2 says.3 (c.in-NoMemory-next_body.ensures.counts.0, c.in-NoMemory-next_body.ensures.counts.1, c.in-NoMemory-next_body.ensures.empty) c.is_head-in-NoMemory-next_body.result c.is_head-in-NoMemory-next_body.ensures)

pub returns-in-Cut-clause-says : goal.returns-in-Cut-clause-says
returns-in-Cut-clause-says g c =
    let tells = tells_of g.L.Source g.L.Sink in
    let link = with_carry c.args.carry.now (link_view tells c.args.link.now) in
    let mid = with_carry c.turn.new.carry (link_view tells c.turn.new.link) in
    let now = link_view tells c.next_body.new.link in
    let asked = ClockRun g.C.Clock.gives g.C.Clock.faults c.args.clock.now c.ask-in-Head.new.clock in
    let says = c.in-Cut.ensures.says in
    heard_cut link mid now asked c.in-Head.head c.in-Some.moment (head_text _ _ c.in-Head.head c.in-Head.ensures.says) c.in-Head.ensures.written
    (c.in-Head.ensures.count, c.in-Head.ensures.writes, c.in-Head.ensures.empty) c.in-Some.ensures.asked
    says.0 says.1.0 says.1.1 says.1.2 says.2 (c.in-Cut.ensures.counts.0, c.in-Cut.ensures.counts.1, c.in-Cut.ensures.empty)

pub returns-in-LinkFault-next_body-clause-says : goal.returns-in-LinkFault-next_body-clause-says
returns-in-LinkFault-next_body-clause-says g c =
    let tells = tells_of g.L.Source g.L.Sink in
    let link = with_carry c.args.carry.now (link_view tells c.args.link.now) in
    let mid = with_carry c.turn.new.carry (link_view tells c.turn.new.link) in
    let now = link_view tells c.next_body.new.link in
    let asked = ClockRun g.C.Clock.gives g.C.Clock.faults c.args.clock.now c.ask-in-Head.new.clock in
    let says = c.in-LinkFault-next_body.ensures.says in
    heard_body_fault link mid now asked c.in-Head.head c.in-Some.moment (head_text _ _ c.in-Head.head c.in-Head.ensures.says) c.in-Head.ensures.written
    (c.in-Head.ensures.count, c.in-Head.ensures.writes, c.in-Head.ensures.empty) c.in-Some.ensures.asked
    c.next_body.new.carry says.0 c.in-LinkFault-next_body.ensures.counts c.in-LinkFault-next_body.ensures.empty

pub returns-in-Body-clause-says : goal.returns-in-Body-clause-says
returns-in-Body-clause-says g c =
    let tells = tells_of g.L.Source g.L.Sink in
    let link = with_carry c.args.carry.now (link_view tells c.args.link.now) in
    let mid = with_carry c.turn.new.carry (link_view tells c.turn.new.link) in
    let now = with_carry c.next_body.new.carry (link_view tells c.next_body.new.link) in
    let asked = ClockRun g.C.Clock.gives g.C.Clock.faults c.args.clock.now c.ask-in-Head.new.clock in
    let says = c.in-Body.ensures.says in
    heard_request link mid now asked c.in-Head.head c.in-Some.moment (head_text _ _ c.in-Head.head c.in-Head.ensures.says) c.in-Head.ensures.written
    (c.in-Head.ensures.count, c.in-Head.ensures.writes, c.in-Head.ensures.empty) c.in-Some.ensures.asked
    c.in-Body.body.items says.0 says.1 says.2 says.3 (c.in-Body.ensures.counts.0, c.in-Body.ensures.counts.1, c.in-Body.ensures.empty)
