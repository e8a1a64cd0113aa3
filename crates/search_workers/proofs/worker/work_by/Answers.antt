use Rattle.std.proofs.Common.{◌≡◌, ◌+◌, ◌*◌, ◌<◌, ◌++◌, [], ◌∷◌, ap, sym, ◌∙◌, subst, arith, rules, length}
use Rattle.std.proofs.lemmas.List.{length_push}
use Rattle.nash_bounds.specs.Blocks.{tasks_in}
use Rattle.nash_bounds.specs.Counted.{counted_leaves}
use Rattle.nash_bounds.specs.declared.limits.TheConstants.{BLOCK_TASKS}
use Rattle.search_workers.specs.declared.view.DeskView.{DeskView}
use Rattle.search_workers.specs.Plays.{SeatState}
use Rattle.search_workers.specs.Crews.{AtWork}
use Rattle.search_workers.specs.Works.{HasWhole, counted_of_tickets}
use Rattle.search_workers.proofs.DrawnTickets.{few_drawn, work_ended, work_more}
use Rattle.search_workers.proofs.worker.work_by.Goals as goal

pub returns-then-ticket-from-clause-whole : goal.returns-then-ticket-from-clause-whole
returns-then-ticket-from-clause-whole g c =
    let t = c.draw-ticket.result in
    let rule = c.args.rule.now in
    let d = c.draws in
    let is : c.draw-ticket.new.seat.me.0.tickets ≡ d.seat.me.0.tickets ++ t ∷ [] = ap (λ (m : SeatState). m.0.tickets) c.draw-ticket.ensures.view in
    let past = c.if-ticket-from.true in
    let from = c.from.ensures in
    let tasks = c.tasks_in_block-tasks.ensures.tasks in
    λ _. subst (λ xs. HasWhole c.args.case.now rule.floor rule.above rule.block xs d.nodes d.best) (sym is)
    (work_ended c.args.case.now rule t d.nodes d.best d.seat.me.0.tickets d.invariant.work (omega (arith, past, from, tasks)))

pub draws-smaller : goal.draws-smaller
draws-smaller g c =
    let p = c.walk_gated-walked in
    let d = c.draws in
    let is : p.new.seat.me.0.tickets ≡ d.seat.me.0.tickets ++ c.draw-ticket.result ∷ [] = ap (λ (v : DeskView). v.tickets) p.ensures.view ∙ ap (λ (m : SeatState). m.0.tickets) c.draw-ticket.ensures.view in
    let few = few_drawn c.args.case.now c.args.rule.now d.seat.me.0.tickets d.nodes d.best d.invariant.work in
    let long = ap length is ∙ length_push d.seat.me.0.tickets c.draw-ticket.result in
    omega (arith, few, long)

pub draws-preserved : goal.draws-preserved
draws-preserved g c =
    let t = c.draw-ticket.result in
    let rule = c.args.rule.now in
    let d = c.draws in
    let p = c.walk_gated-walked in
    let is : p.new.seat.me.0.tickets ≡ d.seat.me.0.tickets ++ t ∷ [] = ap (λ (v : DeskView). v.tickets) p.ensures.view ∙ ap (λ (m : SeatState). m.0.tickets) c.draw-ticket.ensures.view in
    let below = c.if-ticket-from.false in
    let from = c.from.ensures in
    let tasks = c.tasks_in_block-tasks.ensures.tasks in
    let inside : t < tasks_in c.args.case.now rule.block = omega (arith, below, from, tasks) in
    let whole = p.ensures.whole c.if-walked.false in
    record {
      seat = search rules;
      view = search rules;
      small = search rules;
      work = subst (λ xs. AtWork c.args.case.now rule xs (d.nodes + p.result.nodes) c.better-best.result) (sym is)
          (work_more c.args.case.now rule t d.nodes p.result.nodes d.best c.better-best.result d.seat.me.0.tickets d.invariant.work c.draw-ticket.ensures.above inside whole.0
          (c.better-best.ensures c.args.case.now (counted_of_tickets c.args.case.now rule.floor rule.above rule.block d.seat.me.0.tickets)
          (counted_leaves c.args.case.now (BLOCK_TASKS * rule.block + t) rule.floor rule.above) d.invariant.work.found whole.1));
    }
