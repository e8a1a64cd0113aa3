use Rattle.std.proofs.Common.{◌≡◌, ◌+◌, ap, ◌∙◌, sym, subst, arith}
use Rattle.search_workers.specs.Crews.{AccountsFor}
use Rattle.search_workers.specs.Views.{sum_of_views}
use Rattle.search_workers.proofs.WorkersEnd.{neither, one_of, stands_join}
use Rattle.search_workers.proofs.crew.join_workers.Goals as goal

pub returns : goal.returns
returns c =
    let a = c.args in
    let one = c.requires.one in
    let other = c.requires.other in
    let now = c.join_desk.ensures.view in
    let walked = c.join_walked.ensures in
    let view : c.join_desk.new.seat.me.0 ≡ sum_of_views a.one.seat.me.0 a.other.seat.me.0 = ap (λ m. m.0) now in
    let stops = ap (λ v. v.stops) view in
    let reported = ap (λ v. v.reported) view in
    let nodes = walked.nodes in
    let r = one.reported in
    let q = other.reported in
    let few = one.few in
    let few' = other.few in
    record {
      seat = c.join_desk.ensures.seat.0 ∙ one.seat;
      slots = ap (λ m. m.1) now ∙ one.slots;
      stands = subst (λ v. AccountsFor a.case.now a.rule.now a.workers (a.stands + 1) v c.join_walked.result.best) (sym view)
          (stands_join a.case.now a.rule.now a.workers a.stands 1 a.one.walked.best a.other.walked.best c.join_walked.result.best a.one.seat.me.0 a.other.seat.me.0 one.stands other.stands
          (walked.best a.case.now));
      reported = omega (arith, reported, nodes, r, q);
      few = omega (arith, nodes, few, few');
      going = λ h. neither a.one.walked.stopped a.other.walked.stopped a.one.seat.me.0.stops a.other.seat.me.0.stops c.join_desk.new.seat.me.0.stops stops one.going other.going (sym walked.stopped ∙ h);
      stopped = λ h. one_of a.one.walked.stopped a.other.walked.stopped a.one.seat.me.0.stops a.other.seat.me.0.stops c.join_desk.new.seat.me.0.stops stops one.stopped other.stopped (sym walked.stopped ∙ h);
    }
