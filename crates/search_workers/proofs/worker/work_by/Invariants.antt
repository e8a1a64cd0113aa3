use Rattle.std.proofs.Common.{◌≡◌, ◌-◌, ◌≤◌, length}
use Rattle.search_workers.specs.declared.limits.TheConstants.{MOST_REPORTED, MOST_TICKETS}
use Rattle.search_workers.specs.Crews.{AtWork}
use Rattle.search_workers.specs.Views.{desk_view}
use Rattle.search_workers.proofs.worker.work_by.Given as goal

abbrev pub invariant-draws : goal.invariant-draws
invariant-draws g l = record {
  seat : (l.seat.table_id ≡ l.fn.seat.table_id) × (l.seat.id ≡ l.fn.seat.id) × (l.seat.me.1 ≡ l.fn.seat.me.1);
  view : l.seat.me.0 ≡ desk_view l.seat.me.0.tickets l.nodes 1 0 l.rule.left l.fn.seat.me.0.workers;
  small : l.nodes ≤ MOST_REPORTED;
  work : AtWork l.case l.rule l.seat.me.0.tickets l.nodes l.best;
}

abbrev pub decreases-draws : goal.decreases-draws
decreases-draws g l = MOST_TICKETS - length l.seat.me.0.tickets
