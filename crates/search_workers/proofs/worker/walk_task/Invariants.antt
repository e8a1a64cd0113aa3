use Rattle.std.proofs.Common.{◌≡◌, ◌-◌, ◌≤◌, false}
use Rattle.nash_bounds.specs.Counted.{count_task}
use Rattle.nash_search.specs.Pieces.{IsTaskWalk}
use Rattle.search_workers.specs.declared.limits.TheConstants.{MOST_REPORTED}
use Rattle.search_workers.specs.Works.{walked_on}
use Rattle.search_workers.proofs.worker.walk_task.Given as goal

abbrev pub invariant-pieces : goal.invariant-pieces
invariant-pieces l = record {
  walk : IsTaskWalk l.case l.walk;
  task : l.walk.task ≡ l.task;
  floor : l.walk.floor ≡ l.rule.floor;
  above : l.walk.above ≡ l.rule.above;
  part : l.walk.nodes ≤ count_task l.case l.task l.rule.floor l.rule.above;
  seat : (l.seat.table_id ≡ l.fn.seat.table_id) × (l.seat.id ≡ l.fn.seat.id) × (l.seat.me.1 ≡ l.fn.seat.me.1);
  view : l.seat.me.0 ≡ walked_on l.fn.seat.me.0 l.walk.nodes false;
  small : l.seat.me.0.reported ≤ MOST_REPORTED;
}

abbrev pub decreases-pieces : goal.decreases-pieces
decreases-pieces l = count_task l.case l.task l.rule.floor l.rule.above - l.walk.nodes
