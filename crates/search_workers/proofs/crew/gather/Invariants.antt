use Rattle.std.proofs.Common.{◌≡◌, ◌+◌, ◌≤◌, All, length}
use Rattle.search_workers.specs.Crews.{HasEnded}
use Rattle.search_workers.proofs.crew.gather.Given as goal

abbrev pub invariant-joins : goal.invariant-joins
invariant-joins l = record {
  all : HasEnded l.case l.rule l.desk.shared.table_id l.workers l.stands l.all;
  others : All (HasEnded l.case l.rule l.desk.shared.table_id l.workers 1) l.crew.items;
  count : l.stands + length l.crew.items ≡ l.workers;
  some : 1 ≤ l.stands;
}

abbrev pub decreases-joins : goal.decreases-joins
decreases-joins l = goal.left-joins l
