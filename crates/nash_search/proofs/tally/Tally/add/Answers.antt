use Rattle.std.proofs.Common.{◌+◌, refl, subst, sym}
use Rattle.nash_bounds.specs.Counted.{count_task, counted_leaves, counted_of_tasks}
use Rattle.nash_search.specs.Best.{IsFoundBest}
use Rattle.nash_search.specs.Ends.{EndsTask}
use Rattle.nash_search.proofs.BlockEnds.{task_added, task_over}
use Rattle.nash_search.proofs.tally.Tally.add.Goals as goal

pub returns-in-Done : goal.returns-in-Done
returns-in-Done c = λ case floor above from n allowance few row end.
    let count = count_task case (from + n) floor above in
    let is = subst (EndsTask case count (counted_leaves case (from + n) floor above) _) c.in-Done.is end in
    let own = subst (IsFoundBest case (counted_of_tasks case floor above from n)) (sym c.take-own.ensures.value) row.found in
    task_added c.tasks_in_row_law.ensures.more c.tasks_in_row_law.ensures.more_counted case floor above from n allowance c.in-Done.nodes c.args.self.now
    (record { nodes = c.args.self.now.nodes + c.in-Done.nodes; best = c.better-self.result }) few row is.0 is.1 refl
    (c.better-self.ensures case (counted_of_tasks case floor above from n) (counted_leaves case (from + n) floor above) own is.2)

pub returns-in-Stopped : goal.returns-in-Stopped
returns-in-Stopped c = λ case floor above from n allowance few row end.
    let is = subst (EndsTask case (count_task case (from + n) floor above) (counted_leaves case (from + n) floor above) _) c.in-Stopped.is end in
    task_over c.tasks_in_row_law.ensures.more case floor above from n allowance c.in-Stopped.nodes c.args.self.now
    (record { nodes = c.args.self.now.nodes + c.in-Stopped.nodes; best = c.args.self.now.best }) few row is.0 is.1 refl
