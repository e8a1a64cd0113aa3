use Rattle.std.proofs.Common.{refl}
use Rattle.nash_search.proofs.BlockEnds.{progress_start}
use Rattle.nash_search.proofs.progress.Progress.start.Goals as goal

pub returns-clause-progress : goal.returns-clause-progress
returns-clause-progress c =
    progress_start c.args.case.now _ (c.serving_law.ensures.begins c.args.case.now) (c.steps_law.ensures.none c.args.case.now) c.start_value.ensures refl refl refl
