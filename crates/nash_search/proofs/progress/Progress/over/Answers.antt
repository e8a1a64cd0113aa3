use Rattle.std.proofs.Common.{refl}
use Rattle.nash_bounds.specs.Steps.{step_count}
use Rattle.nash_search.proofs.BlockEnds.{block_over}
use Rattle.nash_search.proofs.progress.Progress.over.Goals as goal

pub returns : goal.returns
returns c = record {
  is_limit = refl;
  above = (
    step_count c.args.case.now c.args.self.now.floor,
    (c.args.self.now.floor, c.requires.progress.start, refl),
    block_over c.serving_law.ensures.counts c.steps_law.ensures.rises c.args.case.now c.args.self.now c.requires.progress c.requires.block c.requires.over,
  );
}
