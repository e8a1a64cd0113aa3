use Rattle.std.proofs.Common.{refl}
use Rattle.nash_search.proofs.BlockEnds.{row_start}
use Rattle.nash_search.proofs.tally.Tally.new.Goals as goal

pub returns-clause-row : goal.returns-clause-row
returns-clause-row c = λ case floor above from.
    row_start case floor above from _ (c.tasks_in_row_law.ensures.none case floor above from) (c.tasks_in_row_law.ensures.none_counted case floor above from) refl refl
