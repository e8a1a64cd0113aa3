use Rattle.std.proofs.Common.{false, refl}
use Rattle.nash_bounds.specs.LeftOut.{is_after}
use Rattle.estate_bounds.proofs.Behind.{behind_if}
use Rattle.estate_bounds.proofs.ShownBounds.{shown_below}
use Rattle.estate_bounds.proofs.laws.weights_law.Goals as goal

pub returns-clause-below : goal.returns-clause-below
returns-clause-below c = λ case answer owners weights are limit h rest is. shown_below case answer owners weights rest false are limit h is

pub returns-clause-behind : goal.returns-clause-behind
returns-clause-behind c = λ case answer owners weights are limit h rest is.
    behind_if case answer owners rest (is_after answer owners) refl (shown_below case answer owners weights rest (is_after answer owners) are limit h is)
