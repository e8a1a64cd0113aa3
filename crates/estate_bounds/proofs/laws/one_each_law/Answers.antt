use Rattle.estate_bounds.proofs.OneEach.{one_each}
use Rattle.estate_bounds.proofs.laws.one_each_law.Goals as goal

pub returns : goal.returns
returns c = one_each
