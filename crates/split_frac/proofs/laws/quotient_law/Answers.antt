use Rattle.split_frac.proofs.Existing.{some_fraction}
use Rattle.split_frac.proofs.laws.quotient_law.Goals as goal

pub returns : goal.returns
returns c num den some = some_fraction num den some
