use Rattle.estate_bounds.proofs.Shortages.{count_limit}
use Rattle.estate_bounds.proofs.laws.count_law.Goals as goal

pub returns : goal.returns
returns c = count_limit
