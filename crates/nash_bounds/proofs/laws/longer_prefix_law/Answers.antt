use Rattle.nash_bounds.proofs.LongerPrefixes.{may_have_falls, top_falls}
use Rattle.nash_bounds.proofs.laws.longer_prefix_law.Goals as goal

pub returns-clause-points : goal.returns-clause-points
returns-clause-points c = may_have_falls

pub returns-clause-top : goal.returns-clause-top
returns-clause-top c = top_falls
