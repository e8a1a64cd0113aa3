use Rattle.std.proofs.Common.{length}
use Rattle.estate_judge.proofs.nearest.+nearest.Given as goal

abbrev pub decreases-nearest : goal.decreases-nearest
decreases-nearest g l = length l.above.now
