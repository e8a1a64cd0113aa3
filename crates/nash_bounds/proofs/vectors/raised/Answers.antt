use Rattle.std.proofs.Common.{ltb, replicate, w16}
use Rattle.std.proofs.lemmas.Simd.{tops_compared}
use Rattle.nash_bounds.proofs.LaneProducts.{raised_chosen}
use Rattle.nash_bounds.proofs.vectors.raised.Goals as goal

pub returns : goal.returns
returns c = rw (tops_compared w16 ltb c.args.numbers (replicate 16 1)) (raised_chosen 16 c.args.numbers c.requires)
