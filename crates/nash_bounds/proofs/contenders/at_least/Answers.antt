use Rattle.std.proofs.Common.{nat_le, w32}
use Rattle.std.proofs.lemmas.Simd.{tops_compared}
use Rattle.nash_bounds.proofs.LanePlaces.{bit_at}
use Rattle.nash_bounds.proofs.contenders.at_least.Goals as goal

pub returns : goal.returns
returns c = λ k l. rw (tops_compared w32 nat_le c.args.second c.args.first) (bit_at nat_le c.args.second c.args.first k c.requires.second c.requires.first l)
