use Rattle.std.proofs.Common.{ltb, replicate, w16}
use lib.Lanes.{sel_l, zip2}
use Rattle.std.proofs.lemmas.Simd.{tops_compared}
use Rattle.nash_bounds.proofs.LaneVectors.{entries_chosen}
use Rattle.nash_bounds.proofs.vectors.entries_of.Goals as goal

pub returns : goal.returns
returns c =
    let levels = replicate 16 c.args.level in
    rw (tops_compared w16 ltb c.args.high levels, tops_compared w16 ltb (sel_l (zip2 ltb c.args.high levels) c.args.high levels) c.args.low)
    (entries_chosen c.args.level 16 c.args.low c.args.high c.fits-low.0 c.fits-high.0)
