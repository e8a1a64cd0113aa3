use Rattle.std.proofs.Common.{arith, refl, unsigned_abs}
use Rattle.std.specs.Int.{w128}
use Rattle.std.proofs.lemmas.Int.{to_z-of_z}
use Rattle.cert_reader.proofs.Cuts.{whole_lowest}
use Rattle.cert_reader.proofs.number.whole_fraction.Goals as goal

pub invariant_of-result : goal.invariant_of-result
invariant_of-result c = let fits = c.ranges.num in simp to_z-of_z (record { positive = omega arith; lowest = whole_lowest (unsigned_abs c.args.num) })

pub returns : goal.returns
returns c = (to_z-of_z w128 c.args.num c.ranges.num, refl)
