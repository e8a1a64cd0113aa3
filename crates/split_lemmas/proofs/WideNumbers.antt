-- Signed numbers of 128 bits, as the code keeps them.
use Rattle.std.proofs.Common.{◌≡◌, ◌<◌, ◌^◌, ℤ, arith, unsigned_abs, to_z, of_z, FitsSigned}
use Rattle.std.specs.Int.{w128}
use Rattle.std.proofs.lemmas.Int.{ints}

-- A number of at most 127 bits is kept whole.
pub kept_whole : (z : ℤ) → unsigned_abs z < 2 ^ 127 → to_z w128 (of_z w128 z) ≡ z
kept_whole z small = omega (arith, ints)

pub fits_whole : (z : ℤ) → unsigned_abs z < 2 ^ 127 → FitsSigned w128 z
fits_whole z small = omega (arith, ints)
