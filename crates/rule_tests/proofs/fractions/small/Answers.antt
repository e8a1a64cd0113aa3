use Rattle.std.proofs.Common.{arith}
use Rattle.std.proofs.lemmas.Int.{ints}
use Rattle.std.proofs.lemmas.Nat.Gcd.{le_of_dvd}
use Rattle.rule_tests.proofs.fractions.small.Goals as goal

pub returns-clause-num : goal.returns-clause-num
returns-clause-num c =
    let range = c.ranges.num in
    let size = c.value_law.ensures.size c.make.result _ _ c.requires c.make.ensures.value in
    omega (arith, ints, size)

pub returns-clause-den : goal.returns-clause-den
returns-clause-den c =
    let range = c.ranges.den.fits in
    let size = le_of_dvd c.requires (c.value_law.ensures.divides c.make.result _ _ c.make.ensures.value) in
    omega (arith, size)
