use Rattle.std.proofs.Common.{rules, FitsSigned}
use Rattle.std.specs.Int.{w128}
use Rattle.std.proofs.lemmas.Int.{to_z-of_z}
use Rattle.split_frac.proofs.Lowest.{quotients_lowest, quotients_value, quotients_small}
use Rattle.split_frac.proofs.arithmetic.reduced.Goals as goal

pub invariant_of-result : goal.invariant_of-result
invariant_of-result c =
    let fits = c.ranges.num in
    let fits_q : FitsSigned w128 c.quotient.result = search rules in
    let is = simp to_z-of_z at c.unsigned_abs.ensures.value in
    let e = simp to_z-of_z at c.quotient.ensures in
    let both = quotients_lowest c.args.num c.quotient.result c.unsigned_abs.result c.args.den c.gcd-divisor.result is e c.requires.den c.gcd-divisor.ensures.positive c.gcd-divisor.ensures.gcd in
    simp to_z-of_z (record { positive = both.0; lowest = both.1 })

pub returns-clause-value : goal.returns-clause-value
returns-clause-value c =
    let fits = c.ranges.num in
    let fits_q : FitsSigned w128 c.quotient.result = search rules in
    let is = simp to_z-of_z at c.unsigned_abs.ensures.value in
    let e = simp to_z-of_z at c.quotient.ensures in
    simp to_z-of_z (quotients_value c.args.num c.quotient.result c.unsigned_abs.result c.args.den c.gcd-divisor.result is e c.gcd-divisor.ensures.gcd)

pub returns-clause-num : goal.returns-clause-num
returns-clause-num c =
    let fits = c.ranges.num in
    let fits_q : FitsSigned w128 c.quotient.result = search rules in
    let e = simp to_z-of_z at c.quotient.ensures in
    simp to_z-of_z (quotients_small c.args.num c.quotient.result c.gcd-divisor.result e)
