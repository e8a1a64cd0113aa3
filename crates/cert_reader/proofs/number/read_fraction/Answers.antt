use Rattle.std.proofs.Common.{arith, sym, ◌∙◌, FitsSigned, rules}
use Rattle.std.specs.Int.{w128}
use Rattle.std.proofs.lemmas.Int.{to_z-of_z}
use Rattle.cert_reader.proofs.Cuts.{fraction_found, decimal_apart}
use Rattle.cert_reader.proofs.number.read_fraction.Goals as goal

pub returns-then-den-lt-LEAST_DENOMINATOR : goal.returns-then-den-lt-LEAST_DENOMINATOR
returns-then-den-lt-LEAST_DENOMINATOR c f number high front back =
    let small = number.small in
    let den = c.in-Some-read_digits.ensures in
    let same = decimal_apart f.1 c.in-Some-read_digits.den (omega arith) den.0 (sym back ∙ den.1) in
    omega (arith, c.then-den-lt-LEAST_DENOMINATOR.either)

pub returns : goal.returns
returns c =
    let fits : FitsSigned w128 c.in-Some.num = search rules in
    fraction_found c.read_lowest.result c.in-Some.num c.in-Some-read_digits.den c.args.front.now c.args.back.now c.in-Some.ensures.0 c.if-den-lt-LEAST_DENOMINATOR.false c.if-den-gt-GREATEST_DENOMINATOR.false
    c.in-Some.ensures.1 c.in-Some-read_digits.ensures.1 (simp to_z-of_z at c.read_lowest.ensures)
