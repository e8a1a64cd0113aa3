use Rattle.std.specs.Int.{w128}
use Rattle.std.proofs.lemmas.Int.{ints, to_z-of_z}
use Rattle.std.proofs.Common.{FitsSigned, arith}
use Rattle.goods_rules.proofs.case.case_of.Goals as goal

pub returns-in_default : goal.returns-in_default
returns-in_default c owners steps marks h =
    let fits : FitsSigned w128 c.args.limit = c.ranges.limit in
    let told = simp to_z-of_z at c.in_default.ensures in
    told (record { who = h.who; values = h.values; valid = h.valid })

pub returns : goal.returns
returns c owners steps marks =
    let fits : FitsSigned w128 c.args.limit = c.ranges.limit in
    let told = simp to_z-of_z at c.in-Some.ensures in (
      record {
        limit = (let low = c.if-limit-lt0.false in omega (arith, ints, low));
        who = told.0.who;
        values = told.0.values;
        valid = told.0.valid;
      },
      told.1,
    )
