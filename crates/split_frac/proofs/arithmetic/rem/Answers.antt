use Rattle.std.proofs.Common.{rules, ◌≡◌, pos, ◌∙◌, ap, FitsSigned}
use Rattle.std.specs.Int.{w128, int_rem_euclid}
use Rattle.std.proofs.lemmas.Int.{to_z-of_z}
use Rattle.split_frac.proofs.Floors.{rest_above, rest_lowest}
use Rattle.split_frac.proofs.arithmetic.rem.Goals as goal

pub invariant_of-result : goal.invariant_of-result
invariant_of-result c =
    let fits : FitsSigned w128 c.rem_euclid.result = search rules in
    let fits_num : FitsSigned w128 c.args.a.now.num = search rules in
    let fits_den : FitsSigned w128 c.from.result = search rules in
    let value = simp to_z-of_z at c.rem_euclid.ensures.value in
    let e : c.rem_euclid.result ≡ int_rem_euclid c.args.a.now.num (pos c.args.a.now.den) = value ∙ ap (int_rem_euclid c.args.a.now.num) c.from.ensures in
    let both = rest_lowest c.args.a.now.num c.args.a.now.den c.args.a.now.positive c.args.a.now.lowest in
    simp to_z-of_z (record { positive = c.args.a.now.positive; lowest = rw e both })

pub returns-clause-value : goal.returns-clause-value
returns-clause-value c whole h =
    let fits : FitsSigned w128 c.rem_euclid.result = search rules in
    let fits_num : FitsSigned w128 c.args.a.now.num = search rules in
    let fits_den : FitsSigned w128 c.from.result = search rules in
    let value = simp to_z-of_z at c.rem_euclid.ensures.value in
    simp to_z-of_z (value ∙ ap (int_rem_euclid c.args.a.now.num) c.from.ensures ∙ rest_above c.args.a.now.num whole c.args.a.now.den c.args.a.now.positive h.0 h.1)
