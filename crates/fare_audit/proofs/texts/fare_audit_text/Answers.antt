use Rattle.std.proofs.Common.{◌<◌, ◌^◌, Option, length, map, arith, ap, ◌∙◌, sym, subst}
use Rattle.std.proofs.lemmas.Nat.{pow_pos}
use Rattle.split_frac.specs.Frac.{fraction_of}
use Rattle.fare_audit.specs.Excesses.{IsWorst, IsWorstOf}
use Rattle.fare_audit.specs.declared.audit.Worst.{Worst}
use Rattle.fare_audit.proofs.texts.fare_audit_text.Goals as goal

pub push_worst-requires-clause-few : goal.push_worst-requires-clause-few
push_worst-requires-clause-few c =
    let riders = ap length c.as_slice.ensures.value ∙ sym c.requires.case.each in
    let few = c.requires.division.few_riders in
    omega (arith, riders, few)

pub push_worst-requires-clause-group : goal.push_worst-requires-clause-group
push_worst-requires-clause-group c = λ worst is.
    let case = c.args.case.now in
    let fares = map fraction_of c.args.division.now.fares.items in
    let n = length case.at.items in
    let riders = ap length c.as_slice.ensures.value ∙ sym c.requires.case.each in
    let found : IsWorst case fares worst = subst (λ (o : Option Worst). IsWorstOf case fares o) is c.audit_fares-audit.ensures.worst in
    let last = found.group.1 in
    let some = pow_pos n in
    subst (λ m. worst.set < 2 ^ m) (sym riders) (omega (arith, last, some))
