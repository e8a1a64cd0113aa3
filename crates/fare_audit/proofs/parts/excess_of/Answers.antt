use Rattle.std.proofs.Common.{◌≤◌, ℕ, length, All, sym, ◌∙◌, subst}
use Rattle.fare_audit.proofs.Kept.{excess_made}
use Rattle.fare_audit.proofs.parts.excess_of.Goals as goal

pub paid_by-requires-clause-riders : goal.paid_by-requires-clause-riders
paid_by-requires-clause-riders c =
    let n = length c.args.parts.now in
    let P : ℕ → Type 0 = λ rider. (1 ≤ rider) × (rider ≤ n) in
    subst (λ xs. All P xs) (sym (c.as_slice.ensures.value ∙ c.riders_of_set-riders.ensures)) ((c.coalition_law.ensures.within n c.args.set).0 c.requires.set)

pub returns-clause-size : goal.returns-clause-size
returns-clause-size c =
    (excess_made c.paid_by.result c.from.result c.from-2.result c.cost_of.result c.args.denominator c.from.ensures c.from-2.ensures c.cost_of.ensures.small c.requires.few c.paid_by.ensures.size).3
