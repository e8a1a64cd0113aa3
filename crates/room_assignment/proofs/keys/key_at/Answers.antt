use Rattle.std.proofs.Common.{rules, ◌≡◌, ◌+◌, ◌-◌, ◌∙◌, ap, arith, FitsSigned}
use Rattle.std.specs.Int.{w128}
use Rattle.std.proofs.lemmas.Int.{to_z-of_z}
use Rattle.bid_rules.specs.Keys.{key}
use Rattle.room_assignment.proofs.keys.key_at.Goals as goal

pub returns-clause-value : goal.returns-clause-value
returns-clause-value c =
    let fits : FitsSigned w128 c.key_of.result = search rules in
    let low = c.requires.room_low in
    let up : c.args.room - 1 + 1 ≡ c.args.room = omega (arith, low) in
    simp to_z-of_z (c.key_of.ensures.value ∙ ap (key c.args.case.now (c.args.member - 1)) up)
