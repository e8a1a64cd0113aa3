use Rattle.std.proofs.Common.{arith, ◌^◌, ◌∙◌, ap, sym, subst, length}
use Rattle.std.proofs.lemmas.List.{length-map}
use Rattle.fare_rules.specs.Head.{cost_line}
use Rattle.fare_rules.specs.State.{StandsFor, costs_of}
use Rattle.fare_rules.proofs.SetLines.{rider_count, stands_broken}
use Rattle.fare_rules.proofs.state.take_set.Goals as goal
use Rattle.fare_rules.proofs.state.take_set.Goals.{in-Filling, in-Broken}

pub returns-then-not-is_kept-clause-stands : goal.returns-then-not-is_kept-clause-stands
returns-then-not-is_kept-clause-stands c view taken stands more = elim c.match-state.branch [
  | in-Filling w ↦
      let rows = costs_of c.args.rows.now.items in
      let now = subst (λ state. StandsFor view taken state rows) w.in-Filling.is stands in
      let count = rider_count view w.in-Filling.case now.1 in
      let each = length-map c.args.rows.now.items (λ row. row.items) in
      let long = sym each ∙ now.3 in
      let same = ap (λ n. 2 ^ n) count in
      let line = w.fill-is_kept.ensures.line (omega (arith, long, same, more)) in
      let dropped = sym w.is_kept-is ∙ c.if-not-is_kept.true in
      stands_broken view taken c.args.line.now w.in-Filling.case rows rows now (λ e. let holds = line.1 (e ∙ ap (cost_line w.in-Filling.case (length w.in-Filling.case.at.items)) each) in cc)
  | in-Broken w ↦ let never = sym w.is_kept-is ∙ c.if-not-is_kept.true in absurd (cc)
]
