use Rattle.std.proofs.Common.{arith, ◌≡◌, ◌≤◌, ◌∙◌, subst, sym, ap, length}
use Rattle.std.specs.List.{filter, range_with_len}
use Rattle.bid_rules.specs.Coalitions.{has_rider}
use Rattle.set_costs.proofs.SetBits.{first_few, first_with, first_without}
use Rattle.set_costs.proofs.riders.riders_of_set.Goals as goal
use Rattle.set_costs.proofs.riders.riders_of_set.Goals.{then-set-bit-eq1, else-set-bit-eq1}

pub push-requires : goal.push-requires
push-requires c =
    let few : length c.loop-bit.riders.items ≤ c.loop-bit.bit = subst (λ xs. length xs ≤ c.loop-bit.bit) (sym c.loop-bit.invariant) (first_few c.args.set c.loop-bit.bit) in
    let test = c.loop-bit-test.true in
    let most = c.requires.few in
    (omega arith, omega arith)

pub loop-bit-preserved : goal.loop-bit-preserved
loop-bit-preserved c = elim c.if-set-bit-eq1.branch [
  | then-set-bit-eq1 w ↦ ap (λ (o : _). o.items) w.riders-is ∙ first_with c.args.set c.loop-bit.bit c.loop-bit.riders.items w.push.new.self.items w.if-set-bit-eq1.true w.push.ensures.items c.loop-bit.invariant
  | else-set-bit-eq1 w ↦ ap (λ (o : _). o.items) w.riders-is ∙ first_without c.args.set c.loop-bit.bit c.loop-bit.riders.items w.if-set-bit-eq1.false c.loop-bit.invariant
]

pub returns : goal.returns
returns c =
    let whole : c.loop-bit.bit ≡ c.args.count = omega arith in
    c.loop-bit.invariant ∙ ap (λ n. filter (has_rider c.args.set) (range_with_len 1 n)) whole ∙ sym (c.coalition_law.ensures.first c.args.count c.args.set c.requires.set)
