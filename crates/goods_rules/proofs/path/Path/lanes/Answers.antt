use Rattle.std.proofs.Common.{arith, ◌≡◌, ◌∙◌, [], ap, sym, subst, length}
use Rattle.nash_bounds.specs.Lanes.{IsLanes}
use Rattle.goods_rules.proofs.PathNodes.{last_owner, last_parent}
use Rattle.goods_rules.proofs.PathSteps.{empty_path}
use Rattle.goods_rules.proofs.path.Path.lanes.Goals as goal

pub returns-in_default : goal.returns-in_default
returns-in_default c =
    let none : c.args.self.now.owners.items ≡ [] = empty_path c.args.self.now.owners.items (omega (arith, ap length c.as_slice.ensures.value, c.in_default.ensures.cases)) in
    subst (λ xs. IsLanes c.args.answer.now.case xs c.lanes_of.result) (c.empty_prefix.ensures.none ∙ sym none) c.lanes_of.ensures

pub give-requires-clause-owner_low : goal.give-requires-clause-owner_low
give-requires-clause-owner_low c =
    (last_owner c.args.answer.now.case c.args.answer.now.goal.pair c.args.self.now c.in-Some.owner.now c.in-Some.owners.now (sym c.as_slice.ensures.value ∙ c.in-Some.ensures.cases.0) c.requires.path).0

pub give-requires-clause-owner_high : goal.give-requires-clause-owner_high
give-requires-clause-owner_high c =
    (last_owner c.args.answer.now.case c.args.answer.now.goal.pair c.args.self.now c.in-Some.owner.now c.in-Some.owners.now (sym c.as_slice.ensures.value ∙ c.in-Some.ensures.cases.0) c.requires.path).1

pub give-requires-clause-lanes : goal.give-requires-clause-lanes
give-requires-clause-lanes c =
    rw c.deref.ensures.0 (last_parent c.args.answer.now.case c.args.answer.now.goal.pair c.args.self.now c.in-Some.owner.now c.in-Some.owners.now _ (sym c.as_slice.ensures.value ∙ c.in-Some.ensures.cases.0) c.requires.path).fork
