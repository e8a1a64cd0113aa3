use Rattle.std.proofs.Common.{arith, refl, ◌∙◌, sym, ◌+◌}
use Rattle.goods_rules.proofs.PathNodes.{last_written}
use Rattle.goods_rules.proofs.path.Path.to_sibling.Goals as goal

pub returns-then-owner-players-clause-stays : goal.returns-then-owner-players-clause-stays
returns-then-owner-players-clause-stays c = λ _. (c.in-Some.above.now, c.in-Some.owner.now, c.if-owner-players.true, sym c.as_slice.ensures.value ∙ c.in-Some.ensures.cases.0, refl)

pub returns-clause-goes : goal.returns-clause-goes
returns-clause-goes c = λ _.
    let is = sym c.as_slice.ensures.value ∙ c.in-Some.ensures.cases.0 in (
      c.in-Some.above.now,
      c.in-Some.owner.now,
      (let low = c.if-owner-players.false in omega arith),
      is,
      last_written c.args.self.now.owners.items c.deref_mut.result.now c.in-Some.above.now c.in-Some.owner.now (c.in-Some.owner.now + 1) is c.deref_mut.ensures.value,
    )
