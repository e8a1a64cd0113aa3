use Rattle.std.proofs.Common.{arith, List, ℕ, ap, subst, length}
use Rattle.goods_rules.specs.Path.{IsParent}
use Rattle.goods_rules.proofs.path.Path.parent.Goals as goal

pub parent_of-requires-clause-open : goal.parent_of-requires-clause-open
parent_of-requires-clause-open c = record {
  valid = c.requires.answer.valid;
  short = (let short = c.requires.open in let long = ap length c.as_slice-owners.ensures.value in omega arith);
}

pub returns : goal.returns
returns c = subst (λ (owners : List ℕ). IsParent c.args.answer.now.case c.args.answer.now.goal.pair owners c.parent_of.result) c.as_slice-owners.ensures.value c.parent_of.ensures
