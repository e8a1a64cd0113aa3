use Rattle.std.proofs.Common.{ap, ◌∙◌, sym, subst}
use Rattle.bid_rules.specs.Goods.{IsAllocation, pair_of}
use Rattle.goods_rules.proofs.answer.answer_of.Goals as goal

pub returns-clause-answer : goal.returns-clause-answer
returns-clause-answer c = record {
  valid = c.requires.case;
  table = c.lane_table-table.ensures;
  allocation = subst (IsAllocation c.args.case) (sym c.owners_in_order-owners.ensures) (c.owners_by_good_law.ensures.allocation c.args.case c.args.owners.now c.requires.owners c.requires.owned);
  goal = c.of.ensures.goal;
  pair = c.of.ensures.pair ∙ c.pair_of-pair.ensures ∙ ap (pair_of c.args.case) c.as_slice-4.ensures.value;
}
