use Rattle.std.proofs.Common.{ap, ◌∙◌}
use Rattle.bid_rules.specs.Pairs.{product}
use Rattle.nash_bounds.proofs.JudgedLevels.{fitting_long, fitting_rest, fitting_small}
use Rattle.nash_bounds.proofs.reach.flat_at.Goals as goal

pub product_of-requires-clause-long : goal.product_of-requires-clause-long
product_of-requires-clause-long c = fitting_long c.args.lanes.now c.fit-at.result c.requires c.fit-at.ensures

pub product_of-requires-clause-small : goal.product_of-requires-clause-small
product_of-requires-clause-small c = fitting_small c.args.lanes.now c.fit-at.result c.requires c.fit-at.ensures

pub product_of-requires-clause-rest : goal.product_of-requires-clause-rest
product_of-requires-clause-rest c = fitting_rest c.args.lanes.now c.fit-at.result c.requires c.fit-at.ensures

pub returns : goal.returns
returns c = record {
  most = c.fit-at.ensures.most;
  is_entries = c.fit-at.ensures.is_entries;
  is_spare = c.fit-at.ensures.is_spare;
  is_open = c.count_positive.ensures.value;
  is_product = c.product_of.ensures ∙ ap product c.fit-at.ensures.is_entries;
}
