use Rattle.std.proofs.Common.{ap}
use Rattle.bid_rules.specs.Goods.{owners_by_good}
use Rattle.best_laws.proofs.BestGoods.{dominating, maximum, one_allocation, undominated}
use Rattle.best_laws.proofs.goods.best_goods_law.Goals as goal

pub returns-clause-one_allocation : goal.returns-clause-one_allocation
returns-clause-one_allocation c = one_allocation

pub returns-clause-one_division : goal.returns-clause-one_division
returns-clause-one_division c case owners others best other = ap (owners_by_good case) (one_allocation case owners others best other)

pub returns-clause-undominated : goal.returns-clause-undominated
returns-clause-undominated c = undominated

pub returns-clause-maximum : goal.returns-clause-maximum
returns-clause-maximum c = maximum

pub returns-clause-dominating : goal.returns-clause-dominating
returns-clause-dominating c = dominating
