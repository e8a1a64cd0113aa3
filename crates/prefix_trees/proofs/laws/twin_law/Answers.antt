use Rattle.prefix_trees.proofs.Twins.{ordered_goods, twin_allocation, twin_better, twin_never, twin_pair, twin_points}
use Rattle.prefix_trees.proofs.laws.twin_law.Goals as goal

pub returns-clause-points : goal.returns-clause-points
returns-clause-points c case twin owners rest player is owned this =
    twin_points case twin owners rest player is (ordered_goods case (c.search_order_law.ensures.length case) (c.search_order_law.ensures.range case)) owned this

pub returns-clause-pair : goal.returns-clause-pair
returns-clause-pair c case twin owners rest is whole =
    twin_pair case twin owners rest is (ordered_goods case (c.search_order_law.ensures.length case) (c.search_order_law.ensures.range case)) (c.best_goods_law.ensures.dominating case) whole.owned

pub returns-clause-allocation : goal.returns-clause-allocation
returns-clause-allocation c = twin_allocation

pub returns-clause-better : goal.returns-clause-better
returns-clause-better c case twin owners rest is whole =
    twin_better case twin owners rest is (ordered_goods case (c.search_order_law.ensures.length case) (c.search_order_law.ensures.range case)) (c.best_goods_law.ensures.dominating case) whole.owned

pub returns-clause-never : goal.returns-clause-never
returns-clause-never c case twin owners rest is best =
    twin_never case twin owners rest is (ordered_goods case (c.search_order_law.ensures.length case) (c.search_order_law.ensures.range case)) (c.best_goods_law.ensures.dominating case) best
