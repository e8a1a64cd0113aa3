use Rattle.bid_rules.specs.Goods.{player_count}
use Rattle.nash_bounds.proofs.OwnerCounts.{length_lists}
use Rattle.nash_bounds.proofs.TaskLists.{all_leaves, depth_short}
use Rattle.nash_bounds.proofs.EarlierBlocks.{allocations_listed, allocations_rise, allocations_differ}
use Rattle.nash_bounds.proofs.step_laws.allocations_law.Goals as goal

pub returns-clause-listed : goal.returns-clause-listed
returns-clause-listed c case owners = allocations_listed case owners

pub returns-clause-rising : goal.returns-clause-rising
returns-clause-rising c case = allocations_rise case

pub returns-clause-once : goal.returns-clause-once
returns-clause-once c case = allocations_differ case

pub returns-clause-count : goal.returns-clause-count
returns-clause-count c case = length_lists (player_count case) case.facts.goods

pub returns-clause-tasks : goal.returns-clause-tasks
returns-clause-tasks c case = all_leaves case (depth_short case)
