use Rattle.std.proofs.Common.{◌-◌, ◌^◌, ◌∙◌, ap}
use Rattle.bid_rules.specs.Coalitions.{riders_in}
use Rattle.bid_rules.specs.Fares.{marginal_cost, riders_of}
use Rattle.bid_rules.specs.Orders.{orders}
use Rattle.bid_rules.specs.Sums.{total}
use Rattle.split_lemmas.proofs.SignedSums.{total-map, total_is}
use Rattle.best_laws.proofs.CostRanges.{marginal_sum_small}
use Rattle.best_laws.proofs.MarginalSums.{margin_parts, part_sum}
use Rattle.best_laws.proofs.SetParts.{parts_of_set}
use Rattle.best_laws.proofs.SetRiders.{counted_once, set_once}
use Rattle.best_laws.proofs.fares.marginal_set_law.Goals as goal

pub returns-clause-recurrence : goal.returns-clause-recurrence
returns-clause-recurrence c case rider set there =
    margin_parts case rider (riders_in set) (set_once set) (counted_once set rider there)
    ∙ ap (total (part_sum case rider (riders_in set))) (parts_of_set set)
    ∙ total-map (part_sum case rider (riders_in set)) (λ other. (other, riders_in (set - 2 ^ (other - 1)))) (riders_in set)

pub returns-clause-whole : goal.returns-clause-whole
returns-clause-whole c case rider = total_is (marginal_cost case rider) (orders (riders_of case))

pub returns-clause-small : goal.returns-clause-small
returns-clause-small c case rider riders valid there = marginal_sum_small case (λ xs. c.route_cost_law.ensures.coalition_small case xs valid) rider riders there
