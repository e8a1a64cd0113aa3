use Rattle.std.proofs.Common.{◌≤◌}
use Rattle.std.proofs.lemmas.List.Elements.{All-head}
use Rattle.bid_rules.specs.Facts.{legs_in_order}
use Rattle.bid_rules.specs.declared.limits.TheConstants.{MOST_FARE_CENTS}
use Rattle.best_laws.proofs.CostRanges.{coalition_cost-some, coalition_small, route_small}
use Rattle.best_laws.proofs.RouteLaws.{route_cost-attained, route_cost-least, route_cost-permutation, coalition_cost-permutation}
use Rattle.best_laws.proofs.fares.route_cost_law.Goals as goal

pub returns-clause-attained : goal.returns-clause-attained
returns-clause-attained c case from riders = route_cost-attained case from riders

pub returns-clause-least : goal.returns-clause-least
returns-clause-least c case from riders = route_cost-least case from riders

pub returns-clause-same : goal.returns-clause-same
returns-clause-same c case from xs ys p = route_cost-permutation case from xs ys p

pub returns-clause-coalition : goal.returns-clause-coalition
returns-clause-coalition c case xs ys p = coalition_cost-permutation case xs ys p

pub returns-clause-some : goal.returns-clause-some
returns-clause-some c case riders some = coalition_cost-some case riders some

pub returns-clause-route_small : goal.returns-clause-route_small
returns-clause-route_small c case from riders valid = route_small case (λ f t. c.leg_place_law.ensures.small case.facts f t valid.facts.cents) from riders

pub returns-clause-coalition_small : goal.returns-clause-coalition_small
returns-clause-coalition_small c case riders valid =
    coalition_small case (λ f t. c.leg_place_law.ensures.small case.facts f t valid.facts.cents)
    (All-head (λ n. n ≤ MOST_FARE_CENTS) case.facts.flag (legs_in_order case.facts) valid.facts.cents) riders
