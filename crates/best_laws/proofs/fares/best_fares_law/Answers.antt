use Rattle.bid_rules.specs.Fares.{riders_of, sum_of_marginal_costs}
use Rattle.bid_rules.specs.Orders.{factorial}
use Rattle.best_laws.proofs.EqualRiders.{same_place}
use Rattle.split_lemmas.proofs.FractionLaws.{same_values}
use Rattle.best_laws.proofs.LeastRoute.{same_route}
use Rattle.best_laws.proofs.MarginalCosts.{total_fare}
use Rattle.split_lemmas.proofs.OrderLaws.{factorial_pos}
use Rattle.std.proofs.Common.{length}
use Rattle.best_laws.proofs.fares.best_fares_law.Goals as goal

pub returns-clause-total : goal.returns-clause-total
returns-clause-total c case fares route h = total_fare case fares route h

pub returns-clause-same_place : goal.returns-clause-same_place
returns-clause-same_place c case fares route i j d h l m same = same_place case fares route i j d h l m same

pub returns-clause-one_route : goal.returns-clause-one_route
returns-clause-one_route c case fares others route other h g = same_route case route other h.least_route g.least_route

pub returns-clause-one_value : goal.returns-clause-one_value
returns-clause-one_value c case fares others route other h g =
    same_values (sum_of_marginal_costs case) (factorial (length case.at.items)) (factorial_pos (length case.at.items)) (riders_of case) fares others h.mean g.mean
