use Rattle.std.proofs.Common.{map, subst}
use Rattle.std.specs.List.{AllZip}
use Rattle.split_frac.specs.Frac.{fraction_of}
use Rattle.bid_rules.specs.Fares.{riders_of, sum_of_marginal_costs}
use Rattle.bid_rules.specs.Fractions.{IsQuotient}
use Rattle.bid_rules.specs.Orders.{factorial}
use Rattle.fair_solver.proofs.dividing.best_shares.Goals as goal

pub returns-clause-best : goal.returns-clause-best
returns-clause-best c =
    let case = c.args.costs.now in
    let fares = map fraction_of c.fares_of.result.items in
    let means = subst (λ m. AllZip (λ rider fare. IsQuotient fare (sum_of_marginal_costs case rider) (factorial m)) (riders_of case) fares) c.requires.count c.fares_of.ensures.means in
    record { mean = means; least_route = c.route.ensures }
