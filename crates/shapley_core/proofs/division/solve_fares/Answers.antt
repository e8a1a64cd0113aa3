use Rattle.std.proofs.Common.{◌≡◌, ◌∙◌, pos, All, map, length, ap, sym, subst}
use Rattle.std.specs.List.{AllZip, range_with_len}
use Rattle.split_frac.specs.Frac.{fraction_of}
use Rattle.bid_rules.specs.declared.cases.FareCase.{FareCase}
use Rattle.bid_rules.specs.Coalitions.{riders_in}
use Rattle.bid_rules.specs.Fares.{FareBest, IsLeastRoute, coalition_cost, riders_of, sum_of_marginal_costs}
use Rattle.bid_rules.specs.Fractions.{IsQuotient, sum_of_fractions}
use Rattle.bid_rules.specs.Orders.{factorial}
use Rattle.shapley_core.specs.Division.{IsFareInRange}
use Rattle.shapley_core.proofs.division.solve_fares.Goals as goal

pub returns : goal.returns
returns c =
    let case = c.args.case.now in
    let costs = c.in_ok-costs.costs in
    let same : costs ≡ case = c.in_ok-costs.ensures in
    let fares = c.fares_of.result.items in
    let route = c.route.result.items in
    let total = c.cost_of.result in
    let n = length case.at.items in
    let means : AllZip (λ rider fare. IsQuotient fare (sum_of_marginal_costs case rider) (factorial n)) (riders_of case) (map fraction_of fares) =
    subst (λ m. AllZip (λ rider fare. IsQuotient fare (sum_of_marginal_costs case rider) (factorial m)) (riders_of case) (map fraction_of fares)) c.len-count.ensures.value
    (subst (λ (k : FareCase). AllZip (λ rider fare. IsQuotient fare (sum_of_marginal_costs k rider) (factorial c.len-count.result)) (riders_of k) (map fraction_of fares)) (c.borrowed.ensures ∙ same) c.fares_of.ensures.means) in
    let best : FareBest case (map fraction_of fares) route = record { mean = means; least_route = subst (λ (k : FareCase). IsLeastRoute k route) same c.route.ensures } in
    let all = ap riders_in c.all_riders.ensures ∙ c.coalition_law.ensures.all c.len-count.result ∙ ap (range_with_len 1) c.len-count.ensures.value in
    let whole : total ≡ coalition_cost case (riders_of case) =
    c.cost_of.ensures.value ∙ ap (coalition_cost costs) all ∙ ap (λ (k : FareCase). coalition_cost k (riders_of case)) same in
    record {
      best = best;
      total = whole;
      sum = subst (λ m. IsQuotient (sum_of_fractions (map fraction_of fares)) (pos m) 1) (sym whole) (c.best_fares_law.ensures.total case (map fraction_of fares) route best);
      costs = same;
      few_riders = c.coalition_law.ensures.riders_count case c.requires;
      ranges = subst (λ m. All (IsFareInRange m) fares) c.len-count.ensures.value c.fares_of.ensures.ranges;
    }
