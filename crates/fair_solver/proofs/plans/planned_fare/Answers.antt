use Rattle.std.proofs.Common.{◌≡◌, ◌∙◌, pos, map, ap, sym, subst, to_z, of_z, w64, arith}
use Rattle.std.proofs.lemmas.Int.{ints}
use Rattle.std.specs.List.{range_with_len}
use Rattle.split_frac.specs.Frac.{fraction_of}
use Rattle.bid_rules.specs.declared.cases.FareCase.{FareCase}
use Rattle.bid_rules.specs.Coalitions.{riders_in}
use Rattle.bid_rules.specs.Fares.{FareBest, coalition_cost, riders_of}
use Rattle.bid_rules.specs.Fractions.{IsQuotient, sum_of_fractions}
use Rattle.fair_solver.proofs.plans.planned_fare.Goals as goal

pub cent_plan-pays-requires-clause-sum : goal.cent_plan-pays-requires-clause-sum
cent_plan-pays-requires-clause-sum c =
    let case = c.args.case.now in
    let costs = c.new-costs.result in
    let same : costs ≡ case = c.new-costs.ensures in
    let fares = c.best_shares-shares.result.fares.items in
    let route = c.best_shares-shares.result.route.items in
    let best : FareBest case (map fraction_of fares) route = subst (λ (k : FareCase). FareBest k (map fraction_of fares) route) same c.best_shares-shares.ensures.best in
    let all = ap riders_in c.all_riders.ensures ∙ c.coalition_law.ensures.all c.len-count.result ∙ ap (range_with_len 1) c.len-count.ensures.value in
    let whole : c.cost_of-total.result ≡ coalition_cost case (riders_of case) =
    c.cost_of-total.ensures.value ∙ ap (coalition_cost costs) all ∙ ap (λ (k : FareCase). coalition_cost k (riders_of case)) same in
    let total : to_z w64 (of_z w64 c.from.result) ≡ pos c.cost_of-total.result = omega (arith, ints) in
    let sum = c.best_fares_law.ensures.total case (map fraction_of fares) route best in
    subst (λ xs. IsQuotient (sum_of_fractions (map fraction_of xs)) (to_z w64 (of_z w64 c.from.result)) 1) (sym c.as_slice-2.ensures.value)
    (subst (λ n. IsQuotient (sum_of_fractions (map fraction_of fares)) n 1) (sym (total ∙ ap pos whole)) sum)
