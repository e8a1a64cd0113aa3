use Rattle.shapley_core.proofs.MembersApart.{best_same, coalition_same, least_route_same, route_same, sum_same}
use Rattle.shapley_core.proofs.laws.members_law.Goals as goal

pub returns-clause-routes : goal.returns-clause-routes
returns-clause-routes c = λ case members. route_same case members case.facts.members

pub returns-clause-costs : goal.returns-clause-costs
returns-clause-costs c = λ case members. coalition_same case members case.facts.members

pub returns-clause-sums : goal.returns-clause-sums
returns-clause-sums c = λ case members. sum_same case members case.facts.members

pub returns-clause-least_route : goal.returns-clause-least_route
returns-clause-least_route c = λ case members route. (least_route_same case members case.facts.members route, least_route_same case case.facts.members members route)

pub returns-clause-best : goal.returns-clause-best
returns-clause-best c = λ case members fares route. (best_same case members case.facts.members fares route, best_same case case.facts.members members fares route)
