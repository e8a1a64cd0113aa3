use Rattle.best_laws.proofs.WorkedFares.{two_places_valid, two_places_costs, two_places_best, one_place_valid, one_place_costs, one_place_best}
use Rattle.best_laws.proofs.fares.worked_fares_law.Goals as goal

pub returns-clause-two_places_valid : goal.returns-clause-two_places_valid
returns-clause-two_places_valid c = two_places_valid

pub returns-clause-two_places_costs : goal.returns-clause-two_places_costs
returns-clause-two_places_costs c = two_places_costs

pub returns-clause-two_places_best : goal.returns-clause-two_places_best
returns-clause-two_places_best c = two_places_best

pub returns-clause-one_place_valid : goal.returns-clause-one_place_valid
returns-clause-one_place_valid c = one_place_valid

pub returns-clause-one_place_costs : goal.returns-clause-one_place_costs
returns-clause-one_place_costs c = one_place_costs

pub returns-clause-one_place_best : goal.returns-clause-one_place_best
returns-clause-one_place_best c = one_place_best
