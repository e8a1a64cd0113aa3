use Rattle.bid_rules.specs.Rent.{least_utility, room_count, utility}
use Rattle.best_laws.proofs.LeastUtilities.{along, least_low, one_step_up, upper}
use Rattle.best_laws.proofs.rents.least_utility_law.Goals as goal

pub returns-clause-step : goal.returns-clause-step
returns-clause-step c case k rooms best prices priced free greatest = one_step_up case k rooms prices best priced free greatest.assignment (greatest.greatest rooms priced.assignment)

pub returns-clause-walk : goal.returns-clause-walk
returns-clause-walk c case k rooms best prices priced free greatest =
    along case k rooms prices best (least_utility case k rooms prices) priced free greatest.assignment (greatest.greatest rooms priced.assignment) (λ i l. least_low (utility case k rooms prices) (room_count case) i l)

pub returns-clause-bound : goal.returns-clause-bound
returns-clause-bound c case k rooms best prices walks priced free greatest attained =
    upper case k rooms prices best walks (least_utility case k rooms prices) priced free greatest.assignment (greatest.greatest rooms priced.assignment) attained (λ i l. least_low (utility case k rooms prices) (room_count case) i l)
