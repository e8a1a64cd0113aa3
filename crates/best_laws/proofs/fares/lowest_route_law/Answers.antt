use Rattle.best_laws.proofs.LowestRoutes.{lowest_route}
use Rattle.best_laws.proofs.LowestRoutesExist.{least_is_lowest}
use Rattle.best_laws.proofs.fares.lowest_route_law.Goals as goal

pub returns-clause-least : goal.returns-clause-least
returns-clause-least c = lowest_route

pub returns-clause-only : goal.returns-clause-only
returns-clause-only c = least_is_lowest
