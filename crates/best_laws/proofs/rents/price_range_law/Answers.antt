use Rattle.best_laws.proofs.PriceRange.{HaveValuesWithinRent, best_within, least_within, price_within, utility_low}
use Rattle.best_laws.proofs.rents.price_range_law.Goals as goal

within : goal.After-rent_value_law → HaveValuesWithinRent
within c case member room valid known = (c.rent_value_law.ensures.low case member room, c.rent_value_law.ensures.high case member room valid known)

pub returns-clause-utilities : goal.returns-clause-utilities
returns-clause-utilities c = utility_low

pub returns-clause-least : goal.returns-clause-least
returns-clause-least c = least_within (within c)

pub returns-clause-prices : goal.returns-clause-prices
returns-clause-prices c = price_within (within c)

pub returns-clause-best : goal.returns-clause-best
returns-clause-best c = best_within (within c)
