use Rattle.rent_maximin.proofs.Ranges.{amount_within, amounts_within}
use Rattle.rent_maximin.proofs.laws.division_range_law.Goals as goal

pub returns-clause-prices : goal.returns-clause-prices
returns-clause-prices c case division valid is = amounts_within case division.prices.items valid is.price_parts is.price_range

pub returns-clause-least : goal.returns-clause-least
returns-clause-least c case division valid is = amount_within case division.least valid is.least_parts is.least_range
