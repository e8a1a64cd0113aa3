use Rattle.bid_rules.proofs.RentValues.{value_low, value_rent}
use Rattle.bid_rules.proofs.rents.rent_value_law.Goals as goal

pub returns-clause-low : goal.returns-clause-low
returns-clause-low c = value_low

pub returns-clause-high : goal.returns-clause-high
returns-clause-high c = value_rent
