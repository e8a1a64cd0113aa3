use Rattle.best_laws.proofs.MemberPrices.{member_prices_sum}
use Rattle.best_laws.proofs.UniqueRents.{best_whole, same_best_prices, same_rooms}
use Rattle.best_laws.proofs.rents.best_rent_law.Goals as goal

pub returns-clause-one_assignment : goal.returns-clause-one_assignment
returns-clause-one_assignment c = same_rooms

pub returns-clause-one_value : goal.returns-clause-one_value
returns-clause-one_value c = same_best_prices

pub returns-clause-total : goal.returns-clause-total
returns-clause-total c = best_whole

pub returns-clause-by_member : goal.returns-clause-by_member
returns-clause-by_member c = member_prices_sum
