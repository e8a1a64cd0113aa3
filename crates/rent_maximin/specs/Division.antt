-- The solver's division of a rent for a case (Gal, Mash, Procaccia and Zick 2016).
use Rattle.std.specs.Prelude.{pos, ◌<◌, map, All, unsigned_abs}
use Rattle.std.specs.Int.{◌∣◌}
use Rattle.bid_rules.specs.declared.rents.RentCase.{RentCase}
use Rattle.bid_rules.specs.Fractions.{IsQuotient, sum_of_fractions}
use Rattle.bid_rules.specs.Keys.{AreDualNumbers, HasGreatestKeySum, key_step}
use Rattle.bid_rules.specs.Maximin.{AreMaximinPrices, least_in_parts, value_step}
use Rattle.bid_rules.specs.Rent.{IsLeastUtility, IsWithinRent, RentBest, room_count}
use Rattle.bid_rules.specs.Walks.{AreGreatestWeights, AreRanks}
use Rattle.rent_maximin.specs.declared.division.RentDivision.{RentDivision}
use Rattle.split_frac.specs.Frac.{fraction_of}
use Rattle.room_assignment.specs.declared.limits.TheConstants.{DUAL_LIMIT}

-- the best rooms and prices, with all the numbers that show that they are: dual numbers and walks within the limit of dual numbers, ranks
-- below the number of members, and prices that are whole n-ths of a cent and no further from 0 than the rent
pub record IsRentDivision (case : RentCase) (division : RentDivision) : Type 0 where
  pub best : RentBest case division.best.rooms.items (map fraction_of division.prices.items)
  -- the least utility of any member, and the formula for it
  pub least : IsLeastUtility case division.best.rooms.items (map fraction_of division.prices.items) (fraction_of division.least)
  pub least_formula : IsQuotient (fraction_of division.least) (least_in_parts case division.best.rooms.items division.walks.weights.items) (room_count case)
  -- the prices are those of the formula, and sum to the rent
  pub prices : AreMaximinPrices case division.best.rooms.items division.walks.weights.items (map fraction_of division.prices.items)
  pub total : IsQuotient (sum_of_fractions (map fraction_of division.prices.items)) (pos case.facts.rent) 1
  -- the rooms have the greatest sum of keys, which the dual numbers of members (left) and of rooms show
  pub rooms : HasGreatestKeySum case division.best.rooms.items
  pub left : AreGreatestWeights (room_count case) (key_step case division.best.rooms.items) division.best.left.items
  pub dual : AreDualNumbers case division.best.rooms.items division.best.left.items division.best.right.items
  -- the longest walks over the values, and the fewest steps of each
  pub walks : AreGreatestWeights (room_count case) (value_step case division.best.rooms.items) division.walks.weights.items
  pub ranks : AreRanks (room_count case) (value_step case division.best.rooms.items) division.walks.weights.items division.walks.ranks.items
  -- prices and the least utility are in whole n-ths of a cent, and no further from 0 than the rent
  pub price_parts : All (λ price. price.den ∣ room_count case) division.prices.items
  pub price_range : All (λ price. IsWithinRent case price.den price.num) division.prices.items
  pub least_parts : division.least.den ∣ room_count case
  pub least_range : IsWithinRent case division.least.den division.least.num
  -- all other numbers stay within their limits
  pub left_range : All (λ number. unsigned_abs number < DUAL_LIMIT) division.best.left.items
  pub right_range : All (λ number. unsigned_abs number < DUAL_LIMIT) division.best.right.items
  pub walk_range : All (λ weight. unsigned_abs weight < DUAL_LIMIT) division.walks.weights.items
  pub rank_range : All (λ rank. rank < room_count case) division.walks.ranks.items
