-- Bounds by prices: each player pays a rate for each point and a fee for each free good, and what is left of the logarithm of their points is bounded for each
-- of them alone. Fees tell that goods are whole.
use Rattle.std.specs.Prelude.{◌≡◌, ℕ, suc, zero, ◌+◌, ◌-◌, ◌*◌, ◌<◌, ◌≤◌, ◌&&◌, ◌==◌, Bool, List, [], ◌∷◌, All, drop, fold, length, map, max, min, nat_lt, slice_index, sum}
use Rattle.std.specs.List.{range_with_len, sum_by}
use Rattle.bid_rules.specs.declared.goods.GoodsCase.{GoodsCase}
use Rattle.bid_rules.specs.declared.limits.TheConstants.{ITEM_ROOM, WHOLE_POINTS}
use Rattle.bid_rules.specs.Goods.{order_of, player_count, points, utility}
use Rattle.nash_bounds.specs.Prefixes.{free_goods}
use Rattle.estate_bounds.specs.declared.limits.TheConstants.{LOG_ROOM, MOST_LOG, MOST_PAYMENT, MOST_PRICE, PRICE_PARTS}
use Rattle.estate_bounds.specs.declared.logs.Logs.{Logs}
use Rattle.estate_bounds.specs.declared.prices.Prices.{Prices}
use Rattle.estate_bounds.specs.Logs.{log_down, log_up}
use Rattle.estate_bounds.specs.Weighted.{weight, weighted_sum}

-- a list of so many entries, each of them the function's value at its place
pub record IsListOf (function : ℕ → ℕ) (count : ℕ) (list : List ℕ) : Type 0 where
  pub long : length list ≡ count
  pub each : (place : ℕ) → place < count → slice_index list place ≡ function place

-- the logarithms of all numbers of points, rounded down and up
pub record AreLogs (logs : Logs) : Type 0 where
  pub is_down : IsListOf log_down LOG_ROOM logs.down.items
  pub is_up : IsListOf log_up LOG_ROOM logs.up.items
  pub small_down : All (λ log. log ≤ MOST_LOG) logs.down.items
  pub small_up : All (λ log. log ≤ MOST_LOG) logs.up.items

-- a rate and a fee for each player, within their limits
pub record ArePrices (case : GoodsCase) (rates fees : List ℕ) : Type 0 where
  pub rates_each : length rates ≡ player_count case
  pub fees_each : length fees ≡ player_count case
  pub rates_small : All (λ rate. rate ≤ MOST_PRICE) rates
  pub fees_small : All (λ fee. fee ≤ MOST_PRICE) fees

-- the greatest price that any player pays for the good: their rate for each of their points, and their fee
abbrev pub highest_price : GoodsCase → List ℕ → List ℕ → ℕ → ℕ
highest_price case rates fees good = fold max 0 (map (λ player. weight rates player * points case player good + weight fees player) (range_with_len 1 (player_count case)))

-- what all players pay for the points that they have, and the greatest price of each free good
abbrev pub price_top : GoodsCase → List ℕ → List ℕ → List ℕ → ℕ
price_top case rates fees owners = weighted_sum case rates owners + sum_by (highest_price case rates fees) (free_goods case owners)

-- the most points that this many of the goods can give the player
abbrev pub most_points : GoodsCase → ℕ → ℕ → List ℕ → ℕ
most_points case player zero goods = 0
most_points case player (suc count) [] = 0
most_points case player (suc count) (good ∷ goods) = max (points case player good + most_points case player count goods) (most_points case player (suc count) goods)

-- the most that is left of the logarithm of up to so many points after the rate is paid for each of them
unfoldable pub reserve : ℕ → ℕ → ℕ
reserve rate most = fold max 0 (map (λ number. log_up number - rate * PRICE_PARTS * number) (range_with_len 1 most))

-- the most that is left of the logarithm of a player's points, however many of the free goods they get and pay for
abbrev pub gain : GoodsCase → List ℕ → ℕ → ℕ → ℕ → ℕ
gain case owners rate fee player =
    fold max 0 (map (λ count. reserve rate (min (utility case player (order_of case) owners + most_points case player count (free_goods case owners)) WHOLE_POINTS) - fee * PRICE_PARTS * count) (range_with_len 0 (case.facts.goods + 1)))

-- no allocation that begins with the owners and gives points to all players has a product whose logarithm is above this
abbrev pub price_bound : GoodsCase → List ℕ → List ℕ → List ℕ → ℕ
price_bound case owners rates fees =
    sum_by (λ player. gain case owners (weight rates player) (weight fees player) player) (range_with_len 1 (player_count case)) + PRICE_PARTS * price_top case rates fees owners

-- a test of whether the prices show that no allocation that begins with the owners gives points to as many players as there are shares, with as great a
-- product: there is a share for each player, and the logarithms of the shares sum to more than the bound
unfoldable pub prices_close : GoodsCase → List ℕ → List ℕ → List ℕ → List ℕ → Bool
prices_close case owners rates fees shares = length shares == player_count case && nat_lt (price_bound case owners rates fees) (sum (map log_down shares))

-- the most that so many free goods, the last in search order, can cost together
abbrev pub free_price : GoodsCase → List ℕ → List ℕ → ℕ → ℕ
free_price case rates fees free = sum_by (highest_price case rates fees) (drop (case.facts.goods - free) (order_of case))

-- prices, and for each number of free goods the most that these can cost
pub record IsPriced (case : GoodsCase) (prices : Prices) : Type 0 where
  pub are : ArePrices case prices.rates.items prices.fees.items
  pub is_tops : prices.tops.items ≡ map (free_price case prices.rates.items prices.fees.items) (range_with_len 0 (case.facts.goods + 1))
  pub small : All (λ top. top ≤ MOST_PAYMENT * ITEM_ROOM) prices.tops.items
