-- Bounds by weighted sums: each player's utility counts by a weight, and the arithmetic mean of the weighted utilities bounds their geometric mean
-- (Eisenberg and Gale 1959, for the market whose prices are the best weights).
use Rattle.std.specs.Prelude.{◌≡◌, ℕ, ◌+◌, ◌*◌, ◌^◌, ◌-◌, ◌<◌, ◌≤◌, Bool, true, false, List, [], ◌∷◌, map, fold, max, length, All, slice_index, cond, nat_lt}
use Rattle.std.specs.List.{filter, range_with_len, sum_by}
use Rattle.bid_rules.specs.declared.goods.GoodsCase.{GoodsCase}
use Rattle.bid_rules.specs.declared.pair.Pair.{Pair}
use Rattle.bid_rules.specs.Goods.{player_count, points, order_of, utility, utilities}
use Rattle.bid_rules.specs.Pairs.{IsAtMost, IsLess, product}
use Rattle.nash_bounds.specs.Prefixes.{free_goods}

-- a player's weight
abbrev pub weight : List ℕ → ℕ → ℕ
weight weights player = slice_index weights (player - 1)

-- a weight for each player, none of them 0
pub record AreWeights (case : GoodsCase) (weights : List ℕ) : Type 0 where
  pub each : length weights ≡ player_count case
  pub some : All (λ weight. 1 ≤ weight) weights

-- the sum of the players' utilities, each times the player's weight
abbrev pub weighted_sum : GoodsCase → List ℕ → List ℕ → ℕ
weighted_sum case weights owners = sum_by (λ player. weight weights player * utility case player (order_of case) owners) (range_with_len 1 (player_count case))

-- the most that the good can add to the weighted sum, whoever gets it
abbrev pub most_weighted : GoodsCase → List ℕ → ℕ → ℕ
most_weighted case weights good = fold max 0 (map (λ player. weight weights player * points case player good) (range_with_len 1 (player_count case)))

-- the weighted sum of the owners so far, and for each free good the most that it can add
abbrev pub weighted_top : GoodsCase → List ℕ → List ℕ → ℕ
weighted_top case weights owners = weighted_sum case weights owners + sum_by (most_weighted case weights) (free_goods case owners)

-- the players whom the test chooses
abbrev pub chosen : GoodsCase → (ℕ → Bool) → List ℕ
chosen case test = filter test (range_with_len 1 (player_count case))

-- the test chooses this many players, and among them each who has something from the owners so far
pub record IsChoice (case : GoodsCase) (owners : List ℕ) (count : ℕ) (test : ℕ → Bool) : Type 0 where
  pub many : length (chosen case test) ≡ count
  pub holders : (player : ℕ) → 1 ≤ player → player ≤ player_count case → 0 < utility case player (order_of case) owners → test player ≡ true

-- the first number is less than the second, or may equal it if that is enough
abbrev pub StaysBelow : Bool → ℕ → ℕ → Type 0
StaysBelow false a b = a < b
StaysBelow true a b = a ≤ b

-- the first pair is less than the second, or may equal it if that is enough
abbrev pub PairStaysBelow : Bool → Pair → Pair → Type 0
PairStaysBelow false a b = IsLess a b
PairStaysBelow true a b = IsAtMost a b

-- the weights show that no allocation that begins with the owners and has as many players with points as the goal has a product above the goal's, or, unless
-- equality is enough, as great: whichever players these are, their weighted utilities would at the goal's product have a geometric mean no less than the
-- arithmetic mean that the weighted top allows
abbrev pub WeightedBoundCloses : GoodsCase → List ℕ → List ℕ → Bool → Pair → Type 0
WeightedBoundCloses case owners weights equal goal = (test : ℕ → Bool) → IsChoice case owners goal.count test
    → StaysBelow equal (weighted_top case weights owners ^ goal.count) (goal.count ^ goal.count * (product (map (weight weights) (chosen case test)) * goal.product))

-- the weights, with this number in place of that of each player who has something
abbrev pub weights_with : GoodsCase → List ℕ → List ℕ → ℕ → List ℕ
weights_with case owners weights number = map (λ player. cond (nat_lt 0 (utility case player (order_of case) owners)) number (weight weights player)) (range_with_len 1 (player_count case))

-- the product of all the numbers
abbrev pub whole_product : List ℕ → ℕ
whole_product [] = 1
whole_product (number ∷ numbers) = number * whole_product numbers

-- for each free good, the most that it can add to the weighted sum if it goes to a player who has nothing
abbrev pub first_goods : GoodsCase → List ℕ → List ℕ → List ℕ
first_goods case owners weights = map (most_weighted case (weights_with case owners weights 0)) (free_goods case owners)

-- the same where each free good has to go to another player, who has nothing yet: the product of the utilities so far and of the most that each free good
-- can add is at most the goal's product times the weights of the players who get the free goods, whichever players these are
abbrev pub OneEachCloses : GoodsCase → List ℕ → List ℕ → Bool → Pair → Type 0
OneEachCloses case owners weights equal goal = (test : ℕ → Bool) → IsChoice case owners goal.count test
    → StaysBelow equal (product (utilities case owners) * whole_product (first_goods case owners weights)) (product (map (weight (weights_with case owners weights 1)) (chosen case test)) * goal.product)
