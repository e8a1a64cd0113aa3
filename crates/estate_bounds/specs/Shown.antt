-- A test that shows with whole numbers of limited size that weights close a prefix.
use Rattle.std.specs.Prelude.{ℕ, ◌+◌, ◌*◌, ◌/◌, ◌-◌, ◌&&◌, ◌||◌, ◌==◌, Bool, nat_le, nat_lt, min, List, [], ◌∷◌, ◌++◌, cond, fold, length, map, replicate}
use Rattle.std.specs.List.{filter}
use Rattle.bid_rules.specs.declared.goods.GoodsCase.{GoodsCase}
use Rattle.bid_rules.specs.Goods.{order_of, utilities, utility}
use Rattle.bid_rules.specs.Pairs.{positives}
use Rattle.nash_bounds.specs.Prefixes.{free_goods}
use Rattle.estate_bounds.specs.declared.limits.TheConstants.{MOST_RATIO, WHOLE_RATIO}
use Rattle.estate_bounds.specs.Weighted.{chosen, first_goods, weight, weights_with, weighted_top}

-- the positive ones of some utilities
abbrev pub shares_of : List ℕ → List ℕ
shares_of utilities = filter (nat_lt 0) utilities

-- a test of whether the player has something from the owners so far, or a weight below the threshold
abbrev pub is_light : GoodsCase → List ℕ → List ℕ → ℕ → ℕ → Bool
is_light case owners weights threshold player = nat_lt 0 (utility case player (order_of case) owners) || nat_lt (weight weights player) threshold

-- the weights of the players who have something, and of the others those below the threshold
abbrev pub light_weights : GoodsCase → List ℕ → List ℕ → ℕ → List ℕ
light_weights case owners weights threshold = map (weight weights) (chosen case (is_light case owners weights threshold))

-- the greater of the threshold and the weight, if with the weight as threshold there are no more light weights than this
abbrev pub raise_threshold : GoodsCase → List ℕ → List ℕ → ℕ → ℕ → ℕ → ℕ
raise_threshold case owners weights count threshold weight =
    cond (nat_lt threshold weight && nat_le (length (light_weights case owners weights weight)) count) weight threshold

-- the greatest of the weights, or 1, with which as threshold there are no more light weights than this
abbrev pub threshold_of : GoodsCase → List ℕ → List ℕ → ℕ → ℕ
threshold_of case owners weights count = fold (raise_threshold case owners weights count) 1 weights

-- the light weights, and the threshold itself for as many more as make this many
abbrev pub weights_from : List ℕ → ℕ → ℕ → List ℕ
weights_from light count threshold = light ++ replicate (count - length light) threshold

-- the product of the count, the weight and the share, for each weight and share
abbrev pub factors : ℕ → List ℕ → List ℕ → List ℕ
factors count [] shares = []
factors count (weight ∷ weights) [] = []
factors count (weight ∷ weights) (share ∷ shares) = (count * weight * share) ∷ factors count weights shares

-- the ratio times the factor and divided by the divisor, rounded down, and no more than the greatest ratio, which stands for a quotient by 0
abbrev pub next_ratio : ℕ → ℕ → ℕ → ℕ
next_ratio ratio factor divisor = cond (divisor == 0) MOST_RATIO (min (ratio * factor / divisor) MOST_RATIO)

-- the ratio times all factors and divided by all divisors, rounded down and cut after each of them
abbrev pub estimate : ℕ → List ℕ → List ℕ → ℕ
estimate ratio [] divisors = ratio
estimate ratio (factor ∷ factors) [] = ratio
estimate ratio (factor ∷ factors) (divisor ∷ divisors) = estimate (next_ratio ratio factor divisor) factors divisors

-- a test of whether the estimate shows that the product of the factors is above that of the divisors, or, if equality is enough, no less
abbrev pub is_shown_above : Bool → List ℕ → List ℕ → Bool
is_shown_above equal factors divisors = cond equal (nat_le WHOLE_RATIO (estimate WHOLE_RATIO factors divisors)) (nat_lt WHOLE_RATIO (estimate WHOLE_RATIO factors divisors))

-- a test of whether an estimate shows it of the factors for the least weights of as many players as there are shares, with this threshold
abbrev pub is_shown_by : GoodsCase → List ℕ → List ℕ → List ℕ → Bool → ℕ → List ℕ → ℕ → Bool
is_shown_by case owners weights shares equal count divisors threshold =
    nat_le (length (light_weights case owners weights threshold)) (length shares)
    && is_shown_above equal (factors count (weights_from (light_weights case owners weights threshold) (length shares) threshold) shares) divisors

-- the same with the threshold that belongs to the weights
abbrev pub is_shown : GoodsCase → List ℕ → List ℕ → List ℕ → Bool → ℕ → List ℕ → Bool
is_shown case owners weights shares equal count divisors = is_shown_by case owners weights shares equal count divisors (threshold_of case owners weights (length shares))

-- a test of whether the weighted top of the owners shows it
abbrev pub sum_closes : GoodsCase → List ℕ → List ℕ → List ℕ → Bool → Bool
sum_closes case owners weights shares equal = is_shown case owners weights shares equal (length shares) (replicate (length shares) (weighted_top case weights owners))

-- a test of whether the free goods show it, each of which goes to another player who has nothing yet
abbrev pub one_each_closes : GoodsCase → List ℕ → List ℕ → List ℕ → Bool → Bool
one_each_closes case owners weights shares equal =
    is_shown case owners (weights_with case owners weights 1) shares equal 1 (shares_of (utilities case owners) ++ first_goods case owners weights)

-- how many players may have something from owners that begin so: those who have something, and one more for each free good
abbrev pub most_holders : GoodsCase → List ℕ → ℕ
most_holders case owners = positives (utilities case owners) + length (free_goods case owners)

-- a test of whether the weights show that no allocation that begins with the owners gives points to as many players as there are shares, with a greater
-- product than theirs, or, unless equality is enough, as great
unfoldable pub weights_close : GoodsCase → List ℕ → List ℕ → List ℕ → Bool → Bool
weights_close case owners weights shares equal =
    nat_lt (most_holders case owners) (length shares)
    || sum_closes case owners weights shares equal
    || (most_holders case owners == length shares && one_each_closes case owners weights shares equal)
