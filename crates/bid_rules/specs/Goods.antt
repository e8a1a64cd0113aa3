-- Checked facts and valid cases of goods, the search order, allocations, and the best of these (Caragiannis and others 2016).
use Rattle.std.specs.Prelude.{◌≡◌, ℕ, ◌+◌, ◌-◌, ◌<◌, ◌≤◌, ◌==◌, List, [], ◌∷◌, length, map, fold, sum, All, max, slice_index, slice_index_or, cond, ◌⊎◌, nat_le}
use Rattle.std.specs.List.{range_with_len, position_or_len}
use Rattle.std.specs.List.Sorted.{IsStrictlyIncreasing}
use Rattle.std.specs.Cmp.Lexicographic.{slice_cmp}
use Rattle.std.specs.Ordering.{nat_cmp}
use Rattle.std.specs.declared.cmp.Ordering.TheVariants.{Less}
use Rattle.bid_rules.specs.declared.limits.TheConstants.{FEWEST_MEMBERS, MOST_GOODS, MOST_MEMBERS, MOST_STEPS, WHOLE_POINTS}
use Rattle.bid_rules.specs.declared.goods.Goods.{Goods}
use Rattle.bid_rules.specs.declared.goods.GoodsCase.{GoodsCase}
use Rattle.bid_rules.specs.declared.bids.BidFault.{BidFault}
use Rattle.bid_rules.specs.declared.bids.BidFault.TheVariants as fault
use Rattle.bid_rules.specs.declared.pair.Pair.{Pair}
use Rattle.bid_rules.specs.Pairs.{nash_welfare, IsLess}

-- the numbers of members and of goods are within the limits
abbrev pub HasCounts : Goods → Type 0
HasCounts facts = (FEWEST_MEMBERS ≤ facts.members) × (facts.members ≤ MOST_MEMBERS) × (1 ≤ facts.goods) × (facts.goods ≤ MOST_GOODS)

-- the limit of steps is at least 1, and at most the greatest that there may be
abbrev pub HasLimit : Goods → Type 0
HasLimit facts = (1 ≤ facts.limit) × (facts.limit ≤ MOST_STEPS)

-- facts about goods without a fault
pub record IsCheckedGoods (facts : Goods) : Type 0 where
  pub counts : HasCounts facts
  pub steps : HasLimit facts

-- the first fault of facts about goods, in the order of these cases
abbrev pub IsFaultOfGoods : Goods → BidFault → Type 0
IsFaultOfGoods facts fault.Count = HasCounts facts → ⊥
IsFaultOfGoods facts (fault.Range place) = HasCounts facts × (place ≡ 0) × (HasLimit facts → ⊥)
IsFaultOfGoods facts (fault.Place place) = ⊥
IsFaultOfGoods facts (fault.Sum got) = ⊥

-- a valid case of goods: checked facts, and players in rising order of member, each of whom spreads all their points over the goods
pub record IsValidGoodsCase (case : GoodsCase) : Type 0 where
  pub facts : IsCheckedGoods case.facts
  pub rising : IsStrictlyIncreasing case.who.items
  pub members : All (λ member. (1 ≤ member) × (member ≤ case.facts.members)) case.who.items
  pub some : 1 ≤ length case.who.items
  pub each : length case.values.items ≡ length case.who.items
  pub goods : All (λ row. length row.items ≡ case.facts.goods) case.values.items
  pub sums : All (λ row. sum row.items ≡ WHOLE_POINTS) case.values.items

-- how many players there are
abbrev pub player_count : GoodsCase → ℕ
player_count case = length case.values.items

-- the points that a player gives a good, both numbered from 1
abbrev pub points : GoodsCase → ℕ → ℕ → ℕ
points case player good = slice_index (slice_index_or case.values.items (player - 1) (record { items = [] })).items (good - 1)

-- the most points that any player gives the good
abbrev pub greatest_points : GoodsCase → ℕ → ℕ
greatest_points case good = fold max 0 (map (λ row. slice_index row.items (good - 1)) case.values.items)

-- a good inserted into a list of goods, before the first good whose greatest points are no more than its own
abbrev pub put_in : GoodsCase → ℕ → List ℕ → List ℕ
put_in case good [] = good ∷ []
put_in case good (other ∷ others) =
    cond (nat_le (greatest_points case other) (greatest_points case good)) (good ∷ other ∷ others) (other ∷ put_in case good others)

-- the goods by falling greatest points, and in the order given where these are equal
abbrev pub sorted_goods : GoodsCase → List ℕ → List ℕ
sorted_goods case [] = []
sorted_goods case (good ∷ goods) = put_in case good (sorted_goods case goods)

-- the search order: all goods by falling greatest points, and by number where these are equal
abbrev pub order_of : GoodsCase → List ℕ
order_of case = sorted_goods case (range_with_len 1 case.facts.goods)

-- a player's utility: the sum of the player's points for the goods that the player owns, where owners are listed in the order of the goods, and may
-- be fewer
abbrev pub utility : GoodsCase → ℕ → List ℕ → List ℕ → ℕ
utility case player [] owners = 0
utility case player (good ∷ goods) [] = 0
utility case player (good ∷ goods) (owner ∷ owners) = cond (owner == player) (points case player good) 0 + utility case player goods owners

-- each player's utility, from the owners of all goods, or of the first few, in search order
abbrev pub utilities : GoodsCase → List ℕ → List ℕ
utilities case owners = map (λ player. utility case player (order_of case) owners) (range_with_len 1 (player_count case))

-- each owner is one of the players
abbrev pub AreOwners : GoodsCase → List ℕ → Type 0
AreOwners case owners = All (λ owner. (1 ≤ owner) × (owner ≤ player_count case)) owners

-- an allocation: a player as owner of every good, listed in search order, while `owners_by_good` lists the same owners by the number of the good
pub record IsAllocation (case : GoodsCase) (owners : List ℕ) : Type 0 where
  pub each : length owners ≡ case.facts.goods
  pub owned : AreOwners case owners

-- one allocation dominates another: it gives each player at least as many points, and some player more
pub record Dominates (case : GoodsCase) (others owners : List ℕ) : Type 0 where
  pub each : (player : ℕ) → 1 ≤ player → player ≤ player_count case → utility case player (order_of case) owners ≤ utility case player (order_of case) others
  pub more : (player : ℕ) × (1 ≤ player) × (player ≤ player_count case) × (utility case player (order_of case) owners < utility case player (order_of case) others)

-- the Nash welfare of an allocation, which is the same in whatever order its owners are listed
abbrev pub pair_of : GoodsCase → List ℕ → Pair
pair_of case owners = nash_welfare (utilities case owners)

-- the first allocation is no better than the second: it has less Nash welfare, or the same and its owners in search order are not the earlier list
abbrev pub IsBehind : GoodsCase → List ℕ → List ℕ → Type 0
IsBehind case others owners =
    IsLess (pair_of case others) (pair_of case owners)
    ⊎ ((pair_of case others ≡ pair_of case owners) × (slice_cmp nat_cmp others owners ≡ Less → ⊥))

-- the best allocation, with its owners in search order: no allocation has more Nash welfare (Caragiannis and others 2016), and none with the same is
-- an earlier list of owners in search order
pub record GoodsBest (case : GoodsCase) (owners : List ℕ) : Type 0 where
  pub allocation : IsAllocation case owners
  pub best : (others : List ℕ) → IsAllocation case others → IsBehind case others owners

-- the owner of a good, found in the owners in search order
abbrev pub owner_of_good : GoodsCase → List ℕ → ℕ → ℕ
owner_of_good case owners good = slice_index owners (position_or_len (λ other. other == good) (order_of case))

-- the owners by the number of the good, as a reader is given them, made from the owners in search order
abbrev pub owners_by_good : GoodsCase → List ℕ → List ℕ
owners_by_good case owners = map (owner_of_good case owners) (range_with_len 1 case.facts.goods)

-- the owners in search order, made from the owners by the number of the good
abbrev pub in_search_order : GoodsCase → List ℕ → List ℕ
in_search_order case owners = map (λ good. slice_index owners (good - 1)) (order_of case)

-- the same case with another number of members
abbrev pub with_members : GoodsCase → ℕ → GoodsCase
with_members case members = record { facts = record { members = members; goods = case.facts.goods; limit = case.facts.limit }; who = case.who; values = case.values }
