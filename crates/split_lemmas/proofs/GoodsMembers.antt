-- How many members there are does not change what is said of players and goods, and players are no more than members can be.
use Rattle.std.proofs.Common.{◌≡◌, ℕ, ◌+◌, ◌≤◌, List, [], ◌∷◌, length, cond, nat_le, ◌==◌, arith, refl, ap, ◌∙◌}
use Rattle.std.specs.List.{range_with_len}
use Rattle.bid_rules.specs.declared.goods.GoodsCase.{GoodsCase}
use Rattle.bid_rules.specs.Goods.{GoodsBest, IsValidGoodsCase, greatest_points, order_of, pair_of, IsBehind, player_count, points, put_in, sorted_goods, utilities, utility, with_members}
use Rattle.bid_rules.specs.Pairs.{nash_welfare}
use Rattle.split_lemmas.proofs.ListPlaces.{rising_few}
pub use Rattle.split_lemmas.proofs.MappedLists.{map_same}

-- a good is put in at the same place
put_in_same : (case : GoodsCase) (m n good : ℕ) (goods : List ℕ) → put_in (with_members case m) good goods ≡ put_in (with_members case n) good goods
put_in_same case m n good [] = refl
put_in_same case m n good (other ∷ others) =
    ap (λ xs. cond (nat_le (greatest_points (with_members case m) other) (greatest_points (with_members case m) good)) (good ∷ other ∷ others) (other ∷ xs)) (put_in_same case m n good others)

-- sorted goods are the same
sorted_same : (case : GoodsCase) (m n : ℕ) (goods : List ℕ) → sorted_goods (with_members case m) goods ≡ sorted_goods (with_members case n) goods
sorted_same case m n [] = refl
sorted_same case m n (good ∷ goods) = put_in_same case m n good (sorted_goods (with_members case m) goods) ∙ ap (put_in (with_members case n) good) (sorted_same case m n goods)

-- the search order is the same
pub order_same : (case : GoodsCase) (m n : ℕ) → order_of (with_members case m) ≡ order_of (with_members case n)
order_same case m n = sorted_same case m n (range_with_len 1 case.facts.goods)

-- a player's utility of some goods is the same
utility_same : (case : GoodsCase) (m n player : ℕ) (goods owners : List ℕ) → utility (with_members case m) player goods owners ≡ utility (with_members case n) player goods owners
utility_same case m n player [] owners = refl
utility_same case m n player (good ∷ goods) [] = refl
utility_same case m n player (good ∷ goods) (owner ∷ owners) =
    ap (λ u. cond (owner == player) (points (with_members case m) player good) 0 + u) (utility_same case m n player goods owners)

-- so is a player's utility
pub own_utility : (case : GoodsCase) (m n : ℕ) (owners : List ℕ) (player : ℕ)
    → utility (with_members case m) player (order_of (with_members case m)) owners ≡ utility (with_members case n) player (order_of (with_members case n)) owners
own_utility case m n owners player =
    ap (λ goods. utility (with_members case m) player goods owners) (order_same case m n) ∙ utility_same case m n player (order_of (with_members case n)) owners

-- all utilities
pub utilities_same : (case : GoodsCase) (m n : ℕ) (owners : List ℕ) → utilities (with_members case m) owners ≡ utilities (with_members case n) owners
utilities_same case m n owners = map_same _ _ (range_with_len 1 (length case.values.items)) (own_utility case m n owners)

-- the pair
pub pair_same : (case : GoodsCase) (m n : ℕ) (owners : List ℕ) → pair_of (with_members case m) owners ≡ pair_of (with_members case n) owners
pair_same case m n owners = ap nash_welfare (utilities_same case m n owners)

-- and the best allocation
pub best_same : (case : GoodsCase) (m n : ℕ) (answer : List ℕ) → GoodsBest (with_members case m) answer → GoodsBest (with_members case n) answer
best_same case m n answer best = record {
  allocation = record { each = best.allocation.each; owned = best.allocation.owned };
  best = λ others h. behind others (best.best others (record { each = h.each; owned = h.owned }));
}
  where
    behind : (others : List ℕ) → IsBehind (with_members case m) others answer → IsBehind (with_members case n) others answer
    behind others h = rw (pair_same case n m others, pair_same case n m answer) h

-- there are no more players than members
pub players_few : (case : GoodsCase) → IsValidGoodsCase case → player_count case ≤ case.facts.members
players_few case valid = omega (arith, valid.each, rising_few case.who.items case.facts.members valid.rising valid.members)
