-- How many members there are does not change the bound.
use Rattle.std.proofs.Common.{◌≡◌, ℕ, ◌+◌, List, length, drop, sum, ap, ◌∙◌}
use Rattle.std.specs.List.{range_with_len, sum_by}
use Rattle.bid_rules.specs.declared.goods.GoodsCase.{GoodsCase}
use Rattle.bid_rules.specs.Goods.{greatest_points, order_of, points, utilities, utility, with_members}
use Rattle.split_lemmas.proofs.GoodsMembers.{map_same, order_same, own_utility, utilities_same}
use Rattle.nash_bounds.specs.Levels.{bound_of}
use Rattle.nash_bounds.specs.Prefixes.{free_goods, highest, prefix_bound, top_of}

-- how many members there are does not change which goods are free
free_same : (case : GoodsCase) (m n : ℕ) (owners : List ℕ) → free_goods (with_members case m) owners ≡ free_goods (with_members case n) owners
free_same case m n owners = ap (drop (length owners)) (order_same case m n)

-- nor what the players may have
highest_same : (case : GoodsCase) (m n : ℕ) (owners : List ℕ) → highest (with_members case m) owners ≡ highest (with_members case n) owners
highest_same case m n owners = map_same _ _ (range_with_len 1 (length case.values.items)) (λ player.
    ap (λ u. u + sum_by (points (with_members case m) player) (free_goods (with_members case m) owners)) (own_utility case m n owners player)
    ∙ ap (λ goods. utility (with_members case n) player (order_of (with_members case n)) owners + sum_by (points (with_members case m) player) goods) (free_same case m n owners))

-- nor the top
top_same : (case : GoodsCase) (m n : ℕ) (owners : List ℕ) → top_of (with_members case m) owners ≡ top_of (with_members case n) owners
top_same case m n owners =
    ap (λ us. sum us + sum_by (greatest_points (with_members case m)) (free_goods (with_members case m) owners)) (utilities_same case m n owners)
    ∙ ap (λ goods. sum (utilities (with_members case n) owners) + sum_by (greatest_points (with_members case m)) goods) (free_same case m n owners)

-- nor the bound
pub bound_same : (case : GoodsCase) (m n : ℕ) (owners : List ℕ) → prefix_bound (with_members case m) owners ≡ prefix_bound (with_members case n) owners
bound_same case m n owners =
    ap (λ low. bound_of low (highest (with_members case m) owners) (top_of (with_members case m) owners)) (utilities_same case m n owners)
    ∙ ap (λ high. bound_of (utilities (with_members case n) owners) high (top_of (with_members case m) owners)) (highest_same case m n owners)
    ∙ ap (λ top. bound_of (utilities (with_members case n) owners) (highest (with_members case n) owners) top) (top_same case m n owners)
