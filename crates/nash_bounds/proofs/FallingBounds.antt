-- Bounds along prefixes, over plain lists of owners.
use Rattle.std.proofs.Common.{ℕ, ◌+◌, ◌<◌, ◌≤◌, List, [], ◌∷◌, ◌++◌, length, arith, All}
use Rattle.std.specs.List.{range_with_len, sum_by, AllZip}
use Rattle.std.proofs.lemmas.List.Elements.{All-map}
use Rattle.bid_rules.specs.declared.goods.GoodsCase.{GoodsCase}
use Rattle.bid_rules.specs.Pairs.{IsAtMost}
use Rattle.bid_rules.specs.Goods.{IsValidGoodsCase, player_count, points, order_of, utility, utilities}
use Rattle.nash_bounds.specs.Bound.{IsBound}
use Rattle.nash_bounds.specs.Prefixes.{free_goods, highest, top_of, prefix_bound}
use Rattle.nash_bounds.proofs.PlayerPoints.{AllZip_map}
use Rattle.nash_bounds.proofs.NarrowerBounds.{narrower}
use Rattle.nash_bounds.proofs.OneBound.{bound_of-is}
use Rattle.nash_bounds.proofs.LongerPrefixes.{each_player, within_whole, low_rises, high_falls, top_falls}
use Rattle.bid_rules.specs.declared.limits.TheConstants.{WHOLE_POINTS}

-- no player has more than they may have
pub in_order : (case : GoodsCase) (owners : List ℕ) → AllZip ◌≤◌ (utilities case owners) (highest case owners)
in_order case owners =
    let low : ℕ → ℕ = λ p. utility case p (order_of case) owners in
    let high : ℕ → ℕ = λ p. utility case p (order_of case) owners + sum_by (points case p) (free_goods case owners) in
    AllZip_map low high (range_with_len 1 (player_count case)) (each_player (λ p. low p ≤ high p) case (λ p _ _. omega arith))

-- no player may have more than all points of a player
pub small : (case : GoodsCase) (owners : List ℕ) → IsValidGoodsCase case → All (λ h. h ≤ WHOLE_POINTS) (highest case owners)
small case owners valid =
    let high : ℕ → ℕ = λ p. utility case p (order_of case) owners + sum_by (points case p) (free_goods case owners) in
    All-map (λ h. h ≤ WHOLE_POINTS) high (range_with_len 1 (player_count case)) (each_player (λ p. high p ≤ WHOLE_POINTS) case (λ p l h. within_whole case owners p valid l h))

-- the bound of a prefix is that of its utilities, of what the players may have, and of its top
pub owners_bound : (case : GoodsCase) (owners : List ℕ) → IsValidGoodsCase case → IsBound (utilities case owners) (highest case owners) (top_of case owners) (prefix_bound case owners)
owners_bound case owners valid =
    bound_of-is (utilities case owners) (highest case owners) (top_of case owners) (in_order case owners) (small case owners valid) (omega arith)

-- one more owner never raises the bound
pub bound_falls : (case : GoodsCase) (owners : List ℕ) (owner : ℕ) → IsValidGoodsCase case → length owners < case.facts.goods → 1 ≤ owner → owner ≤ player_count case
    → IsAtMost (prefix_bound case (owners ++ owner ∷ [])) (prefix_bound case owners)
bound_falls case owners owner valid l a b =
    narrower (utilities case owners) (highest case owners) (utilities case (owners ++ owner ∷ [])) (highest case (owners ++ owner ∷ [])) (top_of case owners) (top_of case (owners ++ owner ∷ []))
    (prefix_bound case owners) (prefix_bound case (owners ++ owner ∷ [])) (low_rises case owners owner l) (high_falls case owners owner l) (top_falls case owners owner l a b)
    (owners_bound case owners valid) (owners_bound case (owners ++ owner ∷ []) valid)
