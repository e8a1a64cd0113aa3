-- What may stand in for the best of all allocations so far in the definition of the step count: that best one, or nothing while it is below the floor.
use Rattle.std.specs.Prelude.{◌≡◌, ℕ, List, Option, Some, None}
use Rattle.bid_rules.specs.declared.goods.GoodsCase.{GoodsCase}
use Rattle.bid_rules.specs.declared.pair.Pair.{Pair}
use Rattle.bid_rules.specs.Pairs.{IsAtMost, IsLess}
use Rattle.bid_rules.specs.Goods.{pair_of}

-- what a search keeps may replace the best of all allocations so far: it is that best one, or nothing is kept and that best one is below the floor
abbrev pub Serves : GoodsCase → Pair → Option (List ℕ) → Option (List ℕ) → Type 0
Serves case floor None None = Unit {0}
Serves case floor None (Some best) = IsLess (pair_of case best) floor
Serves case floor (Some found) None = ⊥
Serves case floor (Some found) (Some best) = (best ≡ found) × IsAtMost floor (pair_of case found)
