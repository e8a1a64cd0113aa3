-- What the solver of estates hands out.
use Rattle.std.specs.Prelude.{◌≡◌, ◌≤◌, ℕ, List, length, take}
use Rattle.bid_rules.specs.declared.goods.GoodsCase.{GoodsCase}
use Rattle.bid_rules.specs.Goods.{GoodsBest, owners_by_good}
use Rattle.estate_checker.specs.Judged.{PrintsBestEstate}
use Rattle.estate_search.specs.Endings.{IsDivision}
use Rattle.estate_solver.specs.declared.outcome.SliceEnd.{SliceEnd}
use Rattle.estate_solver.specs.declared.outcome.SliceEnd.TheVariants.{Best, GoesOn, NotShown, OverLimit, TooLong}

-- the owners, by the number of the good, are those of the best division, and the text begins with a certificate of this size, which prints a valid case and its best
-- division
pub record IsShownBest (case : GoodsCase) (owners : List ℕ) (size : ℕ) (text : List ℕ) : Type 0 where
  pub answer : List ℕ
  pub best : GoodsBest case answer
  pub owned : owners ≡ owners_by_good case answer
  pub room : size ≤ length text
  pub certificate : PrintsBestEstate (take size text)

-- the owners are those of the best division, which a certificate shows, or at least those of some division
abbrev pub EndsSlice : GoodsCase → SliceEnd → List ℕ → List ℕ → Type 0
EndsSlice case (Best size) owners text = IsShownBest case owners size text
EndsSlice case GoesOn owners text = IsDivision case owners
EndsSlice case OverLimit owners text = IsDivision case owners
EndsSlice case TooLong owners text = IsDivision case owners
EndsSlice case NotShown owners text = IsDivision case owners

-- the owners are those of the best division, or those of some division and not said to be more
abbrev pub IsCompared : GoodsCase → ℕ → SliceEnd → List ℕ → Type 0
IsCompared case size (Best shown) owners = (shown ≡ size) × ((answer : List ℕ) × GoodsBest case answer × (owners ≡ owners_by_good case answer))
IsCompared case size NotShown owners = IsDivision case owners
IsCompared case size other owners = ⊥
