-- What is kept of a case of goods: what its search found, and its certificate.
use Rattle.std.specs.Prelude.{ℕ, List, Result, Ok, Err}
use Rattle.bid_rules.specs.declared.cases.Case.TheVariants as case
use Rattle.bid_rules.specs.declared.goods.GoodsCase.{GoodsCase}
use Rattle.certificates.specs.Canonical.{IsCanonical}
use Rattle.nash_search.specs.declared.division.GoodsDivision.{GoodsDivision}
use Rattle.nash_search.specs.declared.division.OverLimit.{OverLimit}
use Rattle.nash_search.specs.Division.{IsGoodsDivision, IsOverLimit}

-- a search of goods ends with the best division of the case, or with its limit if the step count is above it
abbrev pub IsSearched : GoodsCase → Result GoodsDivision OverLimit → Type 0
IsSearched case (Ok division) = IsGoodsDivision case division
IsSearched case (Err over) = IsOverLimit case over

-- the text is the canonical certificate of the case
abbrev pub IsGoodsText : GoodsCase → List ℕ → Type 0
IsGoodsText goods text = IsCanonical (case.Goods goods) text
