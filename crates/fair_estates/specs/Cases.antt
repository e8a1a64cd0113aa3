-- Which estate the caller's numbers make, if they make one, and which field is refused otherwise.
use Rattle.std.specs.Prelude.{ℕ, List}
use Rattle.bid_rules.specs.declared.limits.TheConstants.{MOST_GOODS}
use Rattle.body_fields.specs.declared.fields.FieldName.{FieldName}
use Rattle.body_fields.specs.declared.fields.FieldName.TheVariants.{Goods, Limit, Bids}
use Rattle.estate_checker.specs.declared.limits.TheConstants.{MOST_ESTATE_STEPS}
use Rattle.number_cases.specs.Cases.{AreGoods}
use Rattle.number_cases.specs.Fields.{IsFromTo}

-- the numbers are a valid estate: the limit of steps is in range, and the goods, the players and their values are a valid case. A case has a limit of its own, that
-- of the specified search, which doesn't matter here: it is the least
abbrev pub AreEstate : ℕ → ℕ → List ℕ → List ℕ → Type 0
AreEstate goods limit who values = IsFromTo 1 MOST_ESTATE_STEPS limit × AreGoods goods 1 who values

-- the first field that breaks its rule: the goods, the limit, or the bids, which include who has made them
abbrev pub IsEstateField : ℕ → ℕ → FieldName → Type 0
IsEstateField goods limit Goods = IsFromTo 1 MOST_GOODS goods → ⊥
IsEstateField goods limit Limit = IsFromTo 1 MOST_GOODS goods × (IsFromTo 1 MOST_ESTATE_STEPS limit → ⊥)
IsEstateField goods limit Bids = IsFromTo 1 MOST_GOODS goods × IsFromTo 1 MOST_ESTATE_STEPS limit
IsEstateField goods limit other = ⊥
