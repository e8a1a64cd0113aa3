-- Which field of numbers is refused: the first that breaks its rule, in the order in which a case as JSON is tested.
use Rattle.std.specs.Prelude.{◌≤◌, ℕ, List}
use Rattle.bid_rules.specs.declared.limits.TheConstants.{FEWEST_MEMBERS, MOST_FARE_CENTS, MOST_GOODS, MOST_MEMBERS, MOST_PLACES, MOST_RENT, MOST_STEPS}
use Rattle.body_fields.specs.declared.fields.FieldName.{FieldName}
use Rattle.body_fields.specs.declared.fields.FieldName.TheVariants.{Members, Rent, Goods, Limit, Places, Flag, Legs, Bids}
use Rattle.number_cases.specs.Cases.{HasLegs}

-- the number is at least the first of these and at most the second
abbrev pub IsFromTo : ℕ → ℕ → ℕ → Type 0
IsFromTo least most number = (least ≤ number) × (number ≤ most)

-- of a rent: the members, the rent, or the bids
abbrev pub IsRentField : ℕ → ℕ → FieldName → Type 0
IsRentField members rent Members = IsFromTo FEWEST_MEMBERS MOST_MEMBERS members → ⊥
IsRentField members rent Rent = IsFromTo FEWEST_MEMBERS MOST_MEMBERS members × (IsFromTo 1 MOST_RENT rent → ⊥)
IsRentField members rent Bids = IsFromTo FEWEST_MEMBERS MOST_MEMBERS members × IsFromTo 1 MOST_RENT rent
IsRentField members rent other = ⊥

-- of goods: the goods, the limit, or the bids, which include who has made them
abbrev pub IsGoodsField : ℕ → ℕ → FieldName → Type 0
IsGoodsField goods limit Goods = IsFromTo 1 MOST_GOODS goods → ⊥
IsGoodsField goods limit Limit = IsFromTo 1 MOST_GOODS goods × (IsFromTo 1 MOST_STEPS limit → ⊥)
IsGoodsField goods limit Bids = IsFromTo 1 MOST_GOODS goods × IsFromTo 1 MOST_STEPS limit
IsGoodsField goods limit other = ⊥

-- of a fare: the places, the flag fall, the legs, or the bids
abbrev pub IsFareField : ℕ → ℕ → List ℕ → FieldName → Type 0
IsFareField places flag legs Places = IsFromTo 1 MOST_PLACES places → ⊥
IsFareField places flag legs Flag = IsFromTo 1 MOST_PLACES places × (flag ≤ MOST_FARE_CENTS → ⊥)
IsFareField places flag legs Legs = IsFromTo 1 MOST_PLACES places × (flag ≤ MOST_FARE_CENTS) × (HasLegs places flag legs → ⊥)
IsFareField places flag legs Bids = HasLegs places flag legs
IsFareField places flag legs other = ⊥
