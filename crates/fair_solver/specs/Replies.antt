-- What the solvers answer to a caller's numbers.
use Rattle.std.specs.Prelude.{◌≡◌, ◌≤◌, ◌⊎◌, ℕ, List, Err, length, take}
use Rattle.bid_rules.specs.declared.cases.Case.{Case}
use Rattle.bid_rules.specs.declared.cases.Case.TheVariants.{Rent, Goods, Fares}
use Rattle.certificates.specs.Canonical.{IsCanonical}
use Rattle.command_results.specs.Handing.{HandsOut}
use Rattle.command_results.specs.declared.stop.Stop.TheVariants.{OverLimit}
use Rattle.nash_search.specs.Division.{IsOverLimit}
use Rattle.number_cases.specs.Cases.{AreFare, AreGoods, AreRent, fare_in, goods_in, rent_in}
use Rattle.number_cases.specs.Fields.{IsFareField, IsGoodsField, IsRentField}
use Rattle.number_cases.specs.Handing.{Refuses}

-- the size is that of the case's canonical certificate, and a buffer with room for it begins with it
abbrev pub HandsCertificate : Case → ℕ → List ℕ → List ℕ → Type 0
HandsCertificate case size before after = (text : List ℕ) × IsCanonical case text × (size ≡ length text) × (length text ≤ length before → take size after ≡ text)

-- the numbers are a valid rent, and its certificate is handed out; or they are not, and the field is named
abbrev pub IsRentReply : ℕ → ℕ → List ℕ → ℕ → ℕ → List ℕ → List ℕ → Type 0
IsRentReply members rent values status size before after =
    ((status ≡ 0) × AreRent members rent values × HandsCertificate (Rent (rent_in members rent values)) size before after)
    ⊎ ((AreRent members rent values → ⊥) × Refuses (IsRentField members rent) status size before after)

-- the numbers are a valid case of goods, and its certificate is handed out, or the reply says that the step count is above its limit; or they are
-- no such case, and the field is named
abbrev pub IsGoodsReply : ℕ → ℕ → List ℕ → List ℕ → ℕ → ℕ → List ℕ → List ℕ → Type 0
IsGoodsReply goods limit who values status size before after =
    ((status ≡ 0) × AreGoods goods limit who values × HandsCertificate (Goods (goods_in goods limit who values)) size before after)
    ⊎ ((AreGoods goods limit who values × IsOverLimit (goods_in goods limit who values) (record { limit = limit }) × HandsOut (Err (OverLimit limit)) status size before after)
    ⊎ ((AreGoods goods limit who values → ⊥) × Refuses (IsGoodsField goods limit) status size before after))

-- the numbers are a valid fare, and its certificate is handed out; or they are not, and the field is named
abbrev pub IsFareReply : ℕ → ℕ → List ℕ → List ℕ → List ℕ → ℕ → ℕ → List ℕ → List ℕ → Type 0
IsFareReply places flag legs who at status size before after =
    ((status ≡ 0) × AreFare places flag legs who at × HandsCertificate (Fares (fare_in places flag legs who at)) size before after)
    ⊎ ((AreFare places flag legs who at → ⊥) × Refuses (IsFareField places flag legs) status size before after)
