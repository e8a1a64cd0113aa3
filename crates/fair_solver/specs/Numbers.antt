-- How the C functions that solve cases of numbers hand out divisions as numbers: rooms, owners or a route, exact amounts, and whole cents beside them.
use Rattle.std.specs.Prelude.{◌≡◌, ◌<◌, ◌⊎◌, ◌^◌, ℕ, ℤ, pos, unsigned_abs, Err, List, length, map}
use Rattle.bid_rules.specs.Cents.{IsCentPlan, prices_by_member}
use Rattle.bid_rules.specs.Fares.{FareBest, coalition_cost, riders_of}
use Rattle.bid_rules.specs.Fractions.{Fraction}
use Rattle.bid_rules.specs.Rent.{RentBest}
use Rattle.bid_rules.specs.declared.cases.FareCase.{FareCase}
use Rattle.bid_rules.specs.declared.rents.RentCase.{RentCase}
use Rattle.command_results.specs.Handing.{HandsOut}
use Rattle.command_results.specs.declared.stop.Stop.TheVariants.{OverLimit}
use Rattle.envy_check.specs.Fairness.{AreBestOwners}
use Rattle.nash_search.specs.Division.{IsOverLimit}
use Rattle.split_frac.specs.declared.frac.Frac.{Frac}
use Rattle.number_cases.specs.Cases.{AreFare, AreGoods, AreRent, fare_in, goods_in, rent_in}
use Rattle.number_cases.specs.Fields.{IsFareField, IsGoodsField, IsRentField}
use Rattle.number_cases.specs.Handing.{IsGiven, Refuses}

-- the lists are the numerators and the denominators of the fractions
abbrev pub AreParts : List Fraction → List ℤ → List ℕ → Type 0
AreParts fractions numerators denominators = (numerators ≡ map (λ fraction. fraction.0) fractions) × (denominators ≡ map (λ fraction. fraction.1) fractions)

-- the numerator fits into 63 bits and a sign
abbrev pub HasSmallNumerator : Frac → Type 0
HasSmallNumerator amount = unsigned_abs amount.num < 2 ^ 63

-- of the best division of a rent: the rooms by member, the exact prices by room, and the cent plan of the prices of the members' rooms
abbrev pub IsRentInNumbers : RentCase → List ℕ → List ℤ → List ℕ → List ℤ → Type 0
IsRentInNumbers case rooms numerators denominators plan =
    (prices : List Fraction) × RentBest case rooms prices × AreParts prices numerators denominators
    × IsCentPlan (prices_by_member rooms prices) (pos case.facts.rent) plan

-- of the best division of a fare: the route, the exact fares by rider, and the cent plan of these
abbrev pub IsFareInNumbers : FareCase → List ℕ → List ℤ → List ℕ → List ℤ → Type 0
IsFareInNumbers case route numerators denominators plan =
    (fares : List Fraction) × FareBest case fares route × AreParts fares numerators denominators
    × IsCentPlan fares (pos (coalition_cost case (riders_of case))) plan

-- the numbers are a valid rent, and its division is handed out, whose size is the number of members; or they are not, and the field is named
abbrev pub IsRentNumbersReply : ℕ → ℕ → List ℕ → ℕ → ℕ → List ℕ → List ℕ → List ℤ → List ℤ → List ℕ → List ℕ → List ℤ → List ℤ → List ℕ → List ℕ → Type 0
IsRentNumbersReply members rent values status size rooms rooms_after numerators numerators_after denominators denominators_after pays pays_after text text_after =
    ((status ≡ 0) × AreRent members rent values × (text_after ≡ text)
    × ((own : List ℕ) × (over : List ℤ) × (under : List ℕ) × (plan : List ℤ) × IsRentInNumbers (rent_in members rent values) own over under plan
    × (size ≡ length plan) × IsGiven own rooms rooms_after × IsGiven over numerators numerators_after × IsGiven under denominators denominators_after
    × IsGiven plan pays pays_after))
    ⊎ ((AreRent members rent values → ⊥) × Refuses (IsRentField members rent) status size text text_after
    × (rooms_after ≡ rooms) × (numerators_after ≡ numerators) × (denominators_after ≡ denominators) × (pays_after ≡ pays))

-- the numbers are a valid case of goods, and the owners are handed out, or the reply says that the step count is above its limit; or they are no such
-- case, and the field is named
abbrev pub IsOwnersReply : ℕ → ℕ → List ℕ → List ℕ → ℕ → ℕ → List ℕ → List ℕ → List ℕ → List ℕ → Type 0
IsOwnersReply goods limit who values status size owners owners_after text text_after =
    ((status ≡ 0) × AreGoods goods limit who values × (text_after ≡ text)
    × ((own : List ℕ) × AreBestOwners (goods_in goods limit who values) own × (size ≡ length own) × IsGiven own owners owners_after))
    ⊎ ((AreGoods goods limit who values × IsOverLimit (goods_in goods limit who values) (record { limit = limit })
    × HandsOut (Err (OverLimit limit)) status size text text_after × (owners_after ≡ owners))
    ⊎ ((AreGoods goods limit who values → ⊥) × Refuses (IsGoodsField goods limit) status size text text_after × (owners_after ≡ owners)))

-- the numbers are a valid fare, and its division is handed out, whose size is the number of riders; or they are not, and the field is named
abbrev pub IsFareNumbersReply : ℕ → ℕ → List ℕ → List ℕ → List ℕ → ℕ → ℕ → List ℕ → List ℕ → List ℤ → List ℤ → List ℕ → List ℕ → List ℤ → List ℤ → List ℕ → List ℕ → Type 0
IsFareNumbersReply places flag legs who at status size route route_after numerators numerators_after denominators denominators_after pays pays_after text text_after =
    ((status ≡ 0) × AreFare places flag legs who at × (text_after ≡ text)
    × ((own : List ℕ) × (over : List ℤ) × (under : List ℕ) × (plan : List ℤ) × IsFareInNumbers (fare_in places flag legs who at) own over under plan
    × (size ≡ length plan) × IsGiven own route route_after × IsGiven over numerators numerators_after × IsGiven under denominators denominators_after
    × IsGiven plan pays pays_after))
    ⊎ ((AreFare places flag legs who at → ⊥) × Refuses (IsFareField places flag legs) status size text text_after
    × (route_after ≡ route) × (numerators_after ≡ numerators) × (denominators_after ≡ denominators) × (pays_after ≡ pays))
