-- The division of a case of any kind, as its solver gives it.
use Rattle.bid_rules.specs.declared.cases.Case.{Case}
use Rattle.bid_rules.specs.declared.cases.Case.TheVariants as case
use Rattle.certificates.specs.declared.division.Division.{Division}
use Rattle.certificates.specs.declared.division.Division.TheVariants.{Rent, Goods, Fares}
use Rattle.nash_search.specs.Division.{IsGoodsDivision}
use Rattle.rent_maximin.specs.Division.{IsRentDivision}
use Rattle.shapley_core.specs.Division.{IsFareDivision}

-- the division is the one that the solver of its kind gives for the case
abbrev pub IsDivisionOf : Case → Division → Type 0
IsDivisionOf (case.Rent rent) (Rent division) = IsRentDivision rent division
IsDivisionOf (case.Goods goods) (Goods division) = IsGoodsDivision goods division
IsDivisionOf (case.Fares fares) (Fares division) = IsFareDivision fares division
IsDivisionOf given division = ⊥
