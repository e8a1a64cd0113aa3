-- The reports of all kinds.
use Rattle.std.specs.Prelude.{ℕ, List}
use Rattle.bid_rules.specs.declared.cases.Case.{Case}
use Rattle.bid_rules.specs.declared.cases.Case.TheVariants as case
use Rattle.certificates.specs.declared.division.Division.{Division}
use Rattle.certificates.specs.declared.division.Division.TheVariants.{Rent, Goods, Fares}
use Rattle.split_json.specs.Reading.{CaseData}
use Rattle.split_reports.specs.Fares.{IsFaresReport}
use Rattle.split_reports.specs.Goods.{IsGoodsReport}
use Rattle.split_reports.specs.Names.{NamesData, names_of}
use Rattle.split_reports.specs.Rent.{IsRentReport}

-- the text is the report of this division of the case, with these names
abbrev pub IsNamedReport : NamesData → Case → Division → List ℕ → Type 0
IsNamedReport names (case.Rent rent) (Rent division) text = IsRentReport names rent division text
IsNamedReport names (case.Goods goods) (Goods division) text = IsGoodsReport names goods division text
IsNamedReport names (case.Fares fares) (Fares division) text = IsFaresReport names fares division text
IsNamedReport names case division text = ⊥

-- the text is the report of this division of the case
abbrev pub IsReport : CaseData → Case → Division → List ℕ → Type 0
IsReport given case division text = IsNamedReport (names_of given) case division text
