-- The text of a trial: what the best divisions of its cases are, and that their certificates are judged yes.
use Rattle.std.specs.Prelude.{◌≡◌, ℕ, List, [], ◌∷◌, ◌++◌, codes}
use Rattle.std.specs.Fmt.{decimal}
use Rattle.bid_rules.specs.declared.cases.Case.{Case}
use Rattle.bid_rules.specs.declared.cases.Case.TheVariants as case
use Rattle.bid_rules.specs.declared.cases.FareCase.{FareCase}
use Rattle.bid_rules.specs.declared.goods.GoodsCase.{GoodsCase}
use Rattle.bid_rules.specs.declared.pair.Pair.{Pair}
use Rattle.bid_rules.specs.declared.rents.RentCase.{RentCase}
use Rattle.cert_checker.specs.Judged.{IsJudged}
use Rattle.certificates.specs.Canonical.{canonical_text}
use Rattle.certificates.specs.declared.division.Division.{Division}
use Rattle.certificates.specs.declared.division.Division.TheVariants.{Rent, Goods, Fares}
use Rattle.certificates.specs.Division.{IsDivisionOf}
use Rattle.nash_search.specs.declared.division.GoodsDivision.{GoodsDivision}
use Rattle.rent_maximin.specs.declared.division.RentDivision.{RentDivision}
use Rattle.shapley_core.specs.declared.division.FareDivision.{FareDivision}
use Rattle.split_frac.specs.declared.frac.Frac.{Frac}
use Rattle.split_frac.specs.Frac.{frac_text}
use Rattle.split_frac.specs.Texts.{line_of}
use Rattle.split_reports.specs.Trials.{trial_fare, trial_goods, trial_rent}
use Rattle.rule_verdicts.specs.declared.verdict.Verdict.TheVariants.{Yes}

-- the division is the best of the case, and its canonical certificate is judged yes
pub record IsChecked (given : Case) (division : Division) : Type 0 where
  pub best : IsDivisionOf given division
  pub verdict : IsJudged (canonical_text given division) Yes

-- the line of the trial's number
abbrev pub number_line : ℕ → List ℕ
number_line number = line_of (codes "trial " ∷ decimal number ∷ [])

-- the line of the rent: the least utility of a member
abbrev pub rent_line : Frac → List ℕ
rent_line least = line_of (codes "rent least " ∷ frac_text least ∷ codes " check yes" ∷ [])

-- the line of the goods: how many players get something, the product of their utilities, and the steps of the search
abbrev pub goods_line : Pair → ℕ → List ℕ
goods_line pair steps =
    line_of (codes "goods count " ∷ decimal pair.count ∷ codes " product " ∷ decimal pair.product ∷ codes " steps " ∷ decimal steps ∷ codes " check yes" ∷ [])

-- the line of the fare: what all riders cost together
abbrev pub fare_line : ℕ → List ℕ
fare_line total = line_of (codes "fares total " ∷ decimal total ∷ codes " check yes" ∷ [])

-- the text of a trial: its number, and a line for each of its three cases, on a best division whose certificate is judged yes
pub record IsTrialText (number : ℕ) (text : List ℕ) : Type 0 where
  pub rent : RentDivision
  pub goods : GoodsDivision
  pub fare : FareDivision
  pub rent_checked : IsChecked (case.Rent (trial_rent number)) (Rent rent)
  pub goods_checked : IsChecked (case.Goods (trial_goods number)) (Goods goods)
  pub fare_checked : IsChecked (case.Fares (trial_fare number)) (Fares fare)
  pub is : text ≡ number_line number ++ rent_line rent.least ++ goods_line goods.pair goods.steps ++ fare_line fare.total

-- the line of a best division of the rent, whose certificate is judged yes, was appended
abbrev pub IsRentLine : RentCase → List ℕ → List ℕ → Type 0
IsRentLine given before now = (division : RentDivision) × IsChecked (case.Rent given) (Rent division) × (now ≡ before ++ rent_line division.least)

-- the line of a best division of the goods, whose certificate is judged yes, was appended
abbrev pub IsGoodsLine : GoodsCase → List ℕ → List ℕ → Type 0
IsGoodsLine given before now = (division : GoodsDivision) × IsChecked (case.Goods given) (Goods division) × (now ≡ before ++ goods_line division.pair division.steps)

-- the line of a best division of the fare, whose certificate is judged yes, was appended
abbrev pub IsFareLine : FareCase → List ℕ → List ℕ → Type 0
IsFareLine given before now = (division : FareDivision) × IsChecked (case.Fares given) (Fares division) × (now ≡ before ++ fare_line division.total)
