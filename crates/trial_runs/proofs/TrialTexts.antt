-- A number has one text of its trial, and its goods are within their limit.
use Rattle.std.proofs.Common.{◌≡◌, ℕ, ◌≤◌, List, [], ◌++◌, refl, sym, ap, ◌∙◌, subst, arith}
use Rattle.bid_rules.specs.declared.cases.Case.TheVariants as case
use Rattle.bid_rules.specs.declared.cases.FareCase.{FareCase}
use Rattle.bid_rules.specs.declared.goods.GoodsCase.{GoodsCase}
use Rattle.bid_rules.specs.declared.limits.TheConstants.{MOST_STEPS}
use Rattle.bid_rules.specs.declared.rents.RentCase.{RentCase}
use Rattle.bid_rules.specs.Rent.{IsValidRentCase}
use Rattle.certificates.specs.declared.division.Division.TheVariants.{Rent, Goods, Fares}
use Rattle.nash_bounds.specs.Steps.{HasSteps}
use Rattle.nash_search.specs.declared.division.GoodsDivision.{GoodsDivision}
use Rattle.nash_search.specs.Division.{IsGoodsDivision}
use Rattle.rent_maximin.specs.declared.division.RentDivision.{RentDivision}
use Rattle.rent_maximin.specs.Division.{IsRentDivision}
use Rattle.split_reports.specs.Trials.{goods_behind, trial_fare, trial_goods, trial_rent}
use Rattle.trial_runs.specs.Texts.{IsChecked, IsFareLine, IsGoodsLine, IsRentLine, IsTrialText, fare_line, goods_line, number_line, rent_line}

-- a rent has one division, a law of rent_maximin
abbrev pub OneRent : Type 0
OneRent = (given : RentCase) (division other : RentDivision) → IsValidRentCase given → IsRentDivision given division → IsRentDivision given other → division ≡ other

-- goods have one division, a law of nash_search
abbrev pub OneOfGoods : Type 0
OneOfGoods = (given : GoodsCase) (division other : GoodsDivision) → IsGoodsDivision given division → IsGoodsDivision given other → division ≡ other

pub one_text : OneRent → OneOfGoods → ((number : ℕ) → IsValidRentCase (trial_rent number)) → (number : ℕ) (text other : List ℕ) → IsTrialText number text → IsTrialText number other → text ≡ other
one_text one_rent one_of_goods valid number text other a b =
    let rents = one_rent (trial_rent number) a.rent b.rent (valid number) a.rent_checked.best b.rent_checked.best in
    let goods = one_of_goods (trial_goods number) a.goods b.goods a.goods_checked.best b.goods_checked.best in
    let totals = a.fare_checked.best.total ∙ sym b.fare_checked.best.total in
    a.is
    ∙ ap (λ (rent : RentDivision). number_line number ++ rent_line rent.least ++ goods_line a.goods.pair a.goods.steps ++ fare_line a.fare.total) rents
    ∙ ap (λ (goods : GoodsDivision). number_line number ++ rent_line b.rent.least ++ goods_line goods.pair goods.steps ++ fare_line a.fare.total) goods
    ∙ ap (λ (total : ℕ). number_line number ++ rent_line b.rent.least ++ goods_line b.goods.pair b.goods.steps ++ fare_line total) totals
    ∙ sym b.is

-- the line of a number, and after it the lines of the three cases, are the text of its trial
pub text_of_lines : (number : ℕ) (rent : RentCase) (goods : GoodsCase) (fare : FareCase) (none first second third all : List ℕ) → rent ≡ trial_rent number → goods ≡ trial_goods number
    → fare ≡ trial_fare number → none ≡ [] → first ≡ none ++ number_line number → IsRentLine rent first second → IsGoodsLine goods second third → IsFareLine fare third all → IsTrialText number all
text_of_lines number rent goods fare none first second third all rents of_goods fares empty head a b c = record {
  rent = a.0;
  goods = b.0;
  fare = c.0;
  rent_checked = subst (λ (given : RentCase). IsChecked (case.Rent given) (Rent a.0)) rents a.1;
  goods_checked = subst (λ (given : GoodsCase). IsChecked (case.Goods given) (Goods b.0)) of_goods b.1;
  fare_checked = subst (λ (given : FareCase). IsChecked (case.Fares given) (Fares c.0)) fares c.1;
  is = c.2
      ∙ ap (λ l. l ++ fare_line c.0.total)
      (b.2 ∙ ap (λ l. l ++ goods_line b.0.pair b.0.steps) (a.2 ∙ ap (λ l. l ++ rent_line a.0.least) (head ∙ ap (λ l. l ++ number_line number) empty)));
}

-- the limit of the goods of a trial
limit_is : (number : ℕ) → (trial_goods number).facts.limit ≡ MOST_STEPS
unfolding goods_behind
limit_is number = refl

-- no step count of them is above it, since it is at most the number of all prefixes
pub goods_within : ((number steps : ℕ) → HasSteps (trial_goods number) steps → steps ≤ 87360) → (number : ℕ) (goods : GoodsCase) → goods ≡ trial_goods number → (steps : ℕ) → HasSteps goods steps
    → steps ≤ goods.facts.limit
goods_within few number goods is steps has =
    let le = few number steps (subst (λ (given : GoodsCase). HasSteps given steps) is has) in
    let limit = ap (λ (given : GoodsCase). given.facts.limit) is ∙ limit_is number in
    omega (arith, le, limit)
