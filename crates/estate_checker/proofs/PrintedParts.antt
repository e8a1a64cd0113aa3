-- What was read of a text is what it prints.
use Rattle.std.proofs.Common.{◌≡◌, ◌↔◌, ℕ, ℤ, pos, ◌+◌, ◌≤ℤ◌, List, [], ◌∷◌, IsTrue, MatchOption, None, Some, Bool, length, map, take, drop, unsigned_abs, arith, refl, sym, ap, ◌∙◌, subst}
use Rattle.std.specs.Prelude.{Option, cond, min, nat_lt}
use Rattle.std.proofs.lemmas.Bool.Decides.{nat_tests}
use Rattle.std.proofs.lemmas.List.{drop-map, length-map, take-map}
use Rattle.bid_rules.specs.declared.goods.GoodsCase.{GoodsCase}
use Rattle.bid_rules.specs.Goods.{utilities}
use Rattle.bid_rules.specs.Pairs.{positives}
use Rattle.estate_bounds.specs.Counts.{IsShort}
use Rattle.estate_bounds.specs.Shown.{shares_of}
use Rattle.estate_checker.specs.Printed.{printed_answer, printed_case}
use Rattle.estate_checker.specs.Rules.{HasCase, HasShort}
use Rattle.estate_checker.specs.Said.{IsGroundOf, IsSaid}
use Rattle.estate_checker.proofs.BodyRows.{rows_long}
use Rattle.estate_judge.specs.declared.ground.Ground.{Ground}
use Rattle.estate_texts.specs.declared.text.EstateText.{EstateText}
use Rattle.estate_texts.specs.Forms.{Row, row_numbers, rows_numbers}
use Rattle.estate_texts.specs.Given.{GivenLine}
use Rattle.estate_texts.specs.Texts.{EstateView, limit_of, short_of, values_of, who_of}
use Rattle.rule_verdicts.specs.PrintedGoods.{ArePrintedGoods, printed_goods}
use Rattle.rule_verdicts.specs.Ranges.{AreBetween}

-- how many lines of numbers were read
pub said_long : (text : EstateText) (given : List GivenLine) → IsSaid text given → length text.body.items ≡ text.players + 5
said_long text given h = sym (length-map text.body.items row_numbers) ∙ rows_long text.players text.goods (rows_numbers text.body.items) h.can.body

-- the numbers of some lines are those of the lines
pub values_read : (n : ℕ) (rows all : List Row) → rows ≡ take n (drop 2 all) → map row_numbers rows ≡ take n (drop 2 (rows_numbers all))
values_read n rows all is = ap (map row_numbers) is ∙ sym (take-map row_numbers n (drop 2 all)) ∙ ap (take n) (sym (drop-map row_numbers 2 all))

-- the case
abbrev IsCaseOf : EstateView → List ℤ → List (List ℤ) → Option GoodsCase → Type 0
IsCaseOf view who rows r =
    MatchOption r (ArePrintedGoods view.goods 1 who rows → ⊥) (λ case. ArePrintedGoods view.goods 1 who rows × (case ≡ printed_goods view.goods 1 who rows))

pub case_read : (r : Option GoodsCase) (view : EstateView) (who : List ℤ) (rows : List (List ℤ)) → who ≡ who_of view → rows ≡ values_of view
    → (pos 1 ≤ℤ limit_of view) × (limit_of view ≤ℤ pos 1000000)
    → MatchOption r (ArePrintedGoods view.goods 1 who rows → ⊥) (λ case. ArePrintedGoods view.goods 1 who rows × (case ≡ printed_goods view.goods 1 who rows))
    → MatchOption r (HasCase view → ⊥) (λ case. HasCase view × (case ≡ printed_case view))
case_read r view who rows who_is rows_is limit h =
    told r (subst (λ (xs : List (List ℤ)). IsCaseOf view (who_of view) xs r) rows_is (subst (λ (xs : List ℤ). IsCaseOf view xs rows r) who_is h))
  where
    told : (o : Option GoodsCase) → IsCaseOf view (who_of view) (values_of view) o → MatchOption o (HasCase view → ⊥) (λ case. HasCase view × (case ≡ printed_case view))
    told None none = λ has. none has.printed
    told (Some case) some = (record { limit = limit; printed = some.0 }, some.1)

-- a positive number is counted, and 0 is not
counts_one : (u rest count : ℕ) → rest ≡ count → (us : List ℕ) → length us ≡ rest → length (cond (nat_lt 0 u) (u ∷ us) us) ≡ min u 1 + count
counts_one u rest count e us long = grind (arith, nat_tests, e, long)

-- there are as many shares as positive utilities
shares_count : (us : List ℕ) → length (shares_of us) ≡ positives us
shares_count [] = refl
shares_count (u ∷ us) = counts_one u (length (shares_of us)) (positives us) (shares_count us) (shares_of us) refl

-- the players who are short of goods
pub short_read : (view : EstateView) (ground : Ground) (numbers : List ℕ) (count : ℕ) (r : Bool) → IsGroundOf view ground → AreBetween 1 view.players (short_of view) → numbers ≡ map unsigned_abs (short_of view)
    → count ≡ length ground.shares.items → IsTrue r ↔ IsShort ground.case numbers count → IsTrue r ↔ HasShort view
short_read view ground numbers count r g range is many test =
    let all : count ≡ positives (utilities (printed_case view) (printed_answer view)) =
    many ∙ ap length g.is_ground.shares ∙ shares_count (utilities ground.case ground.owners.items)
    ∙ ap (λ (case : GoodsCase). positives (utilities case ground.owners.items)) g.is_case ∙ ap (λ (xs : List ℕ). positives (utilities (printed_case view) xs)) g.is_answer in
    let here : IsTrue r ↔ IsShort (printed_case view) (map unsigned_abs (short_of view)) (positives (utilities (printed_case view) (printed_answer view))) =
    subst (λ (k : ℕ). IsTrue r ↔ IsShort (printed_case view) (map unsigned_abs (short_of view)) k) all
    (subst (λ (xs : List ℕ). IsTrue r ↔ IsShort (printed_case view) xs count) is (subst (λ (case : GoodsCase). IsTrue r ↔ IsShort case numbers count) g.is_case test)) in
    (λ yes. record { players = range; short = here.0 yes }, λ h. here.1 h.short)
