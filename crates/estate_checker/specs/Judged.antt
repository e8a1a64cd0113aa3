-- What the judge says about the text of an estate, and what a yes shows.
use Rattle.std.specs.Prelude.{◌≡◌, ℕ, ◌≤◌, List, length}
use Rattle.bid_rules.specs.Goods.{GoodsBest, IsValidGoodsCase, owners_by_good}
use Rattle.cert_reader.specs.declared.limits.TheConstants.{MOST_BYTES}
use Rattle.estate_checker.specs.Printed.{printed_answer, printed_case, printed_owners}
use Rattle.estate_checker.specs.Rules.{estate_rule, rules_of_estate}
use Rattle.estate_texts.specs.Texts.{EstateView, IsEstateText}
use Rattle.rule_verdicts.specs.declared.verdict.Verdict.{Verdict}
use Rattle.rule_verdicts.specs.Verdicts.{IsVerdictOf}

-- all nine rules hold
abbrev pub AllRulesHold : EstateView → Type 0
AllRulesHold view = (number : ℕ) → 1 ≤ number → number ≤ 9 → estate_rule view number

-- the bytes are the text of an estate, no longer than a text may be, and all nine rules hold
pub record IsEstateCertificate (bytes : List ℕ) : Type 0 where
  pub view : EstateView
  pub is_text : IsEstateText bytes view
  pub short : length bytes ≤ MOST_BYTES
  pub rules : AllRulesHold view

-- the bytes are the text of an estate, no longer than a text may be, and this is the verdict of the nine rules: yes if all hold, otherwise no with the first that
-- does not
pub record IsEstateVerdict (bytes : List ℕ) (verdict : Verdict) : Type 0 where
  pub view : EstateView
  pub is_text : IsEstateText bytes view
  pub short : length bytes ≤ MOST_BYTES
  pub gives : IsVerdictOf (rules_of_estate view) verdict

-- the bytes are the text of an estate that prints a valid case and its best division; owners are printed in the order of the goods
pub record PrintsBestEstate (bytes : List ℕ) : Type 0 where
  pub view : EstateView
  pub is_text : IsEstateText bytes view
  pub valid : IsValidGoodsCase (printed_case view)
  pub best : GoodsBest (printed_case view) (printed_answer view)
  pub owners : owners_by_good (printed_case view) (printed_answer view) ≡ printed_owners view
