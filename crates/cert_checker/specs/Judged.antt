-- What a judge says about certificate text, and what a yes shows.
use Rattle.std.specs.Prelude.{◌≡◌, ℕ, ◌<◌, ◌≤◌, List, length, Option, Result, Ok, Err}
use Rattle.std.specs.Io.KnownBytes.{IsAtEnd}
use Rattle.bid_rules.specs.Facts.{IsValidFareCase}
use Rattle.bid_rules.specs.Fares.{FareBest}
use Rattle.bid_rules.specs.Goods.{GoodsBest, IsValidGoodsCase, owners_by_good}
use Rattle.bid_rules.specs.Rent.{IsValidRentCase, RentBest}
use Rattle.cert_reader.specs.declared.ends.TextEnd.{TextEnd}
use Rattle.cert_reader.specs.declared.forms.Counts.{Counts}
use Rattle.cert_reader.specs.declared.limits.TheConstants.{MOST_BYTES}
use Rattle.cert_reader.specs.Reading.{IsEnd}
use Rattle.cert_reader.specs.Shapes.{HasRows}
use Rattle.cert_reader.specs.Text.{IsText, Said}
use Rattle.cert_reader.specs.Views.{OfFares, OfGoods, OfRent, CertificateView, counts_of, said_of}
use Rattle.fare_rules.specs.Printed as fares
use Rattle.fare_rules.specs.Rules.{rules_of_fares}
use Rattle.goods_rules.specs.Printed as goods
use Rattle.goods_rules.specs.Rules.{rules_of_goods}
use Rattle.rent_rules.specs.Printed as rent
use Rattle.rent_rules.specs.Rules.{rules_of_rent}
use Rattle.rule_verdicts.specs.declared.verdict.Verdict.{Verdict}
use Rattle.rule_verdicts.specs.declared.verdict.Verdict.TheVariants.{Yes, No}
use Rattle.rule_verdicts.specs.Verdicts.{IsVerdictOf, rule_at}

-- the rules of the certificate's kind, in order
abbrev pub rules_of : CertificateView → List (Type 0)
rules_of (OfRent view) = rules_of_rent view
rules_of (OfGoods view) = rules_of_goods view
rules_of (OfFares view) = rules_of_fares view

-- the rule with this number, counted from 1
abbrev pub rule_of : CertificateView → ℕ → Type 0
rule_of view number = rule_at (rules_of view) number

-- how many rules the certificate's kind has
abbrev pub rule_count : CertificateView → ℕ
rule_count view = length (rules_of view)

-- this is the verdict of the rules of the certificate's kind
abbrev pub GivesVerdict : CertificateView → Verdict → Type 0
GivesVerdict view verdict = IsVerdictOf (rules_of view) verdict

-- the bytes are certificate text that says this
pub record SaysView (bytes : List ℕ) (view : CertificateView) : Type 0 where
  pub is_text : IsText bytes (counts_of view) (said_of view)
  pub rows : HasRows view

-- the bytes are certificate text, and all rules of its kind hold
pub record IsCertificate (bytes : List ℕ) : Type 0 where
  pub view : CertificateView
  pub says : SaysView bytes view
  pub rules : (number : ℕ) → 1 ≤ number → number ≤ rule_count view → rule_of view number

-- the bytes are certificate text, and this is the first rule of its kind that does not hold
pub record BreaksRule (bytes : List ℕ) (number : ℕ) : Type 0 where
  pub view : CertificateView
  pub says : SaysView bytes view
  pub low : 1 ≤ number
  pub high : number ≤ rule_count view
  pub before : (other : ℕ) → 1 ≤ other → other < number → rule_of view other
  pub broken : rule_of view number → ⊥

-- the verdict on certificate text: yes if it is a certificate, and no with the first rule that it breaks
abbrev pub IsJudged : List ℕ → Verdict → Type 0
IsJudged bytes Yes = IsCertificate bytes
IsJudged bytes (No number) = BreaksRule bytes number

-- no verdict is the right one for the bytes
abbrev pub HasNoVerdict : List ℕ → Type 0
HasNoVerdict bytes = (verdict : Verdict) → IsJudged bytes verdict → ⊥

-- the bytes are not certificate text
abbrev pub IsNoText : List ℕ → Type 0
IsNoText bytes = (counts : Counts) (said : List Said) → IsText bytes counts said → ⊥

-- the printed case is valid, and the printed division is the best division of the case; owners are printed in the order of the goods
abbrev pub IsBest : CertificateView → Type 0
IsBest (OfRent view) = IsValidRentCase (rent.printed_case view) × RentBest (rent.printed_case view) (rent.printed_rooms view) view.prices
IsBest (OfGoods view) = IsValidGoodsCase (goods.printed_case view) × GoodsBest (goods.printed_case view) (goods.printed_answer view)
    × (owners_by_good (goods.printed_case view) (goods.printed_answer view) ≡ goods.printed_owners view)
IsBest (OfFares view) = IsValidFareCase (fares.printed_case view) × FareBest (fares.printed_case view) view.fares (fares.printed_route view)

-- the bytes are certificate text that prints a valid case and its best division
pub record PrintsBest (bytes : List ℕ) : Type 0 where
  pub view : CertificateView
  pub is_text : IsText bytes (counts_of view) (said_of view)
  pub best : IsBest view

-- the bytes taken from the source are certificate text, the answer is the verdict on them, and the source has ended; or the answer is why they are not
-- certificate text
abbrev pub IsJudgement : Option (List ℕ) → List ℕ → Result Verdict TextEnd → Type 0
IsJudgement left taken (Ok verdict) = IsJudged taken verdict × (length taken ≤ MOST_BYTES) × IsAtEnd left
IsJudgement left taken (Err end) = IsEnd end left taken
