-- A case has one publication of each kind.
use Rattle.std.proofs.Common.{◌≡◌, ◌≢◌, ℕ, ◌==◌, Bool, true, false, List, Result, Ok, Err, sym, ap, ◌∙◌, subst}
use Rattle.bid_rules.specs.declared.bids.Facts.{Facts}
use Rattle.bid_rules.specs.declared.bids.Facts.TheVariants as facts
use Rattle.bid_rules.specs.declared.cases.Case.{Case}
use Rattle.bid_rules.specs.declared.cases.Case.TheVariants as cases
use Rattle.bid_rules.specs.declared.cases.Missing.{Missing}
use Rattle.bid_rules.specs.declared.goods.GoodsCase.{GoodsCase}
use Rattle.bid_rules.specs.Facts.{IsValidCase, case_of}
use Rattle.certificates.specs.Canonical.{IsCanonical}
use Rattle.bid_rules.specs.declared.cases.FareCase.{FareCase}
use Rattle.certificates.specs.declared.division.Division.{Division}
use Rattle.certificates.specs.declared.division.Division.TheVariants as divided
use Rattle.adjusted_winner.specs.Texts.{IsWinnerText}
use Rattle.bid_rules.specs.Goods.{player_count}
use Rattle.fare_audit.specs.Texts.{IsFareAuditText}
use Rattle.goods_audit.specs.Texts.{IsDivisionAudit}
use Rattle.nash_search.specs.declared.division.GoodsDivision.{GoodsDivision}
use Rattle.nash_search.specs.Division.{IsGoodsDivision}
use Rattle.split_reports.specs.Names.{NamesData, names_of}
use Rattle.shapley_core.specs.declared.division.FareDivision.{FareDivision}
use Rattle.shapley_core.specs.Division.{IsFareDivision}
use Rattle.certificates.specs.Division.{IsDivisionOf}
use Rattle.reply_texts.specs.Divisions.{IsDivisionText}
use Rattle.sealed_core.specs.declared.commands.What.{What}
use Rattle.sealed_core.specs.declared.commands.What.TheVariants as what
use Rattle.split_json.specs.Reading.{CaseData, IsReady}
use Rattle.split_reports.specs.Reports.{IsReport}
use Rattle.split_solve.specs.declared.solving.SolveFault.{SolveFault}
use Rattle.split_solve.specs.declared.solving.SolveFault.TheVariants as fault
use Rattle.split_solve.specs.Solving.{IsSolved}
use Rattle.reply_texts.specs.declared.contents.ContentType.{ContentType}
use Rattle.reply_texts.specs.declared.contents.ContentType.TheVariants.{Json, Plain}
use Rattle.reply_texts.specs.Contents.{ContentView, told_as}
use Rattle.publications.specs.Publications.{IsAudit, IsPublication, IsPublished, IsSuccessWith, TellsAudit, TellsBest, TellsEnd, TellsFault, TellsPair, TellsWinner}

-- two successes of one type, with the one text of which this is so
same_text : (type : ContentType) (so : List ℕ → Type 0) (told other : ContentView) → ((text others : List ℕ) → so text → so others → text ≡ others) → IsSuccessWith type so told → IsSuccessWith type so other → told ≡ other
same_text type so told other one a b =
    a.0 ∙ ap (told_as 200 type) (one told.text other.text a.1 b.1) ∙ sym b.0

-- a fault is told in one way
same_fault : (f : SolveFault) (told other : ContentView) → TellsFault f told → TellsFault f other → told ≡ other
same_fault (fault.Void missing) told other a b = a ∙ sym b
same_fault (fault.OverLimit limit) told other a b = a ∙ sym b
same_fault fault.NoMemory told other a b = absurd a

-- an end that is told is not a lack of memory
not_memory : (asked : What) (given : CaseData) (end : Result (Case × Division) SolveFault) (told : ContentView) → TellsEnd asked given end told → end ≢ Err fault.NoMemory
not_memory asked given end told tells = λ e. subst (λ (x : Result (Case × Division) SolveFault). TellsEnd asked given x told) e tells

module _
    (given : CaseData)
    (ready : IsReady given)
    (is_valid : (one : Case) → case_of given.facts given.bids ≡ Ok one → IsValidCase one)
    (one_end : (end other : Result (Case × Division) SolveFault) → IsSolved given.facts given.bids end → IsSolved given.facts given.bids other → end ≢ Err fault.NoMemory → other ≢ Err fault.NoMemory → end ≡ other)
    (one_text : (case : Case) (division other : Division) (text others : List ℕ) → IsValidCase case → IsDivisionOf case division → IsDivisionOf case other
    → IsDivisionText case division text → IsDivisionText case other others → text ≡ others)
    (one_certificate : (case : Case) (text other : List ℕ) → IsValidCase case → IsCanonical case text → IsCanonical case other → text ≡ other)
    (one_report : (given : CaseData) (case : Case) (division others : Division) (text other : List ℕ) → IsReady given → case_of given.facts given.bids ≡ Ok case
    → IsDivisionOf case division → IsDivisionOf case others → IsReport given case division text → IsReport given case others other → text ≡ other)
    (one_fare_audit : (title : List ℕ) (case : FareCase) (division others : FareDivision) (text other : List ℕ) → IsFareDivision case division → IsFareDivision case others
    → IsFareAuditText title case division text → IsFareAuditText title case others other → text ≡ other)
    (one_goods_audit : (names : NamesData) (case : GoodsCase) (division others : GoodsDivision) (text other : List ℕ) → IsGoodsDivision case division → IsGoodsDivision case others
    → IsDivisionAudit names case division text → IsDivisionAudit names case others other → text ≡ other)
    (one_winner : (case : GoodsCase) (text other : List ℕ) → IsWinnerText case text → IsWinnerText case other → text ≡ other)
  where
    -- an audit is told in one way
    same_audited : (case : Case) (division : Division) (told other : ContentView) → IsDivisionOf case division → IsAudit given case division told → IsAudit given case division other → told ≡ other
    same_audited (cases.Rent one) (divided.Rent found) told other is a b = a ∙ sym b
    same_audited (cases.Rent one) (divided.Goods found) told other is a b = absurd a
    same_audited (cases.Rent one) (divided.Fares found) told other is a b = absurd a
    same_audited (cases.Goods one) (divided.Rent found) told other is a b = absurd a
    same_audited (cases.Goods one) (divided.Goods found) told other is a b = same_text Plain (IsDivisionAudit (names_of given) one found) told other (λ text others. one_goods_audit (names_of given) one found found text others is is) a b
    same_audited (cases.Goods one) (divided.Fares found) told other is a b = absurd a
    same_audited (cases.Fares one) (divided.Rent found) told other is a b = absurd a
    same_audited (cases.Fares one) (divided.Goods found) told other is a b = absurd a
    same_audited (cases.Fares one) (divided.Fares found) told other is a b = same_text Plain (IsFareAuditText given.title one found) told other (λ text others. one_fare_audit given.title one found found text others is is) a b

    -- a division is told in one way
    same_published : (asked : What) (case : Case) (division : Division) (told other : ContentView) → case_of given.facts given.bids ≡ Ok case → IsDivisionOf case division
        → IsPublished asked given case division told → IsPublished asked given case division other → told ≡ other
    same_published what.Division case division told other made is a b = same_text Json (IsDivisionText case division) told other (λ text others. one_text case division division text others (is_valid case made) is is) a b
    same_published what.Certificate case division told other made is a b = same_text Plain (IsCanonical case) told other (λ text others. one_certificate case text others (is_valid case made)) a b
    same_published what.Report case division told other made is a b = same_text Plain (IsReport given case division) told other (λ text others. one_report given case division division text others ready made is is) a b
    same_published what.Audit case division told other made is a b = same_audited case division told other is a b
    same_published what.Winner case division told other made is a b = absurd a

    -- so is an end
    same_end : (asked : What) (end : Result (Case × Division) SolveFault) (told other : ContentView) → IsSolved given.facts given.bids end → TellsEnd asked given end told → TellsEnd asked given end other → told ≡ other
    same_end asked (Ok answer) told other is a b = same_published asked answer.0 answer.1 told other is.0 is.1 a b
    same_end asked (Err f) told other is a b = same_fault f told other a b

    same_best : (asked : What) (told other : ContentView) → TellsBest asked given told → TellsBest asked given other → told ≡ other
    same_best asked told other a b =
        let same = one_end a.0 b.0 a.1 b.1 (not_memory asked given a.0 told a.2) (not_memory asked given b.0 other b.2) in
        same_end asked b.0 told other b.1 (subst (λ (x : Result (Case × Division) SolveFault). TellsEnd asked given x told) same a.2) b.2

    same_audit : (some : Facts) (told other : ContentView) → TellsAudit given some told → TellsAudit given some other → told ≡ other
    same_audit (facts.Rent rent) told other a b = a ∙ sym b
    same_audit (facts.Goods goods) told other a b = same_best what.Audit told other a b
    same_audit (facts.Fares fares) told other a b = same_best what.Audit told other a b

    same_pair : (two : Bool) (goods : GoodsCase) (told other : ContentView) → TellsPair two goods told → TellsPair two goods other → told ≡ other
    same_pair true goods told other a b = same_text Plain (IsWinnerText goods) told other (one_winner goods) a b
    same_pair false goods told other a b = a ∙ sym b

    same_winner : (made : Result Case Missing) (told other : ContentView) → TellsWinner made told → TellsWinner made other → told ≡ other
    same_winner (Err missing) told other a b = a ∙ sym b
    same_winner (Ok (cases.Rent rent)) told other a b = a ∙ sym b
    same_winner (Ok (cases.Goods goods)) told other a b = same_pair (player_count goods == 2) goods told other a b
    same_winner (Ok (cases.Fares fares)) told other a b = a ∙ sym b

    pub same_publication : (asked : What) (told other : ContentView) → IsPublication given asked told → IsPublication given asked other → told ≡ other
    same_publication what.Division told other a b = same_best what.Division told other a b
    same_publication what.Certificate told other a b = same_best what.Certificate told other a b
    same_publication what.Report told other a b = same_best what.Report told other a b
    same_publication what.Audit told other a b = same_audit given.facts told other a b
    same_publication what.Winner told other a b = same_winner (case_of given.facts given.bids) told other a b
