-- What is published of an instance.
use Rattle.std.specs.Prelude.{◌≡◌, ℕ, ◌==◌, Bool, true, false, List, Result, Ok, Err}
use Rattle.adjusted_winner.specs.Texts.{IsWinnerText}
use Rattle.bid_rules.specs.declared.bids.Facts.{Facts}
use Rattle.bid_rules.specs.declared.bids.Facts.TheVariants as facts
use Rattle.bid_rules.specs.declared.cases.Case.{Case}
use Rattle.bid_rules.specs.declared.cases.Case.TheVariants as cases
use Rattle.bid_rules.specs.declared.cases.Missing.{Missing}
use Rattle.bid_rules.specs.declared.goods.GoodsCase.{GoodsCase}
use Rattle.bid_rules.specs.Facts.{case_of}
use Rattle.bid_rules.specs.Goods.{player_count}
use Rattle.certificates.specs.Canonical.{IsCanonical}
use Rattle.certificates.specs.declared.division.Division.{Division}
use Rattle.certificates.specs.declared.division.Division.TheVariants as divided
use Rattle.fare_audit.specs.Texts.{IsFareAuditText}
use Rattle.goods_audit.specs.Texts.{IsDivisionAudit}
use Rattle.split_reports.specs.Names.{names_of}
use Rattle.reply_texts.specs.declared.refusals.ServiceRefusal.{ServiceRefusal}
use Rattle.reply_texts.specs.declared.refusals.ServiceRefusal.TheVariants as service
use Rattle.reply_texts.specs.Divisions.{IsDivisionText}
use Rattle.sealed_core.specs.declared.commands.What.{What}
use Rattle.sealed_core.specs.declared.commands.What.TheVariants as what
use Rattle.sealed_core.specs.Host.{InstanceView}
use Rattle.split_json.specs.Reading.{CaseData}
use Rattle.split_reports.specs.Reports.{IsReport}
use Rattle.split_solve.specs.declared.solving.SolveFault.{SolveFault}
use Rattle.split_solve.specs.declared.solving.SolveFault.TheVariants as fault
use Rattle.split_solve.specs.Solving.{IsSolved}
use Rattle.reply_texts.specs.declared.contents.ContentType.{ContentType}
use Rattle.reply_texts.specs.declared.contents.ContentType.TheVariants.{Json, Plain}
use Rattle.reply_texts.specs.Contents.{ContentView, refusal_told, told_as}
use Rattle.bid_rules.specs.declared.limits.TheConstants.{PAIR}

-- the case of an instance: its names, its facts and the kept bids. Turns, deadline and tag do not change it
abbrev pub case_data : InstanceView → CaseData
case_data i = record { title = i.creation.title; members = i.creation.members; items = i.creation.items; facts = i.creation.facts; bids = i.bids }

-- the refusal that reports a fault of the solver
abbrev pub refusal_of_fault : SolveFault → ServiceRefusal
refusal_of_fault (fault.Void missing) = service.Void missing
refusal_of_fault (fault.OverLimit limit) = service.StepLimit limit
refusal_of_fault fault.NoMemory = service.Memory

-- a success with a text of this type and nothing besides, and this is so of the text
abbrev pub IsSuccessWith : ContentType → (List ℕ → Type 0) → ContentView → Type 0
IsSuccessWith type so told = (told ≡ told_as 200 type told.text) × so told.text

-- the audit of a case and its division, in the text of its kind; a rent has none
abbrev pub IsAudit : CaseData → Case → Division → ContentView → Type 0
IsAudit given (cases.Rent one) (divided.Rent found) told = told ≡ refusal_told service.NoAudit
IsAudit given (cases.Goods one) (divided.Goods found) told = IsSuccessWith Plain (IsDivisionAudit (names_of given) one found) told
IsAudit given (cases.Fares one) (divided.Fares found) told = IsSuccessWith Plain (IsFareAuditText given.title one found) told
IsAudit given one found told = ⊥

-- what is published of a case and its division, by what is asked: the division as JSON, the canonical certificate, the report, or the audit; the
-- winner depends only on the case
abbrev pub IsPublished : What → CaseData → Case → Division → ContentView → Type 0
IsPublished what.Division given case division told = IsSuccessWith Json (IsDivisionText case division) told
IsPublished what.Certificate given case division told = IsSuccessWith Plain (IsCanonical case) told
IsPublished what.Report given case division told = IsSuccessWith Plain (IsReport given case division) told
IsPublished what.Audit given case division told = IsAudit given case division told
IsPublished what.Winner given case division told = ⊥

-- why there is no division, as a refusal; running out of memory is not published
abbrev pub TellsFault : SolveFault → ContentView → Type 0
TellsFault (fault.Void missing) told = told ≡ refusal_told (refusal_of_fault (fault.Void missing))
TellsFault (fault.OverLimit limit) told = told ≡ refusal_told (refusal_of_fault (fault.OverLimit limit))
TellsFault fault.NoMemory told = ⊥

-- what is said when a solver has ended: a case and its division, or why there is none
abbrev pub TellsEnd : What → CaseData → Result (Case × Division) SolveFault → ContentView → Type 0
TellsEnd asked given (Ok answer) told = IsPublished asked given answer.0 answer.1 told
TellsEnd asked given (Err fault) told = TellsFault fault told

-- the best division of the facts and bids in the form that is asked for, or why there is none, whatever the number of workers
abbrev pub TellsBest : What → CaseData → ContentView → Type 0
TellsBest asked given told = (end : Result (Case × Division) SolveFault) × IsSolved given.facts given.bids end × TellsEnd asked given end told

-- an audit is one of goods or of a shared fare; a rent has none, whatever its bids
abbrev pub TellsAudit : CaseData → Facts → ContentView → Type 0
TellsAudit given (facts.Rent rent) told = told ≡ refusal_told service.NoAudit
TellsAudit given (facts.Goods goods) told = TellsBest what.Audit given told
TellsAudit given (facts.Fares fares) told = TellsBest what.Audit given told

-- the winner of goods if there are two players, otherwise the refusal that there are not
abbrev pub TellsPair : Bool → GoodsCase → ContentView → Type 0
TellsPair true goods told = IsSuccessWith Plain (IsWinnerText goods) told
TellsPair false goods told = told ≡ refusal_told service.NotTwo

-- a winner is one of goods between two players; the step limit doesn't matter
abbrev pub TellsWinner : Result Case Missing → ContentView → Type 0
TellsWinner (Err missing) told = told ≡ refusal_told (service.Void missing)
TellsWinner (Ok (cases.Rent rent)) told = told ≡ refusal_told service.NotTwo
TellsWinner (Ok (cases.Goods goods)) told = TellsPair (player_count goods == PAIR) goods told
TellsWinner (Ok (cases.Fares fares)) told = told ≡ refusal_told service.NotTwo

-- what is published of a case by what is asked
abbrev pub IsPublication : CaseData → What → ContentView → Type 0
IsPublication given what.Division told = TellsBest what.Division given told
IsPublication given what.Certificate told = TellsBest what.Certificate given told
IsPublication given what.Report told = TellsBest what.Report given told
IsPublication given what.Audit told = TellsAudit given given.facts told
IsPublication given what.Winner told = TellsWinner (case_of given.facts given.bids) told

-- no winner is asked for. Only the contract of a private function uses this
abbrev pub AsksBest : What → Type 0
AsksBest what.Division = Unit {0}
AsksBest what.Certificate = Unit {0}
AsksBest what.Report = Unit {0}
AsksBest what.Audit = Unit {0}
AsksBest what.Winner = ⊥
