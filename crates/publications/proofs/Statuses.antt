-- What is published is a success or a refusal.
use Rattle.std.proofs.Common.{◌≡◌, ◌⊎◌, ◌==◌, Bool, true, false, Result, Ok, Err, inl, inr, ap, sym, ◌∙◌}
use Rattle.bid_rules.specs.declared.bids.Facts.{Facts}
use Rattle.bid_rules.specs.declared.bids.Facts.TheVariants as facts
use Rattle.bid_rules.specs.declared.cases.Case.{Case}
use Rattle.bid_rules.specs.declared.cases.Case.TheVariants as cases
use Rattle.bid_rules.specs.declared.cases.Missing.{Missing}
use Rattle.bid_rules.specs.declared.goods.GoodsCase.{GoodsCase}
use Rattle.bid_rules.specs.Facts.{case_of}
use Rattle.bid_rules.specs.Goods.{player_count}
use Rattle.certificates.specs.declared.division.Division.{Division}
use Rattle.certificates.specs.declared.division.Division.TheVariants as divided
use Rattle.reply_texts.specs.declared.refusals.ServiceRefusal.{ServiceRefusal}
use Rattle.reply_texts.specs.declared.refusals.ServiceRefusal.TheVariants as service
use Rattle.sealed_core.specs.declared.commands.What.{What}
use Rattle.sealed_core.specs.declared.commands.What.TheVariants as what
use Rattle.split_json.specs.Reading.{CaseData}
use Rattle.split_solve.specs.declared.solving.SolveFault.{SolveFault}
use Rattle.split_solve.specs.declared.solving.SolveFault.TheVariants as fault
use Rattle.reply_texts.specs.Contents.{ContentView, refusal_told, told_as}
use Rattle.reply_texts.specs.declared.contents.ContentType.{ContentType}
use Rattle.publications.specs.Publications.{IsAudit, IsPublication, IsPublished, TellsAudit, TellsBest, TellsEnd, TellsFault, TellsPair, TellsWinner, refusal_of_fault}

abbrev HasStatus : ContentView → Type 0
HasStatus told = (told ≡ told_as 200 told.content_type told.text) ⊎ ((refusal : ServiceRefusal) × (told ≡ refusal_told refusal))

-- a success tells its text and nothing besides
success : {type : ContentType} (told : ContentView) → told ≡ told_as 200 type told.text → told ≡ told_as 200 told.content_type told.text
success told is = is ∙ ap (λ (t : ContentType). told_as 200 t told.text) (sym (ap (λ (x : ContentView). x.content_type) is))

audited_status : (given : CaseData) (one : Case) (found : Division) (told : ContentView) → IsAudit given one found told → HasStatus told
audited_status given (cases.Rent one) (divided.Rent found) told is = inr (service.NoAudit, is)
audited_status given (cases.Rent one) (divided.Goods found) told is = absurd is
audited_status given (cases.Rent one) (divided.Fares found) told is = absurd is
audited_status given (cases.Goods one) (divided.Rent found) told is = absurd is
audited_status given (cases.Goods one) (divided.Goods found) told is = inl (success told is.0)
audited_status given (cases.Goods one) (divided.Fares found) told is = absurd is
audited_status given (cases.Fares one) (divided.Rent found) told is = absurd is
audited_status given (cases.Fares one) (divided.Goods found) told is = absurd is
audited_status given (cases.Fares one) (divided.Fares found) told is = inl (success told is.0)

published_status : (asked : What) (given : CaseData) (one : Case) (division : Division) (told : ContentView) → IsPublished asked given one division told → HasStatus told
published_status what.Division given one division told is = inl (success told is.0)
published_status what.Certificate given one division told is = inl (success told is.0)
published_status what.Report given one division told is = inl (success told is.0)
published_status what.Audit given one division told is = audited_status given one division told is
published_status what.Winner given one division told is = absurd is

fault_status : (f : SolveFault) (told : ContentView) → TellsFault f told → HasStatus told
fault_status (fault.Void missing) told is = inr (refusal_of_fault (fault.Void missing), is)
fault_status (fault.OverLimit limit) told is = inr (refusal_of_fault (fault.OverLimit limit), is)
fault_status fault.NoMemory told is = absurd is

end_status : (asked : What) (given : CaseData) (end : Result (Case × Division) SolveFault) (told : ContentView) → TellsEnd asked given end told → HasStatus told
end_status asked given (Ok answer) told is = published_status asked given answer.0 answer.1 told is
end_status asked given (Err f) told is = fault_status f told is

best_status : (asked : What) (given : CaseData) (told : ContentView) → TellsBest asked given told → HasStatus told
best_status asked given told is = end_status asked given is.0 told is.2

audit_status : (given : CaseData) (some : Facts) (told : ContentView) → TellsAudit given some told → HasStatus told
audit_status given (facts.Rent rent) told is = inr (service.NoAudit, is)
audit_status given (facts.Goods goods) told is = best_status what.Audit given told is
audit_status given (facts.Fares fares) told is = best_status what.Audit given told is

pair_status : (two : Bool) (goods : GoodsCase) (told : ContentView) → TellsPair two goods told → HasStatus told
pair_status true goods told is = inl (success told is.0)
pair_status false goods told is = inr (service.NotTwo, is)

winner_status : (made : Result Case Missing) (told : ContentView) → TellsWinner made told → HasStatus told
winner_status (Err missing) told is = inr (service.Void missing, is)
winner_status (Ok (cases.Rent rent)) told is = inr (service.NotTwo, is)
winner_status (Ok (cases.Goods goods)) told is = pair_status (player_count goods == 2) goods told is
winner_status (Ok (cases.Fares fares)) told is = inr (service.NotTwo, is)

pub publication_status : (given : CaseData) (asked : What) (told : ContentView) → IsPublication given asked told → HasStatus told
publication_status given what.Division told is = best_status what.Division given told is
publication_status given what.Certificate told is = best_status what.Certificate given told is
publication_status given what.Report told is = best_status what.Report given told is
publication_status given what.Audit told is = audit_status given given.facts told is
publication_status given what.Winner told is = winner_status (case_of given.facts given.bids) told is
