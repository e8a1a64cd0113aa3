-- What each command answers to the bytes of its input.
use Rattle.std.specs.Prelude.{◌≡◌, ◌≢◌, ◌<◌, ◌≤◌, ℕ, List, Option, Result, Ok, Err}
use Rattle.std.specs.Option.{option_map}
use Rattle.bid_rules.specs.declared.cases.Case.{Case}
use Rattle.bid_rules.specs.declared.cases.Case.TheVariants.{Goods}
use Rattle.bid_rules.specs.declared.cases.Missing.{Missing}
use Rattle.bid_rules.specs.declared.goods.GoodsCase.{GoodsCase}
use Rattle.bid_rules.specs.Facts.{case_of}
use Rattle.bid_rules.specs.Goods.{in_search_order, player_count}
use Rattle.adjusted_winner.specs.Texts.{IsWinnerText}
use Rattle.body_fields.specs.declared.fields.BodyFault.{BodyFault}
use Rattle.cert_checker.specs.Judged.{IsJudged}
use Rattle.cert_reader.specs.Forms.{Pairs}
use Rattle.cert_reader.specs.Text.{IsBrokenText, IsBrokenTextOf}
use Rattle.certificates.specs.Canonical.{IsCanonical}
use Rattle.certificates.specs.Division.{IsDivisionOf}
use Rattle.certificates.specs.declared.division.Division.{Division}
use Rattle.command_results.specs.declared.stop.Stop.{Stop}
use Rattle.command_results.specs.declared.stop.Stop.TheVariants.{Void, OverLimit, NotTwo, BrokenRule, BadCase, BrokenLine}
use Rattle.command_results.specs.Endings.{yes_line}
use Rattle.goods_audit.specs.Domination.{IsBetterDivision, OwnersByGood, open_count}
use Rattle.goods_audit.specs.Texts.{IsAuditText}
use Rattle.split_reports.specs.Names.{names_of}
use Rattle.split_json.specs.Proposals.{goods_case_in, proposal_in}
use Rattle.split_json.specs.Reading.{CaseData, case_in}
use Rattle.split_reports.specs.Reports.{IsReport}
use Rattle.split_solve.specs.Solving.{IsAboveLimit}
use Rattle.rule_verdicts.specs.declared.verdict.Verdict.{Verdict}
use Rattle.rule_verdicts.specs.declared.verdict.Verdict.TheVariants.{Yes, No}
use Rattle.winner_rules.specs.Judged.{IsPairJudged}
use Rattle.input_commands.specs.declared.command.InputCommand.{InputCommand}
use Rattle.input_commands.specs.declared.command.InputCommand.TheVariants.{Solve, Report, Check, Weigh, Winner, CheckWinner}
use Rattle.input_commands.specs.Players.{players_of}
use Rattle.bid_rules.specs.declared.limits.TheConstants.{PAIR}

-- there is a value, and this is so of it
abbrev pub Holds : {A E : Type 0} → Result A E → (A → Type 0) → Type 0
Holds {A = A} result so = (value : A) × (result ≡ Ok value) × so value

-- the facts and bids make a case, and this is so of it
abbrev pub MakesCase : CaseData → (Case → Type 0) → Type 0
MakesCase given so = Holds (case_of given.facts given.bids) so

-- they make a case of goods, and this is so of it
abbrev pub MakesGoods : CaseData → (GoodsCase → Type 0) → Type 0
MakesGoods given so = (case : GoodsCase) × (case_of given.facts given.bids ≡ Ok (Goods case)) × so case

-- they make no case, because the bids of these members are missing
abbrev pub IsVoid : Missing → CaseData → Type 0
IsVoid missing given = case_of given.facts given.bids ≡ Err missing

-- the answer to bytes that hold a body by this reading, or are refused with the fault by which they hold none
abbrev pub OfBody : {A : Type 0} → (List ℕ → Result A BodyFault) → (A → Result (List ℕ) Stop → Type 0) → List ℕ → Result (List ℕ) Stop → Type 0
OfBody read answers bytes (Err (BadCase fault)) = read bytes ≡ Err fault
OfBody read answers bytes ending = Holds (read bytes) (λ body. answers body ending)

-- the answer to facts and bids: a text of the best division of the case that they make; the members whose missing bids leave no case; or the
-- limit that the case is above
abbrev pub OfCase : (CaseData → Case → Division → List ℕ → Type 0) → CaseData → Result (List ℕ) Stop → Type 0
OfCase prints given (Ok text) = MakesCase given (λ case. (division : Division) × IsDivisionOf case division × prints given case division text)
OfCase prints given (Err (Void missing)) = IsVoid missing given
OfCase prints given (Err (OverLimit limit)) = MakesCase given (λ case. IsAboveLimit case limit)
OfCase prints given (Err other) = ⊥

-- the answer to a case of goods and a division of them: the audit, with the first division that dominates this one, if there is one; or the case's
-- limit, if more prefixes than that leave room for one
abbrev pub OfOwners : CaseData → GoodsCase → List ℕ → Result (List ℕ) Stop → Type 0
OfOwners given case owners (Ok text) =
    (open_count case (in_search_order case owners) ≤ case.facts.limit)
    × ((better : Option OwnersByGood) × IsBetterDivision case (in_search_order case owners) better
    × IsAuditText (names_of given) case owners (option_map (λ others. others.items) better) text)
OfOwners given case owners (Err (OverLimit limit)) = (limit ≡ case.facts.limit) × (limit < open_count case (in_search_order case owners))
OfOwners given case owners (Err other) = ⊥

-- the answer to a proposal: facts and bids, and by good the number of the member who is to own it
abbrev pub OfProposal : CaseData × List ℕ → Result (List ℕ) Stop → Type 0
OfProposal proposal ending = MakesGoods proposal.0 (λ case. OfOwners proposal.0 case (players_of case proposal.1) ending)

-- the answer to facts and bids of goods: the text of adjusted winner, if there are two players; or that there are not; or, if there is no case, the
-- members whose bids are missing
abbrev pub OfPair : CaseData → Result (List ℕ) Stop → Type 0
OfPair given (Ok text) = MakesGoods given (λ case. (player_count case ≡ PAIR) × IsWinnerText case text)
OfPair given (Err (Void missing)) = IsVoid missing given
OfPair given (Err NotTwo) = MakesGoods given (λ case. player_count case ≢ 2)
OfPair given (Err other) = ⊥

-- the answer to bytes that are judged: `yes`, the first rule that they break, or the first line by which they are not a text
abbrev pub OfVerdict : (List ℕ → Verdict → Type 0) → (List ℕ → ℕ → Type 0) → List ℕ → Result (List ℕ) Stop → Type 0
OfVerdict judged broken bytes (Ok text) = judged bytes Yes × (text ≡ yes_line)
OfVerdict judged broken bytes (Err (BrokenRule rule)) = judged bytes (No rule)
OfVerdict judged broken bytes (Err (BrokenLine number)) = broken bytes number
OfVerdict judged broken bytes (Err other) = ⊥

-- what a command answers to the bytes of its input, if they are not too many
abbrev pub Answers : InputCommand → List ℕ → Result (List ℕ) Stop → Type 0
Answers (Solve workers) = OfBody case_in (OfCase (λ given case division text. IsCanonical case text))
Answers (Report workers) = OfBody case_in (OfCase IsReport)
Answers Check = OfVerdict IsJudged IsBrokenText
Answers Weigh = OfBody proposal_in OfProposal
Answers Winner = OfBody goods_case_in OfPair
Answers CheckWinner = OfVerdict IsPairJudged (IsBrokenTextOf Pairs)
