-- Of commands that differ in the number of workers alone, bytes call for one ending.
use Rattle.std.proofs.Common.{◌≡◌, ℕ, List, All, Result, Ok, IfSome, length, arith, inl, inr, sym, ◌∙◌, subst}
use Rattle.std.specs.Prelude.{Option}
use Rattle.bid_rules.specs.declared.bids.Bid.{Bid}
use Rattle.bid_rules.specs.declared.bids.Facts.{Facts}
use Rattle.bid_rules.specs.declared.cases.Case.{Case}
use Rattle.bid_rules.specs.declared.goods.GoodsCase.{GoodsCase}
use Rattle.bid_rules.specs.Facts.{IsCheckedBid, IsCheckedFacts, IsValidCase, case_of, member_count}
use Rattle.adjusted_winner.specs.Texts.{IsWinnerText}
use Rattle.cert_checker.specs.Judged.{IsJudged}
use Rattle.cert_reader.specs.Forms.{Pairs}
use Rattle.cert_reader.specs.Text.{IsBrokenText, IsBrokenTextOf}
use Rattle.certificates.specs.Canonical.{IsCanonical}
use Rattle.certificates.specs.Division.{IsDivisionOf}
use Rattle.certificates.specs.declared.division.Division.{Division}
use Rattle.command_results.specs.declared.stop.Stop.{Stop}
use Rattle.nash_search.specs.Division.{HasSteps}
use Rattle.split_json.specs.Proposals.{goods_case_in, proposal_in}
use Rattle.split_json.specs.Reading.{CaseData, IsReady, case_in}
use Rattle.split_reports.specs.Reports.{IsReport}
use Rattle.rule_verdicts.specs.declared.verdict.Verdict.{Verdict}
use Rattle.winner_rules.specs.Judged.{IsPairJudged}
use Rattle.input_commands.specs.declared.command.InputCommand.{InputCommand}
use Rattle.input_commands.specs.declared.command.InputCommand.TheVariants.{Solve, Report, Check, Weigh, Winner, CheckWinner}
use Rattle.input_commands.specs.Answers.{Answers, OfCase, OfPair, OfProposal}
use Rattle.input_commands.specs.Commands.{AreAlike, at_one}
use Rattle.input_commands.specs.Ends.{CallsFor}
use Rattle.input_commands.proofs.OneAnswer.{HaveOneAudit, one_body, one_case, one_pair, one_proposal, one_verdict}

-- bytes call for the same of the command with one worker
with_one : (command : InputCommand) (bytes : List ℕ) (ending : Result (List ℕ) Stop) → CallsFor command bytes ending → CallsFor (at_one command) bytes ending
with_one (Solve workers) bytes ending calls = calls
with_one (Report workers) bytes ending calls = calls
with_one Check bytes ending calls = calls
with_one Weigh bytes ending calls = calls
with_one Winner bytes ending calls = calls
with_one CheckWinner bytes ending calls = calls

module _
    (one_certificate : (case : Case) (text other : List ℕ) → IsValidCase case → IsCanonical case text → IsCanonical case other → text ≡ other)
    (is_valid : (facts : Facts) (bids : List (Option Bid)) (case : Case) → IsCheckedFacts facts → length bids ≡ member_count facts
    → All (λ bid. IfSome bid (IsCheckedBid facts)) bids → case_of facts bids ≡ Ok case → IsValidCase case)
    (is_ready : (body : List ℕ) (case : CaseData) → case_in body ≡ Ok case → IsReady case)
    (one_report : (given : CaseData) (case : Case) (division others : Division) (text other : List ℕ) → IsReady given → case_of given.facts given.bids ≡ Ok case
    → IsDivisionOf case division → IsDivisionOf case others → IsReport given case division text → IsReport given case others other → text ≡ other)
    (one_audit : HaveOneAudit)
    (one_count : (case : GoodsCase) (steps other : ℕ) → HasSteps case steps → HasSteps case other → steps ≡ other)
    (one_judged : (bytes : List ℕ) (verdict other : Verdict) → IsJudged bytes verdict → IsJudged bytes other → other ≡ verdict)
    (whole_text : (bytes : List ℕ) (verdict : Verdict) (line : ℕ) → IsJudged bytes verdict → IsBrokenText bytes line → ⊥)
    (one_line : (bytes : List ℕ) (line other : ℕ) → IsBrokenText bytes line → IsBrokenText bytes other → other ≡ line)
    (one_winner : (case : GoodsCase) (text other : List ℕ) → IsWinnerText case text → IsWinnerText case other → text ≡ other)
    (one_pair_judged : (bytes : List ℕ) (verdict other : Verdict) → IsPairJudged bytes verdict → IsPairJudged bytes other → other ≡ verdict)
    (whole_pair : (bytes : List ℕ) (verdict : Verdict) (line : ℕ) → IsPairJudged bytes verdict → IsBrokenTextOf Pairs bytes line → ⊥)
    (one_pair_line : (bytes : List ℕ) (line other : ℕ) → IsBrokenTextOf Pairs bytes line → IsBrokenTextOf Pairs bytes other → other ≡ line)
  where
    -- one certificate of a case that bytes hold
    certificates : (bytes : List ℕ) (given : CaseData) → case_in bytes ≡ Ok given → (x y : Result (List ℕ) Stop)
        → OfCase (λ g case division text. IsCanonical case text) given x → OfCase (λ g case division text. IsCanonical case text) given y → x ≡ y
    certificates bytes given held x y a b =
        let ready = is_ready bytes given held in
        one_case one_count (λ g case division text. IsCanonical case text) given x y
        (λ case made text other p q. one_certificate case text other (is_valid given.facts given.bids case ready.facts ready.count ready.bids made) p.2 q.2)
        a b

    -- one report
    reports : (bytes : List ℕ) (given : CaseData) → case_in bytes ≡ Ok given → (x y : Result (List ℕ) Stop) → OfCase IsReport given x → OfCase IsReport given y → x ≡ y
    reports bytes given held x y a b =
        one_case one_count IsReport given x y (λ case made text other p q. one_report given case p.0 q.0 text other (is_ready bytes given held) made p.1 q.1 p.2 q.2) a b

    -- bytes that are not too long call for one ending
    one_answer : (command : InputCommand) (bytes : List ℕ) (x y : Result (List ℕ) Stop) → Answers command bytes x → Answers command bytes y → x ≡ y
    one_answer (Solve workers) bytes x y a b =
        one_body case_in (OfCase (λ g case division text. IsCanonical case text)) bytes x y (λ given held. certificates bytes given held x y) a b
    one_answer (Report workers) bytes x y a b = one_body case_in (OfCase IsReport) bytes x y (λ given held. reports bytes given held x y) a b
    one_answer Check bytes x y a b = one_verdict IsJudged IsBrokenText one_judged whole_text one_line bytes x y a b
    one_answer Weigh bytes x y a b = one_body proposal_in OfProposal bytes x y (λ proposal held. one_proposal one_audit proposal x y) a b
    one_answer Winner bytes x y a b = one_body goods_case_in OfPair bytes x y (λ given held. one_pair one_winner given x y) a b
    one_answer CheckWinner bytes x y a b = one_verdict IsPairJudged (IsBrokenTextOf Pairs) one_pair_judged whole_pair one_pair_line bytes x y a b

    -- so do all bytes
    one_call : (command : InputCommand) (bytes : List ℕ) (x y : Result (List ℕ) Stop) → CallsFor command bytes x → CallsFor command bytes y → x ≡ y
    one_call command bytes x y (inl a) (inl b) = a.1 ∙ sym b.1
    one_call command bytes x y (inl a) (inr b) = let long = a.0 in let short = b.0 in absurd (omega (arith, long, short))
    one_call command bytes x y (inr a) (inl b) = let short = a.0 in let long = b.0 in absurd (omega (arith, long, short))
    one_call command bytes x y (inr a) (inr b) = one_answer command bytes x y a.1 b.1

    -- of commands that are alike
    pub one_ending : (command other : InputCommand) (bytes : List ℕ) (ending another : Result (List ℕ) Stop) → AreAlike command other
        → CallsFor command bytes ending → CallsFor other bytes another → ending ≡ another
    one_ending command other bytes ending another alike a b =
        one_call (at_one command) bytes ending another (with_one command bytes ending a)
        (subst (λ c. CallsFor c bytes another) (sym alike) (with_one other bytes another b))
