-- The command `audit`, over any dialer: what it asks of the dialer and of the link, and how it ends.
use Rattle.std.specs.Prelude.{◌≡◌, ◌⊎◌, ◌<◌, ℕ, List, Result, Ok, Err}
use Rattle.command_results.specs.Endings.{yes_line}
use Rattle.command_results.specs.declared.stop.Stop.{Stop}
use Rattle.command_results.specs.declared.stop.Stop.TheVariants.{BadReply, BadStatus, BrokenLine, BrokenRule, PortFault}
use Rattle.command_results.specs.declared.stop.Stop.TheVariants as stop
use Rattle.serving.specs.Served.{LinkTells}
use Rattle.remote_check.specs.declared.ends.FetchEnd.{FetchEnd}
use Rattle.remote_check.specs.declared.ends.FetchEnd.TheVariants.{LinkFault, NotText, Reply, Status}
use Rattle.remote_check.specs.declared.ends.FetchEnd.TheVariants as fetch
use Rattle.remote_check.specs.declared.request.Words.{Words}
use Rattle.remote_check.specs.Fetched.{FetchSays}
use Rattle.remote_check.specs.Requests.{AsksOnce, MeetsEndOnce, request_of}
use Rattle.split_base.specs.Asked.{asked_again}
use Rattle.split_base.specs.declared.dial.Dial.{Ghosts}
use Rattle.split_base.specs.declared.streams.Failed.{Failed}
use Rattle.split_base.specs.Faults.{counted}
use Rattle.split_base.specs.Ports.{Dials, TakesBack}
use Rattle.rule_verdicts.specs.declared.verdict.Verdict.{Verdict}
use Rattle.rule_verdicts.specs.declared.verdict.Verdict.TheVariants.{No, Yes}

-- the ending that the answer of a fetch stands for
abbrev pub fetch_ending : Result Verdict FetchEnd → Result (List ℕ) Stop
fetch_ending (Ok Yes) = Ok yes_line
fetch_ending (Ok (No rule)) = Err (BrokenRule rule)
fetch_ending (Err Reply) = Err BadReply
fetch_ending (Err (Status code)) = Err (BadStatus code)
fetch_ending (Err (NotText line)) = Err (BrokenLine line)
fetch_ending (Err fetch.TooLong) = Err stop.TooLong
fetch_ending (Err LinkFault) = Err PortFault

-- the dialer's count afterwards: one more if the link failed
abbrev pub faults_behind : ℕ → Result Verdict FetchEnd → ℕ
faults_behind before (Ok verdict) = before
faults_behind before (Err Reply) = before
faults_behind before (Err (Status code)) = before
faults_behind before (Err (NotText line)) = before
faults_behind before (Err fetch.TooLong) = before
faults_behind before (Err LinkFault) = counted before

-- no link was given: the call of the dialer failed
pub record NoLink {L X : Type 0} (dialer : Ghosts X L) (before after : X) (ending : Result (List ℕ) Stop) : Type 0 where
  pub why : Failed
  pub failed : Dials {L = L} {E = Failed} (dialer.to_come before) (dialer.to_come after) (Err why)
  pub fault : dialer.faults after ≡ counted (dialer.faults before)
  pub is : ending ≡ Err PortFault

-- a link was given, a certificate asked for over it, by no empty write, and judged as it came, by no read after the end of the input, and the link
-- given back, whatever came
pub record Fetches {L X : Type 0} (dialer : Ghosts X L) (tells : LinkTells L) (before after : X) (asked : Words) (ending : Result (List ℕ) Stop) : Type 0 where
  pub link : L
  pub link_now : L
  pub between : X
  pub answer : Result Verdict FetchEnd
  pub given : Dials {L = L} {E = Failed} (dialer.to_come before) (dialer.to_come between) (Ok link)
  pub says : FetchSays (tells.left link) answer
  pub asks : AsksOnce (tells.left link) (tells.left link_now) (tells.written link) (tells.written link_now)
      (tells.reads link) (tells.reads link_now) (tells.writes link) (tells.writes link_now) (request_of asked) answer
  pub empty : tells.empties link_now ≡ tells.empties link
  pub over : MeetsEndOnce (tells.ends link) (tells.ends link_now) (tells.reads link_now) answer
  pub back : 0 < dialer.places before → TakesBack (dialer.given_back before) (dialer.given_back after) link_now
  pub dropped : dialer.places before ≡ 0 → dialer.given_back after ≡ dialer.given_back before
  pub fault : dialer.faults after ≡ faults_behind (dialer.faults before) answer
  pub is : ending ≡ fetch_ending answer

-- one of the two: the dialer was asked once for a link, to the port of this number and to no other
abbrev pub Audits : {L X : Type 0} → Ghosts X L → LinkTells L → X → X → ℕ → Words → Result (List ℕ) Stop → Type 0
Audits dialer tells before after port asked ending =
    (dialer.asked after ≡ asked_again port (dialer.asked before)) × (NoLink dialer before after ending ⊎ Fetches dialer tells before after asked ending)
