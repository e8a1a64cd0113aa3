-- For the laws on what a fetch makes of a host's replies: when it answers yes, or nothing but yes, and which replies send a certificate.
use Rattle.std.specs.Prelude.{◌≡◌, ◌≢◌, ℕ, List, ◌++◌, Some, Result, Ok, Err}
use Rattle.host_commands.specs.Publishing.{AsksFor}
use Rattle.host_journal.specs.States.{State}
use Rattle.serving.specs.Exchanges.{Exchange}
use Rattle.remote_check.specs.declared.ends.FetchEnd.{FetchEnd}
use Rattle.remote_check.specs.declared.ends.FetchEnd.TheVariants.{LinkFault}
use Rattle.remote_check.specs.declared.limits.TheConstants.{OK_STATUS}
use Rattle.remote_check.specs.Fetched.{FetchSays, Fetched}
use Rattle.sealed_core.specs.declared.commands.What.TheVariants as what
use Rattle.split_http.specs.declared.head.Verb.TheVariants as verb
use Rattle.rule_verdicts.specs.declared.verdict.Verdict.{Verdict}
use Rattle.rule_verdicts.specs.declared.verdict.Verdict.TheVariants.{Yes}

-- a fetch that takes these bytes is to answer yes
abbrev pub IsYes : List ℕ → Type 0
IsYes bytes = Fetched bytes (Ok Yes)

-- a fetch over a link with these bytes answers nothing but yes, unless a call on the link fails
abbrev pub IsYesOnly : List ℕ → Type 0
IsYesOnly bytes = (result : Result Verdict FetchEnd) → FetchSays (Some bytes) result → result ≢ Err LinkFault → result ≡ Ok Yes

-- this holds of the bytes of each reply of status 200 to a GET for a certificate, whatever bytes follow them
abbrev pub IsOfCertificates : {D : Type 0} → (List ℕ → Type 0) → Exchange (D × State) → Type 0
IsOfCertificates so x = AsksFor x what.Certificate → x.due.said.status ≡ OK_STATUS → x.head.verb ≡ verb.Get → (rest : List ℕ) → so (x.bytes ++ rest)
