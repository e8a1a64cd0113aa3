-- What was written, and the counts.
use Rattle.std.proofs.Common.{◌≡◌, ◌≢◌, ℕ, ◌+◌, ◌-◌, ◌^◌, ◌<◌, ◌≤◌, List, length, take, Option, Result, Ok, Err, IsErrOf, refl, sym, ap, ◌∙◌, subst, arith}
use Rattle.std.specs.Io.KnownBytes.{Appends}
use Rattle.split_base.specs.Faults.{counted}
use Rattle.rule_verdicts.specs.declared.verdict.Verdict.{Verdict}
use Rattle.remote_check.specs.declared.ends.FetchEnd.{FetchEnd}
use Rattle.remote_check.specs.declared.ends.FetchEnd.TheVariants as ends
use Rattle.remote_check.specs.Requests.{AsksOnce, MeetsEndOnce, faults_of}
use Rattle.remote_check.specs.Taken.{IsUnsettled}

-- the reply was heard after the whole request
pub asks_heard : (ahead left before mid now : Option (List ℕ)) (reads reads_mid reads_now writes writes_mid writes_now : ℕ) (request : List ℕ) (result : Result Verdict FetchEnd)
    → Appends before mid request → now ≡ mid → reads_mid ≡ reads → writes_mid ≡ writes → reads_now ≡ faults_of reads_mid result → writes_now ≡ writes_mid
    → (IsErrOf result ends.LinkFault → IsUnsettled ahead left reads_now)
    → AsksOnce ahead left before now reads reads_now writes writes_now request result
asks_heard ahead left before mid now reads reads_mid reads_now writes writes_mid writes_now request result wrote same read write heard kept unsettled =
    let all : Appends before now request = subst (λ z. Appends before z request) (sym same) wrote in
    let stays : writes_now ≡ writes = kept ∙ write in
    let counts : reads_now ≡ faults_of reads result = heard ∙ ap (λ n. faults_of n result) read in
    by_end result all stays counts unsettled
  where
    by_end : (result : Result Verdict FetchEnd) → Appends before now request → writes_now ≡ writes → reads_now ≡ faults_of reads result → (IsErrOf result ends.LinkFault → IsUnsettled ahead left reads_now)
        → AsksOnce ahead left before now reads reads_now writes writes_now request result
    by_end (Ok verdict) all stays counts unsettled = AsksOnce.none_failed (λ is. cc) all counts stays
    by_end (Err ends.Reply) all stays counts unsettled = AsksOnce.none_failed (λ is. cc) all counts stays
    by_end (Err (ends.Status code)) all stays counts unsettled = AsksOnce.none_failed (λ is. cc) all counts stays
    by_end (Err (ends.NotText line)) all stays counts unsettled = AsksOnce.none_failed (λ is. cc) all counts stays
    by_end (Err ends.TooLong) all stays counts unsettled = AsksOnce.none_failed (λ is. cc) all counts stays
    by_end (Err ends.LinkFault) all stays counts unsettled = AsksOnce.read_failed refl all counts stays (unsettled refl)

-- a write failed
pub asks_part : (ahead left before now : Option (List ℕ)) (reads reads_now writes writes_now : ℕ) (request : List ℕ) → ((n : ℕ) × (n < length request) × Appends before now (take n request))
    → reads_now ≡ reads → writes_now ≡ counted writes → AsksOnce ahead left before now reads reads_now writes writes_now request (Err ends.LinkFault)
asks_part ahead left before now reads reads_now writes writes_now request (n, less, wrote) stays count = AsksOnce.write_failed refl n less wrote stays count

-- another end than a fault of the link leaves the counts
pub same_faults : (before : ℕ) (end : FetchEnd) → end ≢ ends.LinkFault → before ≡ faults_of before (Err end)
same_faults before ends.Reply other = refl
same_faults before (ends.Status code) other = refl
same_faults before (ends.NotText line) other = refl
same_faults before ends.TooLong other = refl
same_faults before ends.LinkFault other = absurd (other refl)

-- and is none
pub no_fault : (end : FetchEnd) → end ≢ ends.LinkFault → (result : Result Verdict FetchEnd) → result ≡ Err end → result ≢ Err ends.LinkFault
no_fault ends.Reply other result e = λ is. cc
no_fault (ends.Status code) other result e = λ is. cc
no_fault (ends.NotText line) other result e = λ is. cc
no_fault ends.TooLong other result e = λ is. cc
no_fault ends.LinkFault other result e = absurd (other refl)

-- the end was met while the reply was heard
pub met_heard : (met mid now reads : ℕ) (result : Result Verdict FetchEnd) → mid ≡ met → now ≤ mid + 1 → (IsErrOf result ends.LinkFault → reads < 2 ^ 64 - 1 → now ≤ mid)
    → MeetsEndOnce met now reads result
met_heard met mid now reads result same once before = record {
  once = omega (arith, same, once);
  failed = λ is less. omega (arith, same, before is less);
}

-- nothing was read
pub met_nowhere : (met now reads : ℕ) (result : Result Verdict FetchEnd) → now ≡ met → MeetsEndOnce met now reads result
met_nowhere met now reads result same = record { once = omega (arith, same); failed = λ is less. omega (arith, same) }
