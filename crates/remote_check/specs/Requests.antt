-- What a fetch writes, and what becomes of the counts of its link.
use Rattle.std.specs.Prelude.{◌≡◌, ◌≢◌, ℕ, ◌+◌, ◌-◌, ◌^◌, ◌<◌, ◌≤◌, List, ◌++◌, length, take, codes, decimal, Option, Result, Ok, Err}
use Rattle.std.specs.Io.KnownBytes.{Appends}
use Rattle.split_base.specs.Faults.{counted}
use Rattle.rule_verdicts.specs.declared.verdict.Verdict.{Verdict}
use Rattle.remote_check.specs.declared.ends.FetchEnd.{FetchEnd}
use Rattle.remote_check.specs.declared.ends.FetchEnd.TheVariants.{Reply, Status, NotText, TooLong, LinkFault}
use Rattle.remote_check.specs.declared.request.Words.{Words}
use Rattle.remote_check.specs.Taken.{IsUnsettled}

-- the request for the certificate of an instance (RFC 9112, section 3): each line ends in CR LF, and an empty line is last
abbrev pub request_of : Words → List ℕ
request_of words =
    codes "GET /instances/" ++ decimal words.id ++ codes "/certificate HTTP/1.1\r\nHost: 127.0.0.1\r\nx-key: " ++ words.key ++ codes "\r\nConnection: close\r\n\r\n"

-- One request is written, and nothing else, and at most one call fails: a write, after a first part of the request and not all of it, or a read, after all
-- of it and while what came settles no answer. The counts of failed reads and of failed writes, each before and now, tell which.
pub data AsksOnce (ahead left before now : Option (List ℕ)) (reads reads_now writes writes_now : ℕ) (request : List ℕ) (result : Result Verdict FetchEnd) : Type 0 where
  none_failed : result ≢ Err LinkFault → Appends before now request → reads_now ≡ reads → writes_now ≡ writes
      → AsksOnce ahead left before now reads reads_now writes writes_now request result
  write_failed : result ≡ Err LinkFault → (n : ℕ) → n < length request → Appends before now (take n request) → reads_now ≡ reads → writes_now ≡ counted writes
      → AsksOnce ahead left before now reads reads_now writes writes_now request result
  read_failed : result ≡ Err LinkFault → Appends before now request → reads_now ≡ counted reads → writes_now ≡ writes → IsUnsettled ahead left reads_now
      → AsksOnce ahead left before now reads reads_now writes writes_now request result

-- The reads that gave nothing, by their count before and now: one at most, as at the end of the input, and none if a call failed. So no read came
-- after the end. The second is said while the count of failed reads is below its greatest value: at that it doesn't tell of any read whether it
-- failed.
pub record MeetsEndOnce (ends ends_now reads_now : ℕ) (result : Result Verdict FetchEnd) : Type 0 where
  pub once : ends_now ≤ ends + 1
  pub failed : result ≡ Err LinkFault → reads_now < 2 ^ 64 - 1 → ends_now ≤ ends

-- the count of failed reads after the reply: one more if a read failed, otherwise the same
abbrev pub faults_of : ℕ → Result Verdict FetchEnd → ℕ
faults_of before (Ok verdict) = before
faults_of before (Err Reply) = before
faults_of before (Err (Status code)) = before
faults_of before (Err (NotText line)) = before
faults_of before (Err TooLong) = before
faults_of before (Err LinkFault) = counted before
