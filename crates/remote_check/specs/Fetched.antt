-- What is answered of a reply that was fetched.
use Rattle.std.specs.Prelude.{◌≡◌, ◌≢◌, ◌⊎◌, ℕ, ◌<◌, ◌≤◌, List, length, take, Option, Some, None, Result, Ok, Err, IfSome}
use Rattle.httparse.specs.Grammar.{ResponseHead, status_code}
use Rattle.cert_reader.specs.declared.limits.TheConstants.{MOST_BYTES}
use Rattle.cert_reader.specs.Text.{IsBrokenText}
use Rattle.cert_checker.specs.Judged.{IsJudged}
use Rattle.rule_verdicts.specs.declared.verdict.Verdict.{Verdict}
use Rattle.remote_check.specs.declared.ends.FetchEnd.{FetchEnd}
use Rattle.remote_check.specs.declared.ends.FetchEnd.TheVariants.{Reply, Status, NotText, TooLong, LinkFault}
use Rattle.remote_check.specs.declared.limits.TheConstants.{OK_STATUS}
use Rattle.remote_check.specs.Fields.{told_length}
use Rattle.remote_check.specs.Heads.{BeginsWith, HasNoHead, fields_of}

-- sixth, what the judge says of the body: the verdict, or the first broken line
abbrev pub SaysJudge : List ℕ → Result Verdict FetchEnd → Type 0
SaysJudge body (Ok verdict) = IsJudged body verdict
SaysJudge body (Err Reply) = ⊥
SaysJudge body (Err (Status code)) = ⊥
SaysJudge body (Err (NotText line)) = IsBrokenText body line
SaysJudge body (Err TooLong) = ⊥
SaysJudge body (Err LinkFault) = ⊥

-- fifth, whether the input ends within the body, of this told length
abbrev pub SaysBody : ℕ → List ℕ → Result Verdict FetchEnd → Type 0
SaysBody count rest result =
    ((length rest < count) × (result ≡ Err Reply))
    ⊎ ((count ≤ length rest) × SaysJudge (take count rest) result)

-- third, whether a length is told, and fourth, whether it is above `MOST_BYTES`
abbrev pub SaysLength : Option ℕ → List ℕ → Result Verdict FetchEnd → Type 0
SaysLength None rest result = result ≡ Err Reply
SaysLength (Some count) rest result =
    ((MOST_BYTES < count) × (result ≡ Err TooLong))
    ⊎ ((count ≤ MOST_BYTES) × SaysBody count rest result)

-- second, whether the status is anything but 200
abbrev pub SaysHead : ResponseHead → List ℕ → Result Verdict FetchEnd → Type 0
SaysHead head rest result =
    ((status_code head ≢ OK_STATUS) × (result ≡ Err (Status (status_code head))))
    ⊎ ((status_code head ≡ OK_STATUS) × SaysLength (told_length (fields_of head)) rest result)

-- what is answered of all bytes of a link: first, whether they begin with no head
abbrev pub Fetched : List ℕ → Result Verdict FetchEnd → Type 0
Fetched bytes result =
    (HasNoHead bytes × (result ≡ Err Reply))
    ⊎ ((head : ResponseHead) × (rest : List ℕ) × BeginsWith bytes head rest × SaysHead head rest result)

-- the same of a link's bytes, if it reveals them and no call failed
abbrev pub FetchSays : Option (List ℕ) → Result Verdict FetchEnd → Type 0
FetchSays known result = IfSome known (λ bytes. result ≢ Err LinkFault → Fetched bytes result)

-- the bytes are a reply of status 200, and this is its body, of the told length
pub record IsReplyOf (bytes body : List ℕ) : Type 0 where
  pub head : ResponseHead
  pub rest : List ℕ
  pub begins : BeginsWith bytes head rest
  pub status : status_code head ≡ OK_STATUS
  pub told : told_length (fields_of head) ≡ Some (length body)
  pub most : length body ≤ MOST_BYTES
  pub whole : length body ≤ length rest
  pub is_body : body ≡ take (length body) rest
