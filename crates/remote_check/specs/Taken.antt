-- What the first bytes of a fetched reply settle about its certificate, whatever follows: whether it is to be judged, and how long it is.
use Rattle.std.specs.Prelude.{◌≡◌, ◌≢◌, ℕ, ◌-◌, ◌^◌, ◌<◌, ◌≤◌, List, ◌++◌, length, take, Option, Some, Err, IfSome}
use Rattle.std.specs.Io.KnownBytes.{Consumes}
use Rattle.httparse.specs.Grammar.{ResponseHead, status_code}
use Rattle.cert_reader.specs.declared.limits.TheConstants.{MOST_BYTES}
use Rattle.http_heads.specs.Search.{IsOpen}
use Rattle.remote_check.specs.declared.ends.FetchEnd.{FetchEnd}
use Rattle.remote_check.specs.declared.ends.FetchEnd.TheVariants.{LinkFault}
use Rattle.remote_check.specs.declared.limits.TheConstants.{OK_STATUS}
use Rattle.remote_check.specs.Fetched.{SaysHead}
use Rattle.remote_check.specs.Fields.{told_length}
use Rattle.remote_check.specs.Heads.{AsksMore, BeginsWith, IsResponseText, fields_of}

-- a body of this length is to be judged: the bytes are a head that tells it, and then the rest
pub record GoesOn (bytes rest : List ℕ) (count : ℕ) : Type 0 where
  pub head : ResponseHead
  pub begins : BeginsWith bytes head rest
  pub status : status_code head ≡ OK_STATUS
  pub told : told_length (fields_of head) ≡ Some count
  pub most : count ≤ MOST_BYTES

-- no body is judged: the bytes are a head and then the rest, and this is answered whatever follows
pub record Ends (bytes rest : List ℕ) (end : FetchEnd) : Type 0 where
  pub head : ResponseHead
  pub begins : BeginsWith bytes head rest
  pub says : (more : List ℕ) → SaysHead head more (Err end)
  pub other : end ≢ LinkFault

-- if all of a body of this length is to come, some of it is still to come: the bytes that are left begin with the last of it
abbrev pub LeavesSome : ℕ → List ℕ → Option (List ℕ) → Type 0
LeavesSome count rest left =
    count ≤ length rest → (part more after : List ℕ) × (0 < length more) × (take count rest ≡ part ++ more) × (left ≡ Some (more ++ after))

-- The bytes begin with a head whose body is to be judged, and some of the body is still to come. The second is said only if all of the body is to
-- come and the count of failed reads is below its greatest value: at that it doesn't tell of any read whether it failed.
pub record IsInBody (bytes : List ℕ) (left : Option (List ℕ)) (reads_now : ℕ) : Type 0 where
  pub rest : List ℕ
  pub count : ℕ
  pub goes_on : GoesOn bytes rest count
  pub some : reads_now < 2 ^ 64 - 1 → LeavesSome count rest left

-- What came of a reply settles no answer. Of the bytes that were to come these are left, and those that came begin with no head, the parser asks for more of
-- them, and they are fewer than a head may have; or the bytes to come begin with a head whose body is to be judged, and some of it is still to come.
pub data IsUnsettled (ahead left : Option (List ℕ)) (reads_now : ℕ) : Type 0 where
  in_head : (come : List ℕ) → Consumes ahead left come → IsOpen IsResponseText AsksMore come → IsUnsettled ahead left reads_now
  in_body : IfSome ahead (λ bytes. IsInBody bytes left reads_now) → IsUnsettled ahead left reads_now
