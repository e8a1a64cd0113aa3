-- The head of a response at the front of bytes.
-- `split_http` says the same of requests: `httparse` has a grammar of its own for each of the two, and no words for both.
use Rattle.std.specs.Prelude.{◌≡◌, ◌≢◌, ◌⊎◌, ℕ, ◌≤◌, List, ◌++◌, length, map}
use Rattle.httparse.specs.Grammar.{ResponseHead, HasNoResponse, IsResponseHead, MayBecomeResponse, print_response}
use Rattle.httparse.specs.Spans.{IsResponseAt, IsResponseWithin, ResponseExceeds, name_and_value}
use Rattle.httparse.specs.declared.spans.HeaderSpan.{HeaderSpan}
use Rattle.httparse.specs.declared.spans.ResponseSpans.{ResponseSpans}
use Rattle.http_heads.specs.declared.limits.TheConstants.{MAX_HEAD, MAX_FIELDS, ROOM}
use Rattle.http_heads.specs.Fields.{Pair}

-- a head by the grammar of `httparse` (RFC 9112), of at most `MAX_HEAD` bytes and with at most `MAX_FIELDS` fields
pub record IsHead (head : ResponseHead) : Type 0 where
  pub valid : IsResponseHead head
  pub few : length head.fields ≤ MAX_FIELDS
  pub short : length (print_response head) ≤ MAX_HEAD

-- the bytes begin with no head
abbrev pub HasNoHead : List ℕ → Type 0
HasNoHead bytes = (head : ResponseHead) (rest : List ℕ) → IsHead head → bytes ≢ print_response head ++ rest

-- the bytes are this head and then the rest
pub record BeginsWith (bytes : List ℕ) (head : ResponseHead) (rest : List ℕ) : Type 0 where
  pub is_head : IsHead head
  pub text : bytes ≡ print_response head ++ rest

-- `httparse` asks for more of the bytes: no head of any number of fields is at their front, and they become one when the right bytes
-- follow; or they have more fields than the 256 for which it has room
abbrev pub AsksMore : List ℕ → Type 0
AsksMore bytes = (HasNoResponse bytes × MayBecomeResponse bytes) ⊎ ResponseExceeds ROOM bytes

-- the text of such a head, however long
abbrev pub IsResponseText : List ℕ → Type 0
IsResponseText text = (head : ResponseHead) × IsResponseHead head × (length head.fields ≤ MAX_FIELDS) × (text ≡ print_response head)

-- the bytes begin with the head, and these are the spans of its parts
pub record IsFoundAt (bytes : List ℕ) (fields : List HeaderSpan) (spans : ResponseSpans) : Type 0 where
  pub head : (h : ResponseHead) × IsResponseAt bytes fields spans h × (length h.fields ≤ MAX_FIELDS)
  pub within : IsResponseWithin bytes fields spans

-- its fields, as names and values
abbrev pub fields_of : ResponseHead → List Pair
fields_of head = map name_and_value head.fields
