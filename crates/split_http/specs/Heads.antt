-- Heads of requests, and what they say.
use Rattle.std.specs.Prelude.{◌≡◌, ◌≢◌, ℕ, ◌≤◌, ◌==◌, nat_lt, Bool, not, ◌&&◌, ◌||◌, List, ◌++◌, length, map, replicate, codes, bytes_eq, Option, Some, None, option_map, if◌then◌else◌}
use Rattle.httparse.specs.Grammar.{RequestHead, IsRequestHead, print_request}
use Rattle.httparse.specs.Spans.{IsRequestAt, IsRequestWithin, name_and_value}
use Rattle.httparse.specs.declared.spans.HeaderSpan.{HeaderSpan}
use Rattle.httparse.specs.declared.spans.RequestSpans.{RequestSpans}
use Rattle.split_http.specs.declared.head.Verb.{Verb}
use Rattle.split_http.specs.declared.head.Verb.TheVariants.{Get, Head, Post, Other}
use Rattle.split_http.specs.declared.head.Head.{Head as HeadValue}
use Rattle.split_http.specs.declared.fields.Stated.{Stated}
use Rattle.split_http.specs.declared.fields.Stated.TheVariants.{Absent, Bad, Bytes}
use Rattle.http_heads.specs.declared.limits.TheConstants.{MAX_HEAD, MAX_FIELDS}
use Rattle.http_heads.specs.Fields.{Pair, count_of, value_of}
use Rattle.split_http.specs.declared.limits.TheConstants.{MAX_BODY, BAD_HOST, FRAMING, BAD_LENGTH, LENGTH_MISSING, BODY_TOO_LARGE}
use Rattle.split_http.specs.Fields.{has_value, has_option, stated_of}
use Rattle.split_http.specs.Paths.{IsPathOf}

-- a head by the grammar of `httparse` (RFC 9112), of at most `MAX_HEAD` bytes and with at most `MAX_FIELDS` fields
pub record IsHead (head : RequestHead) : Type 0 where
  pub valid : IsRequestHead head
  pub few : length head.fields ≤ MAX_FIELDS
  pub short : length (print_request head) ≤ MAX_HEAD

-- the bytes begin with no head
abbrev pub HasNoHead : List ℕ → Type 0
HasNoHead bytes = (head : RequestHead) (rest : List ℕ) → IsHead head → bytes ≢ print_request head ++ rest

-- the text of such a head, however long
abbrev pub IsRequestText : List ℕ → Type 0
IsRequestText text = (head : RequestHead) × IsRequestHead head × (length head.fields ≤ MAX_FIELDS) × (text ≡ print_request head)

-- the bytes begin with the head, and these are the spans of its parts
pub record IsFoundAt (bytes : List ℕ) (fields : List HeaderSpan) (spans : RequestSpans) : Type 0 where
  pub head : (h : RequestHead) × IsRequestAt bytes fields spans h × (length h.fields ≤ MAX_FIELDS)
  pub within : IsRequestWithin bytes fields spans

-- the parts of a head that say something
pub record HeadText : Type 0 where
  pub method : List ℕ
  pub target : List ℕ
  pub minor : ℕ
  pub fields : List Pair

-- what a head says in its parts
abbrev pub text_of : RequestHead → HeadText
text_of head = record {
  method = head.method;
  target = head.target;
  minor = head.minor;
  fields = map name_and_value head.fields;
}

-- the method, whose letters' case counts
abbrev pub verb_of : List ℕ → Verb
verb_of method =
    if bytes_eq method (codes "GET") then Get
    else (if bytes_eq method (codes "HEAD") then Head
    else (if bytes_eq method (codes "POST") then Post else Other))

-- a key of 64 bytes is taken as it is; any other becomes 64 zero bytes
abbrev pub key_from : List ℕ → List ℕ
key_from value = if length value == 64 then value else replicate 64 0

-- the key that the first x-key gives
abbrev pub key_of : List Pair → Option (List ℕ)
key_of fields = option_map key_from (value_of (codes "x-key") fields)

-- HTTP/1.1 without exactly one Host, or HTTP/1.0 with more than one
abbrev pub has_bad_host : ℕ → ℕ → Bool
has_bad_host minor hosts = if minor == 1 then not (hosts == 1) else nat_lt 1 hosts

-- the refusal for the length that a head gives or leaves out
abbrev pub stated_by : Verb → Stated → Option ℕ
stated_by verb Bad = Some BAD_LENGTH
stated_by Post Absent = Some LENGTH_MISSING
stated_by Get Absent = None
stated_by Head Absent = None
stated_by Other Absent = None
stated_by verb (Bytes count) = if nat_lt MAX_BODY count then Some BODY_TOO_LARGE else None

-- the first refusal that holds, in their order
abbrev pub first_refusal : Verb → ℕ → List Pair → Option ℕ
first_refusal verb minor fields =
    if has_bad_host minor (count_of (codes "host") fields) then Some BAD_HOST
    else (if nat_lt 0 (count_of (codes "transfer-encoding") fields) then Some FRAMING
    else stated_by verb (stated_of fields))

-- the first refusal of a head
abbrev pub refusal_of_head : HeadText → Option ℕ
refusal_of_head text = first_refusal (verb_of text.method) text.minor text.fields

-- the body's length: the one that the head gives, if nothing is refused
abbrev pub length_by : Option ℕ → Stated → ℕ
length_by None (Bytes count) = count
length_by None Absent = 0
length_by None Bad = 0
length_by (Some refusal) stated = 0

-- the length of the body that a head announces
abbrev pub length_of : HeadText → ℕ
length_of text = length_by (refusal_of_head text) (stated_of text.fields)

-- an interim reply is due: HTTP/1.1, not refused, with a body and `Expect: 100-continue`
abbrev pub expects_by : ℕ → ℕ → List Pair → Bool
expects_by count minor fields =
    nat_lt 0 count && (minor == 1) && has_value (codes "expect") (codes "100-continue") fields

-- a head asks for an interim reply, which is due before its body
abbrev pub expects_of : HeadText → Bool
expects_of text = expects_by (length_of text) text.minor text.fields

-- the connection is to be closed: HTTP/1.0, or `close` in Connection
abbrev pub closes_by : ℕ → List Pair → Bool
closes_by minor fields = (minor == 0) || has_option (codes "connection") fields

-- a head asks that the connection be closed
abbrev pub closes_of : HeadText → Bool
closes_of text = closes_by text.minor text.fields

-- the host reads this from the head
pub record IsHeadOf (text : HeadText) (head : HeadValue) : Type 0 where
  pub verb : head.verb ≡ verb_of text.method
  pub path : IsPathOf text.target head.path
  pub key : head.key ≡ key_of text.fields
  pub refused : head.refused ≡ refusal_of_head text
  pub body : head.length ≡ length_of text
  pub expects : head.expects ≡ expects_of text
  pub closes : head.closes ≡ closes_of text
