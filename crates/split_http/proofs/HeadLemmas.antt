-- Heads are unique, whatever follows, and what is read so far against all the bytes of a link.
use Rattle.std.proofs.Common.{◌≡◌, ℕ, true, ◌<◌, ◌≤◌, List, [], ◌∷◌, ◌++◌, length, take, map, codes, Option, Some, None, Result, Ok, Err, IfSome, inl, inr, refl, sym, ap, ◌∙◌, arith, length-append, append_assoc, append-nil, subst}
use Rattle.std.proofs.lemmas.Grind.{common_steps}
use Rattle.std.proofs.lemmas.List.Elements.{All-nil, All-push}
use Rattle.std.proofs.lemmas.Str.{IsUtf8-from_ascii}
use Rattle.std.proofs.lemmas.Str.Ascii.{IsAscii-cons, IsAscii-nil}
use Rattle.std.specs.Io.KnownBytes.{Keeps, prepend_known}
use Rattle.std.proofs.KnownBytes.{prepend_known-read}
use Rattle.httparse.specs.Grammar.{RequestHead, IsRequestHead, HasNoRequest, MayBecomeRequest, is_token_byte, is_uri_byte, lf, print_request}
use Rattle.httparse.specs.Spans.{IsRequestAt, IsRequestOf, IsRequestWithin, RequestExceeds, header_bytes, name_and_value, span_bytes}
use Rattle.httparse.specs.Outcome.{IfComplete, OnPartial, OnTooManyHeaders}
use Rattle.httparse.specs.declared.Error.{Error}
use Rattle.httparse.specs.declared.Status.{Status}
use Rattle.httparse.specs.declared.Status.TheVariants.{Complete, Partial}
use Rattle.httparse.specs.declared.spans.HeaderSpan.{HeaderSpan}
use Rattle.httparse.specs.declared.spans.RequestSpans.{RequestSpans}
use Rattle.httparse.proofs.GrammarLemmas.{request_prefix_free, print_request-append}
use Rattle.httparse.proofs.OpenLemmas.{letter_is_token}
use Rattle.http_heads.specs.declared.limits.TheConstants.{MAX_FIELDS, ROOM}
use Rattle.http_heads.specs.Fields.{fields_at}
use Rattle.http_heads.specs.Search.{IsBad as IsBadText, IsOpen as IsOpenText, HasNone, NeverHasOne}
use Rattle.split_http.specs.Heads.{IsRequestText, text_of}
use Rattle.split_http.specs.declared.head.Verb.{Verb}
use Rattle.split_http.specs.declared.heads.HeadTurn.{HeadTurn}
use Rattle.split_http.specs.declared.heads.HeadTurn.TheVariants as turns
use Rattle.split_http.specs.Turns.{AsksMore, IsToldAs, IsBad, MayBecomeHead, HasHeadOf, HeadSays, CarrySays, IsTaken}

-- as many fields as were written
fields_count : (bytes : List ℕ) (headers : List HeaderSpan) (r : RequestSpans) (h : RequestHead)
    → IsRequestAt bytes headers r h → r.headers ≤ length headers → length h.fields ≡ r.headers
fields_count bytes headers r h at fits =
    let same : length (map (header_bytes bytes) (take r.headers headers)) ≡ length (map name_and_value h.fields) = ap length at.fields in
    grind (arith, common_steps, same)

-- a head with more fields leaves no room for another
too_many_fields : (bytes : List ℕ) (headers : List HeaderSpan) (r : RequestSpans)
    → IsRequestOf bytes headers r → r.headers ≤ length headers → MAX_FIELDS < r.headers → NeverHasOne IsRequestText bytes
too_many_fields bytes headers r of fits many more text rest (k, valid, few, printed) is =
    let h = of.0 in
    let same = request_prefix_free bytes more h k _ rest of.1.reads (valid, is ∙ ap (λ z. z ++ rest) printed) in
    let count : length h.fields ≡ r.headers = fields_count bytes headers r h of.1 fits in
    let eq : length h.fields ≡ length k.fields = ap (λ (z : RequestHead). length z.fields) same.0 in
    omega arith

-- the same of what the parser answers
pub many_fields : (bytes : List ℕ) (headers : List HeaderSpan) (result : Result (Status RequestSpans) Error)
    → IfComplete result (IsRequestOf bytes headers) → IfComplete result (IsRequestWithin bytes headers)
    → IfComplete result (λ spans. MAX_FIELDS < spans.headers → NeverHasOne IsRequestText bytes)
many_fields bytes headers (Ok (Complete spans)) of within = too_many_fields bytes headers spans of within.section.count_fits
many_fields bytes headers (Ok Partial) of within = tt
many_fields bytes headers (Err error) of within = tt

-- what the spans cover is what the head says
pub same_text : (bytes : List ℕ) (headers : List HeaderSpan) (r : RequestSpans) (h : RequestHead) → IsRequestAt bytes headers r h
    → record { method = span_bytes bytes r.method; target = span_bytes bytes r.path; minor = r.version; fields = fields_at bytes (take r.headers headers) } ≡ text_of h
same_text bytes headers r h at = rw (at.method, at.path, at.version, at.fields) refl

-- bytes that begin with no text of a head begin with no head
bad_bytes : (bytes : List ℕ) → IsBadText IsRequestText bytes → IsBad bytes
bad_bytes bytes bad = (bad.some, λ h rest head is. bad.none (print_request h) rest (h, head.valid, head.few, refl) head.short is)

pub bad_told : (before left : Option (List ℕ)) (bytes : List ℕ) → Keeps before (prepend_known bytes left) → IsBadText IsRequestText bytes
    → IfSome (prepend_known bytes left) (IsBadText IsRequestText) → (all : List ℕ) × IsToldAs before all × IsBad all
bad_told None left bytes same bad says = (bytes, tt, bad_bytes bytes bad)
bad_told (Some x) None bytes same bad says = absurd same
bad_told (Some x) (Some y) bytes same bad says = (bytes ++ y, same, bad_bytes (bytes ++ y) says)

-- no byte is left
pub end_told : (before left : Option (List ℕ)) (bytes : List ℕ) → Keeps before (prepend_known bytes left) → IfSome (prepend_known bytes left) (λ all. all ≡ []) → IsToldAs before []
end_told None left bytes same none = tt
end_told (Some x) None bytes same none = absurd same
end_told (Some x) (Some y) bytes same none = sym none ∙ same

-- a head of the fewest bytes
abbrev some_head : RequestHead
some_head = record { blank = []; method = codes "A"; target = codes "/"; minor = 0; line_end = lf; fields = []; last = lf }

some_head_valid : IsRequestHead some_head
some_head_valid = record {
  method = (omega arith, All-push (λ v. is_token_byte v ≡ true) [] 65 (All-nil _) letter_is_token);
  target = (omega arith, All-push (λ v. is_uri_byte v ≡ true) [] 47 (All-nil _) refl);
  target_text = IsUtf8-from_ascii (codes "/") (IsAscii-cons 47 [] (omega arith) IsAscii-nil);
  minor = omega arith;
  fields = All-nil _;
}

-- no byte is no head of any number of fields, and each head begins with none
none_in_nothing : HasNoRequest []
none_in_nothing h rest reads = omega (arith, ap length reads.1, ap length (print_request-append h rest), reads.0.method.0, length-append {A = ℕ})

asks_of_nothing : AsksMore []
asks_of_nothing = inl (none_in_nothing, inl (print_request some_head, some_head, (some_head_valid, sym (append-nil (print_request some_head)))))

-- the parser asks for more of the bytes, of which there may be none
open_bytes : (bytes : List ℕ) → IsOpenText IsRequestText AsksMore bytes → MayBecomeHead bytes
open_bytes [] may = record { none = λ h rest head is. none_in_nothing h rest (head.valid, is); asks = asks_of_nothing; few = may.few }
open_bytes (b ∷ bytes) may = record {
  none = λ h rest head is. may.none (omega arith) (print_request h) rest (h, head.valid, head.few, refl) is;
  asks = may.asks (omega arith);
  few = may.few;
}

-- no head of any number of fields, so none with few
pub none_of_text : (bytes : List ℕ) → HasNoRequest bytes → HasNone IsRequestText bytes
none_of_text bytes none text rest (h, valid, few, printed) is = none h rest (valid, is ∙ ap (λ z. z ++ rest) printed)

-- the parser answers that it asks for more, or that it has no room
pub asks_partial : (bytes : List ℕ) (result : Result (Status RequestSpans) Error) → OnPartial result (HasNoRequest bytes) → OnPartial result (MayBecomeRequest bytes) → OnPartial result (AsksMore bytes)
asks_partial bytes (Ok (Complete spans)) none may = tt
asks_partial bytes (Ok Partial) none may = inl (none, may)
asks_partial bytes (Err error) none may = tt

pub asks_room : (bytes : List ℕ) (room : ℕ) (result : Result (Status RequestSpans) Error) → room ≡ ROOM → OnTooManyHeaders result (RequestExceeds room bytes) → OnTooManyHeaders result (AsksMore bytes)
asks_room bytes room result size many is = inr (subst (λ n. RequestExceeds n bytes) size (many is))

-- the head at the front of the carry is at the front of the link's bytes
head_ahead : (before left : Option (List ℕ)) (old : List ℕ) (verb : Verb) → Keeps before (prepend_known old left) → HasHeadOf verb old
    → (all : List ℕ) × IsToldAs before all × HasHeadOf verb all
head_ahead None left old verb same head = (old, tt, head)
head_ahead (Some x) None old verb same head = absurd same
head_ahead (Some x) (Some y) old verb same (h, rest, is_head, says, is) =
    (old ++ y, same, (h, rest ++ y, is_head, says, ap (λ z. z ++ y) is ∙ append_assoc (print_request h) rest y))

-- the head that was taken off the carry was taken off the link's bytes
pub taken : (before left : Option (List ℕ)) (old new : List ℕ) (result : HeadTurn) → Keeps before (prepend_known old left) → IsTaken old new result
    → HeadSays before (prepend_known new left) result
taken before left old new (turns.Head head) same (h, is_head, says, is) =
    (h, is_head, says, (prepend_known-read before left old new (print_request h) ⊥ same is (λ x. absurd x)).0)
taken before left old new turns.BadHead same h = absurd h
taken before left old new turns.End same h = absurd h
taken before left old new turns.LinkFault same h = absurd h
taken before left old new (turns.NoMemory verb) same (stays, head) =
    (subst (λ bytes. Keeps before (prepend_known bytes left)) (sym stays) same, head_ahead before left old verb same head)

-- and from the carry's bytes and those that were read
pub carried : (old bytes new : List ℕ) (result : HeadTurn) → ((read : List ℕ) × (bytes ≡ old ++ read)) → CarrySays bytes new result
    → (read : List ℕ) × CarrySays (old ++ read) new result
carried old bytes new result (read, is) says = (read, subst (λ z. CarrySays z new result) is says)

pub bad_carry : (old bytes : List ℕ) → ((read : List ℕ) × (bytes ≡ old ++ read)) → IsBadText IsRequestText bytes → (read : List ℕ) × CarrySays (old ++ read) bytes turns.BadHead
bad_carry old bytes more bad = carried old bytes bytes turns.BadHead more (refl, bad_bytes bytes bad)

pub open_carry : (old bytes : List ℕ) → ((read : List ℕ) × (bytes ≡ old ++ read)) → IsOpenText IsRequestText AsksMore bytes → (read : List ℕ) × CarrySays (old ++ read) bytes turns.LinkFault
open_carry old bytes more may = carried old bytes bytes turns.LinkFault more (refl, open_bytes bytes may)

pub taken_carry : (bytes new : List ℕ) (result : HeadTurn) → IsTaken bytes new result → CarrySays bytes new result
taken_carry bytes new (turns.Head head) is = is
taken_carry bytes new turns.BadHead is = absurd is
taken_carry bytes new turns.End is = absurd is
taken_carry bytes new turns.LinkFault is = absurd is
taken_carry bytes new (turns.NoMemory verb) is = is
