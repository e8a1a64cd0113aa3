-- Heads are unique, whatever follows, and what is read so far against all the bytes of a link.
use Rattle.std.proofs.Common.{◌≡◌, ℕ, ◌<◌, ◌≤◌, List, [], ◌++◌, length, take, map, Option, Some, None, Result, Ok, Err, IfSome, inl, inr, refl, sym, ap, ◌∙◌, arith, length-append, subst}
use Rattle.std.proofs.lemmas.Grind.{common_steps}
use Rattle.std.specs.Io.KnownBytes.{Keeps, prepend_known}
use Rattle.httparse.specs.Grammar.{ResponseHead, HasNoResponse, MayBecomeResponse, print_response}
use Rattle.httparse.specs.Spans.{IsResponseAt, IsResponseOf, IsResponseWithin, ResponseExceeds, header_bytes, name_and_value}
use Rattle.httparse.specs.Outcome.{IfComplete, OnPartial, OnTooManyHeaders}
use Rattle.httparse.specs.declared.Error.{Error}
use Rattle.httparse.specs.declared.Status.{Status}
use Rattle.httparse.specs.declared.Status.TheVariants.{Complete, Partial}
use Rattle.httparse.specs.declared.spans.HeaderSpan.{HeaderSpan}
use Rattle.httparse.specs.declared.spans.ResponseSpans.{ResponseSpans}
use Rattle.httparse.proofs.GrammarLemmas.{response_prefix_free, print_response-append}
use Rattle.http_heads.specs.declared.limits.TheConstants.{MAX_FIELDS, ROOM}
use Rattle.http_heads.specs.Search.{IsBad, NeverHasOne}
use Rattle.remote_check.specs.Heads.{AsksMore, HasNoHead, IsResponseText}

-- as many fields as were written
fields_count : (bytes : List ℕ) (headers : List HeaderSpan) (r : ResponseSpans) (h : ResponseHead)
    → IsResponseAt bytes headers r h → r.headers ≤ length headers → length h.fields ≡ r.headers
fields_count bytes headers r h at fits =
    let same : length (map (header_bytes bytes) (take r.headers headers)) ≡ length (map name_and_value h.fields) = ap length at.fields in
    grind (arith, common_steps, same)

-- a head with more fields leaves no room for another
too_many_fields : (bytes : List ℕ) (headers : List HeaderSpan) (r : ResponseSpans)
    → IsResponseOf bytes headers r → r.headers ≤ length headers → MAX_FIELDS < r.headers → NeverHasOne IsResponseText bytes
too_many_fields bytes headers r of fits many more text rest (k, valid, few, printed) is =
    let h = of.0 in
    let same = response_prefix_free bytes more h k _ rest of.1.reads (valid, is ∙ ap (λ z. z ++ rest) printed) in
    let count : length h.fields ≡ r.headers = fields_count bytes headers r h of.1 fits in
    let eq : length h.fields ≡ length k.fields = ap (λ (z : ResponseHead). length z.fields) same.0 in
    omega arith

-- the same of what the parser answers
pub many_fields : (bytes : List ℕ) (headers : List HeaderSpan) (result : Result (Status ResponseSpans) Error)
    → IfComplete result (IsResponseOf bytes headers) → IfComplete result (IsResponseWithin bytes headers)
    → IfComplete result (λ spans. MAX_FIELDS < spans.headers → NeverHasOne IsResponseText bytes)
many_fields bytes headers (Ok (Complete spans)) of within = too_many_fields bytes headers spans of within.section.count_fits
many_fields bytes headers (Ok Partial) of within = tt
many_fields bytes headers (Err error) of within = tt

-- the parser answers that it asks for more, or that it has no room
pub asks_partial : (bytes : List ℕ) (result : Result (Status ResponseSpans) Error) → OnPartial result (HasNoResponse bytes) → OnPartial result (MayBecomeResponse bytes) → OnPartial result (AsksMore bytes)
asks_partial bytes (Ok (Complete spans)) none may = tt
asks_partial bytes (Ok Partial) none may = inl (none, may)
asks_partial bytes (Err error) none may = tt

pub asks_room : (bytes : List ℕ) (room : ℕ) (result : Result (Status ResponseSpans) Error) → room ≡ ROOM → OnTooManyHeaders result (ResponseExceeds room bytes) → OnTooManyHeaders result (AsksMore bytes)
asks_room bytes room result size many is = inr (subst (λ n. ResponseExceeds n bytes) size (many is))

-- bytes that begin with no text of a head begin with no head
none_bytes : (bytes : List ℕ) → IsBad IsResponseText bytes → HasNoHead bytes
none_bytes bytes bad h rest head is = bad.none (print_response h) rest (h, head.valid, head.few, refl) head.short is

-- no head has no bytes
none_empty : HasNoHead []
none_empty h rest head is = omega (arith, ap length is, ap length (print_response-append h rest), length-append {A = ℕ})

-- what was read and is left has no head, nor has what was to come
pub none_to_come : (held : List ℕ) (before now : Option (List ℕ)) → held ≡ [] → Keeps (prepend_known held before) now → IfSome now (IsBad IsResponseText) → IfSome before HasNoHead
none_to_come held None now empty same bad = tt
none_to_come held (Some x) None empty same bad = absurd same
none_to_come held (Some x) (Some y) empty same bad = subst HasNoHead (same ∙ ap (λ z. z ++ x) empty) (none_bytes y bad)

-- nothing was to come
pub nothing_to_come : (held : List ℕ) (before now : Option (List ℕ)) → held ≡ [] → Keeps (prepend_known held before) now → IfSome now (λ all. all ≡ []) → IfSome before HasNoHead
nothing_to_come held None now empty same none = tt
nothing_to_come held (Some x) None empty same none = absurd same
nothing_to_come held (Some x) (Some y) empty same none = subst HasNoHead (sym none ∙ same ∙ ap (λ z. z ++ x) empty) none_empty

-- what was to come is what was read and what is left
pub came : (held : List ℕ) (before now : Option (List ℕ)) → held ≡ [] → Keeps (prepend_known held before) now → Keeps before now
came held None now empty same = tt
came held (Some x) None empty same = absurd same
came held (Some x) (Some y) empty same = same ∙ ap (λ z. z ++ x) empty
