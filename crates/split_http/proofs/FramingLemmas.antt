-- What the first bytes say of all of them.
use Rattle.std.proofs.Common.{◌≡◌, ℕ, ◌+◌, ◌-◌, ◌<◌, ◌≤◌, Bool, List, ◌++◌, length, take, drop, Some, refl, sym, ap, ◌∙◌, arith, subst, append_assoc, length-append}
use Rattle.std.proofs.lemmas.List.{take-append-drop, take_all, take_at}
use Rattle.std.proofs.Math.Seq.{take-append-add}
use Rattle.httparse.specs.Grammar.{print_request}
use Rattle.http_heads.specs.declared.limits.TheConstants.{MAX_HEAD}
use Rattle.http_heads.specs.Search.{HasNone, NeverHasOne}
use Rattle.split_http.specs.declared.framing.Framing.{Framing}
use Rattle.split_http.specs.declared.framing.Framing.TheVariants as framings
use Rattle.split_http.specs.declared.head.Head.{Head}
use Rattle.split_http.specs.declared.heads.HeadTurn.TheVariants as turns
use Rattle.split_http.specs.Heads.{IsRequestText, HasNoHead, text_of, length_of, expects_of}
use Rattle.split_http.specs.Turns.{AsksMore, HeadSays, MayBecomeHead}
use Rattle.split_http.specs.Framings.{IsRequest, FramingSays, NeverHasHead}
use Rattle.split_http.proofs.LawLemmas.{one_head}

-- the first bytes, those after them, and more
parts : (n : ℕ) (bytes more : List ℕ) → take n bytes ++ (drop n bytes ++ more) ≡ bytes ++ more
parts n bytes more = sym (append_assoc (take n bytes) (drop n bytes) more) ∙ ap (λ z. z ++ more) (take-append-drop n bytes)

-- a request at the front of the first bytes is at the front of all
pub request_of : (n : ℕ) (bytes : List ℕ) (result : Framing) → IsRequest (take n bytes) result → FramingSays bytes result
request_of n bytes framings.Open is = absurd is
request_of n bytes framings.NoHead is = absurd is
request_of n bytes (framings.Request bound expects) (head, valid, ((rest, is), behind), due) = (
  head,
  valid,
  ((rest ++ drop n bytes, sym (take-append-drop n bytes) ∙ ap (λ z. z ++ drop n bytes) is ∙ append_assoc (print_request head) rest (drop n bytes)), behind),
  due,
)

-- where the first bytes never have a head, none will come there
pub never_of : (n : ℕ) (bytes : List ℕ) → NeverHasOne IsRequestText (take n bytes) → NeverHasHead bytes
never_of n bytes never more head rest is_head is =
    never (drop n bytes ++ more) (print_request head) rest (head, is_head.valid, is_head.few, refl) (parts n bytes more ∙ is)

-- the first bytes are all, and the parser asks for more of them
pub open_of : (n : ℕ) (bytes : List ℕ) → length bytes ≤ n → length bytes < MAX_HEAD → HasNone IsRequestText (take n bytes) × AsksMore (take n bytes) → MayBecomeHead bytes
open_of n bytes all few looked =
    let same : take n bytes ≡ bytes = take_all n bytes all in
    record {
      none = λ h rest head is. looked.0 (print_request h) rest (h, head.valid, head.few, refl) (same ∙ is);
      asks = subst AsksMore same looked.1;
      few = few;
    }

-- nor after as many bytes as a head may have, which have none
full : (bytes more : List ℕ) → length bytes ≡ MAX_HEAD → HasNone IsRequestText bytes → HasNoHead (bytes ++ more)
full bytes more size none h rest head is =
    let text = print_request h in
    let split : MAX_HEAD ≡ length text + (MAX_HEAD - length text) = omega (arith, head.short) in
    let front : bytes ≡ text ++ take (MAX_HEAD - length text) rest =
    sym (take_at bytes more MAX_HEAD size) ∙ ap (take MAX_HEAD) is ∙ ap (λ n. take n (text ++ rest)) split ∙ take-append-add text rest (MAX_HEAD - length text) in
    none text (take (MAX_HEAD - length text) rest) (h, head.valid, head.few, refl) front

pub full_of : (n : ℕ) (bytes : List ℕ) → length (take n bytes) ≡ MAX_HEAD → HasNone IsRequestText (take n bytes) → NeverHasHead bytes
full_of n bytes size none more = subst HasNoHead (parts n bytes more) (full (take n bytes) (drop n bytes ++ more) size none)

-- what is taken of bytes that begin with a request is its head, and what that says is what is told
pub one_rule : (bytes rest : List ℕ) (bound : ℕ) (expects : Bool) (head : Head) → FramingSays bytes (framings.Request bound expects)
    → HeadSays (Some bytes) (Some rest) (turns.Head head) → (bound + length rest ≡ length bytes + head.length) × (head.expects ≡ expects)
one_rule bytes rest bound expects head (h, valid, ((more, is), behind), due) (k, also, says, was) =
    let same = one_head h k more rest valid also (sym is ∙ was) in
    let body : head.length ≡ length_of (text_of h) = says.body ∙ ap (λ z. length_of (text_of z)) (sym same.0) in
    let size : length bytes ≡ length (print_request k) + length rest = ap length was ∙ length-append (print_request k) rest in
    let text : length (print_request h) ≡ length (print_request k) = ap (λ z. length (print_request z)) same.0 in
    (omega (arith, behind, body, size, text), says.expects ∙ ap (λ z. expects_of (text_of z)) (sym same.0) ∙ sym due)
