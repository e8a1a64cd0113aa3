-- HTTP/1.1 without a link: where a request, with its head and its body, ends at the front of some bytes.
use Rattle.std.specs.Prelude.{◌≡◌, ℕ, ◌+◌, List, ◌++◌, length}
use Rattle.httparse.specs.Grammar.{RequestHead, print_request}
use Rattle.split_http.specs.declared.framing.Framing.{Framing}
use Rattle.split_http.specs.declared.framing.Framing.TheVariants as framings
use Rattle.split_http.specs.Heads.{IsHead, HasNoHead, text_of, length_of, expects_of}
use Rattle.split_http.specs.Turns.{MayBecomeHead}

-- the bytes begin with no head, and will not, whatever follows
abbrev pub NeverHasHead : List ℕ → Type 0
NeverHasHead bytes = (more : List ℕ) → HasNoHead (bytes ++ more)

-- the bytes begin with this head, and a body of the length that it tells ends there
abbrev pub EndsAt : List ℕ → RequestHead → ℕ → Type 0
EndsAt bytes head bound = ((rest : List ℕ) × (bytes ≡ print_request head ++ rest)) × (bound ≡ length (print_request head) + length_of (text_of head))

-- a head is at the front, it ends so far on with its body, and this is whether an interim reply is due
abbrev pub IsRequest : List ℕ → Framing → Type 0
IsRequest bytes framings.Open = ⊥
IsRequest bytes framings.NoHead = ⊥
IsRequest bytes (framings.Request bound expects) = (head : RequestHead) × IsHead head × EndsAt bytes head bound × (expects ≡ expects_of (text_of head))

-- what is at the front: no head yet, and the parser asks for more; no head ever; or a request
abbrev pub FramingSays : List ℕ → Framing → Type 0
FramingSays bytes framings.Open = MayBecomeHead bytes
FramingSays bytes framings.NoHead = NeverHasHead bytes
FramingSays bytes (framings.Request bound expects) = IsRequest bytes (framings.Request bound expects)
