-- The numbers of the refusals of a head.
use Rattle.std.proofs.Common.{◌≡◌, ℕ, ◌≤◌, nat_lt, Bool, true, false, Option, Some, None, if◌then◌else◌, sym, ◌∙◌, arith}
use Rattle.split_http.specs.declared.head.Head.{Head as HeadValue}
use Rattle.split_http.specs.declared.head.Verb.{Verb}
use Rattle.split_http.specs.declared.head.Verb.TheVariants.{Get, Head, Post, Other}
use Rattle.split_http.specs.declared.fields.Stated.{Stated}
use Rattle.split_http.specs.declared.fields.Stated.TheVariants.{Absent, Bad, Bytes}
use Rattle.split_http.specs.declared.limits.TheConstants.{BAD_HOST, FRAMING, BAD_LENGTH, LENGTH_MISSING, BODY_TOO_LARGE, MAX_BODY}
use Rattle.split_http.specs.Fields.{stated_of}
use Rattle.split_http.specs.Heads.{HeadText, IsHeadOf, stated_by, verb_of}

-- the number is one of the five
abbrev IsRow : ℕ → Type 0
IsRow row = (BAD_HOST ≤ row) × (row ≤ BODY_TOO_LARGE)

-- one of them is told
told : (known row : ℕ) → BAD_HOST ≤ known → known ≤ BODY_TOO_LARGE → Some known ≡ Some row → IsRow row
told known row low high e =
    let is : known ≡ row = cc in
    (omega (arith, is, low), omega (arith, is, high))

-- the same after a test
told_if : (v : Bool) (known row : ℕ) (rest : Option ℕ) → BAD_HOST ≤ known → known ≤ BODY_TOO_LARGE → (rest ≡ Some row → IsRow row)
    → (if v then Some known else rest) ≡ Some row → IsRow row
told_if true known row rest low high next e = told known row low high e
told_if false known row rest low high next e = next e

-- what the length refuses
stated_row : (verb : Verb) (stated : Stated) (row : ℕ) → stated_by verb stated ≡ Some row → IsRow row
stated_row verb Bad row e = told BAD_LENGTH row (omega arith) (omega arith) e
stated_row Post Absent row e = told LENGTH_MISSING row (omega arith) (omega arith) e
stated_row Get Absent row e = absurd cc
stated_row Head Absent row e = absurd cc
stated_row Other Absent row e = absurd cc
stated_row verb (Bytes count) row e = told_if (nat_lt MAX_BODY count) BODY_TOO_LARGE row None (omega arith) (omega arith) (λ h. absurd cc) e

-- what a head refuses
pub refusal_row : (text : HeadText) (head : HeadValue) (row : ℕ) → IsHeadOf text head → head.refused ≡ Some row → IsRow row
refusal_row text head row says e =
    let verb = verb_of text.method in
    told_if _ BAD_HOST row _ (omega arith) (omega arith)
    (told_if _ FRAMING row _ (omega arith) (omega arith) (stated_row verb (stated_of text.fields) row))
    (sym says.refused ∙ e)
