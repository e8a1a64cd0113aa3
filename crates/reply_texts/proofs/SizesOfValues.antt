-- How long the texts of JSON values are: of strings without control characters, of names, of lists and of objects.
use Rattle.std.proofs.Common.{◌≡◌, ℕ, ◌+◌, ◌*◌, ◌/◌, ◌%◌, ◌≤◌, Bool, true, false, ◌&&◌, ◌==◌, nat_le, nat_lt, cond, not, List, [], ◌∷◌, ◌++◌, length, map, All, arith, length-append, suc-mul}
use Rattle.std.specs.Char.{digit_char}
use Rattle.std.specs.List.{list_all}
use Rattle.std.proofs.lemmas.Bool.{and_parts, cond_both, le-ltb, leb-true}
use Rattle.std.proofs.lemmas.List.Elements.{All-cons, All-head, All-nil, All-tail}
use Rattle.json.specs.Print.{escape, escape_byte, escape_letter, quoted}
use Rattle.serde_json.specs.Data.{Data, null, boolean, number, string, array, object, Members, member, no_members}
use Rattle.serde_json.specs.View.{items_of}
use Rattle.serde_json.specs.Written.{comma_if, compact_text, items_text, members_text}
use Rattle.bid_rules.specs.declared.limits.TheConstants.{LONGEST_NAME}
use Rattle.body_fields.specs.Rules.{IsName, is_plain}
use Rattle.reply_texts.specs.Values.{list_by}

-- ---- strings

-- a byte that is no control character
abbrev pub IsPrinted : ℕ → Type 0
IsPrinted byte = 32 ≤ byte

-- takes at most two
byte_size : (byte : ℕ) → IsPrinted byte → length (escape_byte byte) ≤ 2
unfolding escape_byte
byte_size byte high =
    let digits : List ℕ = 92 ∷ 117 ∷ 48 ∷ 48 ∷ digit_char (byte / 16) ∷ digit_char (byte % 16) ∷ [] in
    cond_both (nat_lt 0 (escape_letter byte)) (92 ∷ escape_letter byte ∷ []) (cond (nat_lt byte 32) digits (byte ∷ [])) (λ (text : List ℕ). length text ≤ 2) (λ _. omega arith)
    (λ _. rw (le-ltb byte 32 high) (omega arith))

-- so an escaped text is at most twice as long
escape_size : (text : List ℕ) → All IsPrinted text → length (escape text) ≤ 2 * length text
escape_size [] printed = omega arith
escape_size (byte ∷ text) printed =
    omega (arith, length-append (escape_byte byte) (escape text), byte_size byte (All-head IsPrinted byte text printed), escape_size text (All-tail IsPrinted byte text printed))

-- and has two quotes around it
pub quoted_size : (text : List ℕ) → All IsPrinted text → length (quoted text) ≤ 2 * length text + 2
quoted_size text printed = omega (arith, escape_size text printed, length-append (escape text) (34 ∷ []))

-- the bytes of a name are no control characters
printed : (text : List ℕ) → list_all is_plain text ≡ true → All IsPrinted text
printed [] plain = All-nil IsPrinted
printed (byte ∷ text) plain =
    let both = and_parts (is_plain byte) (list_all is_plain text) plain in
    All-cons IsPrinted byte text (leb-true 32 byte (and_parts (nat_le 32 byte) (not (byte == 127)) both.0).0) (printed text both.1)

-- the text of a name
pub name_size : (name : List ℕ) → IsName name → length (quoted name) ≤ 82
name_size name is =
    let both = and_parts (nat_lt 0 (length name) && nat_le (length name) LONGEST_NAME) (list_all is_plain name) is in
    let short = leb-true (length name) LONGEST_NAME (and_parts (nat_lt 0 (length name)) (nat_le (length name) LONGEST_NAME) both.0).1 in
    omega (arith, quoted_size name (printed name both.1), short)

-- ---- lists

-- before a value stands at most one comma
comma_size : (later : Bool) → length (comma_if later) ≤ 1
comma_size true = omega arith
comma_size false = omega arith

-- values of at most so many bytes each, with their commas and the closing bracket
items_size : {A : Type 0} (f : A → Data) (most : ℕ) (later : Bool) (xs : List A) → All (λ x. length (compact_text (f x)) ≤ most) xs
    → length (items_text later (items_of (map f xs))) ≤ length xs * (most + 1) + 1
items_size f most later [] each = omega arith
items_size f most later (x ∷ xs) each =
    omega (
      arith,
      length-append (comma_if later) (compact_text (f x) ++ items_text true (items_of (map f xs))),
      length-append (compact_text (f x)) (items_text true (items_of (map f xs))),
      comma_size later,
      All-head (λ x. length (compact_text (f x)) ≤ most) x xs each,
      items_size f most true xs (All-tail (λ x. length (compact_text (f x)) ≤ most) x xs each),
      suc-mul (length xs) (most + 1),
    )

-- a list of such values
pub list_size : {A : Type 0} (f : A → Data) (most : ℕ) (xs : List A) → All (λ x. length (compact_text (f x)) ≤ most) xs → length (compact_text (list_by f xs)) ≤ length xs * (most + 1) + 2
list_size f most xs each = omega (arith, items_size f most false xs each)

-- ---- objects

-- the most bytes that members take, with colons, commas and the closing brace
abbrev pub members_most : Members → ℕ
members_most no_members = 1
members_most (member key value others) = length (quoted key) + length (compact_text value) + 2 + members_most others

-- the most bytes that a value takes, where an object is taken member by member
abbrev pub value_most : Data → ℕ
value_most (object members) = 1 + members_most members
value_most value = length (compact_text value)

-- members with the closing brace
members_size : (later : Bool) (members : Members) → length (members_text later members) ≤ members_most members
members_size later no_members = omega arith
members_size later (member key value others) =
    let after : List ℕ = compact_text value ++ members_text true others in
    omega (
      arith,
      length-append (comma_if later) (quoted key ++ 58 ∷ after),
      length-append (quoted key) (58 ∷ after),
      length-append (compact_text value) (members_text true others),
      comma_size later,
      members_size true others,
    )

-- a value
pub value_size : (value : Data) → length (compact_text value) ≤ value_most value
value_size null = omega arith
value_size (boolean b) = omega arith
value_size (number n) = omega arith
value_size (string text) = omega arith
value_size (array items) = omega arith
value_size (object members) = omega (arith, members_size false members)
