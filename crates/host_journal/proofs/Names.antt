-- Names and tags have few bytes, and a tag's are ASCII.
use Rattle.std.proofs.Common.{◌≡◌, ℕ, zero, suc, ◌<◌, ◌≤◌, ◌⊎◌, inl, inr, Bool, true, false, ◌&&◌, ◌||◌, ◌==◌, nat_le, nat_lt, List, [], ◌∷◌, length, refl, sym, ◌∙◌, arith, true≢false}
use Rattle.std.specs.List.{list_all}
use Rattle.std.specs.Str.{IsAscii}
use Rattle.std.proofs.lemmas.Bool.{and_parts, cases_lt, leb-true, lt-leb, ne_eqb}
use Rattle.bid_rules.specs.declared.limits.TheConstants.{LONGEST_NAME}
use Rattle.body_fields.specs.declared.limits.TheConstants.{LONGEST_TAG, SHORTEST_TAG}
use Rattle.body_fields.specs.Rules.{IsName, IsTag, is_plain, is_tag_byte}

-- a name has at most so many bytes
pub name_most : (name : List ℕ) → IsName name → length name ≤ LONGEST_NAME
name_most name is =
    let both = and_parts (nat_lt 0 (length name) && nat_le (length name) LONGEST_NAME) (list_all is_plain name) is in
    leb-true (length name) LONGEST_NAME (and_parts (nat_lt 0 (length name)) (nat_le (length name) LONGEST_NAME) both.0).1

-- so has a tag
pub tag_most : (tag : List ℕ) → IsTag tag → length tag ≤ LONGEST_TAG
tag_most tag is =
    let both = and_parts (nat_le SHORTEST_TAG (length tag) && nat_le (length tag) LONGEST_TAG) (list_all is_tag_byte tag) is in
    leb-true (length tag) LONGEST_TAG (and_parts (nat_le SHORTEST_TAG (length tag)) (nat_le (length tag) LONGEST_TAG) both.0).1

-- a byte of a tag is below 128
tag_byte_low : (byte : ℕ) → is_tag_byte byte ≡ true → byte < 128
tag_byte_low byte is = by_half (cases_lt byte 128)
  where
    by_half : (byte < 128) ⊎ (128 ≤ byte) → byte < 128
    by_half (inl low) = low
    by_half (inr high) =
        let no_digit = lt-leb byte 57 (omega (arith, high)) in
        let no_letter = lt-leb byte 122 (omega (arith, high)) in
        let no_hyphen = ne_eqb byte 45 (λ same. omega (arith, high, same)) in
        absurd (true≢false (sym is ∙ none (nat_le 48 byte) (nat_le byte 57) (nat_le 97 byte) (nat_le byte 122) (byte == 45) no_digit no_letter no_hyphen))
      where
        none : (a b c d e : Bool) → b ≡ false → d ≡ false → e ≡ false → ((a && b) || (c && d) || e) ≡ false
        none true b true d e nb nd ne = rw (nb, nd, ne) refl
        none true b false d e nb nd ne = rw (nb, ne) refl
        none false b true d e nb nd ne = rw (nd, ne) refl
        none false b false d e nb nd ne = ne

-- bytes of a tag are ASCII
bytes_are_ascii : (tag : List ℕ) → list_all is_tag_byte tag ≡ true → IsAscii tag
bytes_are_ascii [] all i = omega arith
bytes_are_ascii (byte ∷ tag) all zero = tag_byte_low byte (and_parts (is_tag_byte byte) (list_all is_tag_byte tag) all).0
bytes_are_ascii (byte ∷ tag) all (suc i) = bytes_are_ascii tag (and_parts (is_tag_byte byte) (list_all is_tag_byte tag) all).1 i

-- a tag is ASCII
pub tag_is_ascii : (tag : List ℕ) → IsTag tag → IsAscii tag
tag_is_ascii tag is = bytes_are_ascii tag (and_parts (nat_le SHORTEST_TAG (length tag) && nat_le (length tag) LONGEST_TAG) (list_all is_tag_byte tag) is).1
