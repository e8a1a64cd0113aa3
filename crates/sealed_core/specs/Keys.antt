-- The keys of an instance, and who holds one.
use Rattle.std.specs.Prelude.{◌≤◌, ◌⊎◌, ℕ, zero, suc, ◌+◌, List, ◌++◌, map, codes, decimal, if◌then◌else◌, Option, Some, None, nat_eq}
use Rattle.std.specs.Cmp.Lexicographic.{pointwise}
use Rattle.std.specs.List.{range_with_len}
use Rattle.sha2.specs.Sha256.{sha256}
use Rattle.hex.specs.Hex.{encode_lower}

-- the text `ID/MEMBER` in plain decimal
abbrev pub member_text : ℕ → ℕ → List ℕ
member_text id member = decimal id ++ codes "/" ++ decimal member

-- the lower-case hexadecimal digits of the SHA-256 (FIPS 180-4) of the secret and that text
unfoldable pub key_text : List ℕ → ℕ → ℕ → List ℕ
key_text secret id member = encode_lower (sha256 (secret ++ member_text id member))

-- the keys of an instance: the organiser's, whose number is 0, and then those of this many members
abbrev pub keys_of : List ℕ → ℕ → ℕ → List (List ℕ)
keys_of secret id members = map (key_text secret id) (range_with_len 0 (members + 1))

-- a lower-case hexadecimal digit
abbrev pub IsKeyDigit : ℕ → Type 0
IsKeyDigit digit = ((48 ≤ digit) × (digit ≤ 57)) ⊎ ((97 ≤ digit) × (digit ≤ 102))

-- the least of this many numbers, from the given one on, to which this key belongs
abbrev pub first_holder : List ℕ → ℕ → List ℕ → ℕ → ℕ → Option ℕ
first_holder secret id key zero from = None
first_holder secret id key (suc left) from = if pointwise nat_eq (key_text secret id from) key then Some from else first_holder secret id key left (from + 1)
