-- A key is 64 lower-case hexadecimal digits, so 64 zero bytes are nobody's.
use Rattle.std.proofs.Common.{◌≡◌, ℕ, zero, suc, ◌*◌, ◌/◌, ◌%◌, ◌<◌, ◌⊎◌, inl, inr, Bool, true, false, ◌&&◌, ◌||◌, nat_le, List, [], ◌∷◌, ◌++◌, length, replicate, slice_index, All, Option, None, Some, refl, subst, arith}
use Rattle.std.specs.Int.{w32, to_be_bytes}
use Rattle.std.specs.List.{list_all}
use Rattle.std.proofs.lemmas.Bool.{and_parts, leb-true}
use Rattle.std.proofs.lemmas.List.{length-append}
use Rattle.std.proofs.lemmas.List.Elements.{All-append}
use Rattle.hex.specs.Hex.{encode_with, lower_digits}
use Rattle.sha2.specs.Sha256.{digest_bytes, final_hash, initial_hash_256, sha256}
use Rattle.sealed_core.specs.Host.{InstanceView}
use Rattle.sealed_core.specs.Keys.{IsKeyDigit, key_text, member_text}
use Rattle.sealed_core.specs.Step.{holder}
use Rattle.sealed_core.proofs.Equality.{least_holder}

-- ---- the digest's bytes

-- below 256
abbrev IsByte : ℕ → Type 0
IsByte b = b < 256

-- a word is written as bytes
word_bytes : (n : ℕ) → All IsByte (to_be_bytes w32 n)
word_bytes n zero d there = omega arith
word_bytes n (suc zero) d there = omega arith
word_bytes n (suc (suc zero)) d there = omega arith
word_bytes n (suc (suc (suc zero))) d there = omega arith
word_bytes n (suc (suc (suc (suc k)))) d there = absurd (omega (arith, there))

-- a digest is bytes
are_bytes : (h : List ℕ) (n : ℕ) → All IsByte (digest_bytes h n)
unfolding digest_bytes
are_bytes h zero = λ k d there. absurd (omega (arith, there))
are_bytes h (suc n) = All-append IsByte (digest_bytes h n) (to_be_bytes w32 (slice_index h n)) (are_bytes h n) (word_bytes (slice_index h n))

-- each word of a digest is four bytes
four_each : (h : List ℕ) (n : ℕ) → length (digest_bytes h n) ≡ n * 4
unfolding digest_bytes
four_each h zero = refl
four_each h (suc n) =
    let before = four_each h n in
    let last : length (to_be_bytes w32 (slice_index h n)) ≡ 4 = refl in
    let both = length-append (digest_bytes h n) (to_be_bytes w32 (slice_index h n)) in
    omega (arith, before, last, both)

-- ---- digits

-- the test of a lower-case hexadecimal digit
is_key_digit : ℕ → Bool
is_key_digit d = (nat_le 48 d && nat_le d 57) || (nat_le 97 d && nat_le d 102)

-- where one of two tests holds, the first does or the second
either_is : (a b : Bool) → (a || b) ≡ true → (a ≡ true) ⊎ (b ≡ true)
either_is true b is = inl refl
either_is false b is = inr is

-- a byte in either range is a digit of a key
key_digit_if : (d : ℕ) → (nat_le 48 d && nat_le d 57 ≡ true) ⊎ (nat_le 97 d && nat_le d 102 ≡ true) → IsKeyDigit d
key_digit_if d (inl is) = let p = and_parts (nat_le 48 d) (nat_le d 57) is in inl (leb-true 48 d p.0, leb-true d 57 p.1)
key_digit_if d (inr is) = let p = and_parts (nat_le 97 d) (nat_le d 102) is in inr (leb-true 97 d p.0, leb-true d 102 p.1)

-- bytes that all pass the test are digits
key_digits_if : (xs : List ℕ) → list_all is_key_digit xs ≡ true → All IsKeyDigit xs
unfolding is_key_digit
key_digits_if [] is k d there = absurd (omega (arith, there))
key_digits_if (x ∷ xs) is zero d there = let p = and_parts (is_key_digit x) (list_all is_key_digit xs) is in key_digit_if x (either_is (nat_le 48 x && nat_le x 57) (nat_le 97 x && nat_le x 102) p.0)
key_digits_if (x ∷ xs) is (suc k) d there = let p = and_parts (is_key_digit x) (list_all is_key_digit xs) is in key_digits_if xs p.1 k d (omega (arith, there))

-- the table of digits holds digits
table_digits : All IsKeyDigit lower_digits
unfolding is_key_digit
table_digits = key_digits_if lower_digits refl

-- each number below 16 has its digit
digit_at : (d : ℕ) → d < 16 → IsKeyDigit (slice_index lower_digits d)
digit_at d below = table_digits d 0 below

-- bytes are written in digits
encoded_digits : (xs : List ℕ) → All IsByte xs → All IsKeyDigit (encode_with lower_digits xs)
unfolding encode_with
encoded_digits [] each k d there = absurd (omega (arith, there))
encoded_digits (b ∷ rest) each zero d there = let small = each zero 0 (omega arith) in digit_at (b / 16) (omega (arith, small))
encoded_digits (b ∷ rest) each (suc zero) d there = digit_at (b % 16) (omega arith)
encoded_digits (b ∷ rest) each (suc (suc k)) d there = encoded_digits rest (λ j e below. each (suc j) e (omega (arith, below))) k d (omega (arith, there))

-- each byte is written as two digits
two_each : (xs : List ℕ) → length (encode_with lower_digits xs) ≡ 2 * length xs
unfolding encode_with
two_each [] = refl
two_each (b ∷ rest) = let more = two_each rest in omega (arith, more)

-- the state of the digest after some blocks
abbrev last_hash : List ℕ → ℕ → ℕ → List ℕ
last_hash secret id member = final_hash initial_hash_256 (secret ++ member_text id member)

-- a key is made of lower-case hexadecimal digits
pub key_digits : (secret : List ℕ) (id member : ℕ) → All IsKeyDigit (key_text secret id member)
unfolding key_text sha256
key_digits secret id member = encoded_digits (digest_bytes (last_hash secret id member) 8) (are_bytes (last_hash secret id member) 8)

-- a key has 64 of them
pub key_length : (secret : List ℕ) (id member : ℕ) → length (key_text secret id member) ≡ 64
unfolding key_text sha256
key_length secret id member =
    let digest = four_each (last_hash secret id member) 8 in
    let text = two_each (digest_bytes (last_hash secret id member) 8) in
    omega (arith, digest, text)

-- ---- nobody's key

-- 0 is no digit
no_digit : IsKeyDigit 0 → ⊥
no_digit (inl is) = let low = is.0 in omega (arith, low)
no_digit (inr is) = let low = is.0 in omega (arith, low)

-- who holds 64 zeros is nobody
zeros_are_none : (secret : List ℕ) (id : ℕ) (i : InstanceView) (o : Option ℕ) → holder secret id i (replicate 64 0) ≡ o → o ≡ None
zeros_are_none secret id i None is = refl
zeros_are_none secret id i (Some m) is =
    let holds = (least_holder secret id (length i.creation.members) (replicate 64 0) m).0 is in
    let digits = subst (All IsKeyDigit) holds.own (key_digits secret id m) in
    absurd (no_digit (digits zero 0 (omega arith)))

-- 64 zeros are nobody's key
pub zeros_nobodys : (secret : List ℕ) (id : ℕ) (i : InstanceView) → holder secret id i (replicate 64 0) ≡ None
zeros_nobodys secret id i = zeros_are_none secret id i (holder secret id i (replicate 64 0)) refl
