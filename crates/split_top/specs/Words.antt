-- What single words say.
use Rattle.std.specs.Prelude.{◌≡◌, ℕ, ◌≤◌, ◌||◌, ◌&&◌, nat_le, Bool, List, length, Ok}
use Rattle.std.specs.Fmt.{decimal}
use Rattle.std.specs.List.{AllPass}
use Rattle.hex.specs.Hex.{decode_sized}
use Rattle.gate_log.specs.declared.limits.TheConstants.{SECRET_SIZE}
use Rattle.split_top.specs.declared.limits.TheConstants.{KEY_DIGITS}

-- the word says this number, which is in the range, in plain decimal
abbrev pub IsNumber : ℕ → ℕ → List ℕ → ℕ → Type 0
IsNumber least most word number = (least ≤ number) × (number ≤ most) × (word ≡ decimal number)

-- the word says no number of the range
abbrev pub IsNoNumber : ℕ → ℕ → List ℕ → Type 0
IsNoNumber least most word = (number : ℕ) → IsNumber least most word number → ⊥

-- the word is the secret in hexadecimal digits of either letter case
abbrev pub IsSecret : List ℕ → List ℕ → Type 0
IsSecret word secret = decode_sized word SECRET_SIZE ≡ Ok secret

-- the word isn't a secret
abbrev pub IsNoSecret : List ℕ → Type 0
IsNoSecret word = (secret : List ℕ) → IsSecret word secret → ⊥

-- a digit from 0 to 9, or from a to f
abbrev pub is_key_digit : ℕ → Bool
is_key_digit digit = (nat_le 48 digit && nat_le digit 57) || (nat_le 97 digit && nat_le digit 102)

-- the word is this key: hexadecimal digits, with lower-case letters
abbrev pub IsKey : List ℕ → List ℕ → Type 0
IsKey word key = (word ≡ key) × (length word ≡ KEY_DIGITS) × AllPass is_key_digit word

-- the word isn't a key
abbrev pub IsNoKey : List ℕ → Type 0
IsNoKey word = (key : List ℕ) → IsKey word key → ⊥
