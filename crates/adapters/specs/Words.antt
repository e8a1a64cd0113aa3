-- How the arguments that the system passes to the program become the words of a command.
use Rattle.std.specs.Prelude.{◌≡◌, ◌<◌, ◌≤◌, ◌⊎◌, ℕ, List, [], All, drop, get_or, length, Option, Some, None}
use Rattle.std.specs.Str.{IsUtf8}

-- the argument at a place, or none after the last
abbrev pub IsArgument : List (List ℕ) → ℕ → Option (List ℕ) → Type 0
IsArgument all place (Some bytes) = (place < length all) × (bytes ≡ get_or all place [])
IsArgument all place None = length all ≤ place

-- the words: all arguments after the program's own path, in order; or no words at all if one of those isn't UTF-8
abbrev pub IsWords : List (List ℕ) → List (List ℕ) → Type 0
IsWords all words =
    (All (λ word. IsUtf8 word) (drop 1 all) × (words ≡ drop 1 all))
    ⊎ ((All (λ word. IsUtf8 word) (drop 1 all) → ⊥) × (words ≡ []))
