-- Lines and their parts, as both writers and readers of texts know them.
use Rattle.std.specs.Prelude.{ℕ, ℤ, List, [], ◌∷◌, ◌++◌, flat_map}
use Rattle.std.specs.Fmt.{decimal}
use Rattle.split_frac.specs.Frac.{pair_text}

-- texts one after another, with a space (32) before each
abbrev pub with_spaces : List (List ℕ) → List ℕ
with_spaces texts = flat_map (λ text. 32 ∷ text) texts

-- fractions in decimal one after another, with a space before each; a whole number has the denominator 1
abbrev pub numbers_text : List (ℤ × ℕ) → List ℕ
numbers_text numbers = flat_map (λ number. 32 ∷ pair_text number) numbers

-- a number, a space, and the name that belongs to it
unfoldable pub numbered_name : ℕ → List ℕ → List ℕ
numbered_name number name = decimal number ++ 32 ∷ name

-- a line: its content and a line feed (10)
unfoldable pub line : List ℕ → List ℕ
line content = content ++ 10 ∷ []

-- pieces of text, one after another
abbrev pub text_of_pieces : List (List ℕ) → List ℕ
text_of_pieces [] = []
text_of_pieces (piece ∷ []) = piece
text_of_pieces (piece ∷ next ∷ more) = piece ++ text_of_pieces (next ∷ more)

-- a line made of pieces
abbrev pub line_of : List (List ℕ) → List ℕ
line_of pieces = line (text_of_pieces pieces)

-- a line of a word and the texts of numbers, with a space before each number
abbrev pub word_line : List ℕ → List (List ℕ) → List ℕ
word_line word numbers = line (word ++ with_spaces numbers)
