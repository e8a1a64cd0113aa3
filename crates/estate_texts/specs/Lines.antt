-- How lines are written: a word and its numbers, the marks of a tree, and lines one after another.
use Rattle.std.specs.Prelude.{◌≡◌, ℕ, ℤ, ◌+◌, ◌<◌, ◌≤◌, ◌⊎◌, List, ◌∷◌, ◌++◌, flat_map}
use Rattle.split_frac.specs.Texts.{line, numbers_text}
use Rattle.cert_reader.specs.declared.forms.Word.{Word}
use Rattle.cert_reader.specs.declared.forms.Word.TheVariants as word
use Rattle.cert_reader.specs.Text.{wholes}
use Rattle.cert_reader.specs.Words.{word_text}
use Rattle.estate_texts.specs.declared.marks.TheConstants.{ANSWER_LEAF, CLOSED_LEAF, FIRST_PLAYER, INNER_NODE, NEXT_GIVEN, TWIN_LEAF}

-- a line of a word and whole numbers, without its LF
abbrev pub numbers_content : Word → List ℤ → List ℕ
numbers_content word numbers = word_text word ++ numbers_text (wholes numbers)

-- the line of a tree with these marks, without its LF
abbrev pub marks_content : List ℕ → List ℕ
marks_content marks = word_text word.Tree ++ 32 ∷ marks

-- a mark of a tree for this many players: `+`, `-`, `=`, `!`, `~`, or the letter of a player, from A
abbrev pub IsEstateMark : ℕ → ℕ → Type 0
IsEstateMark players mark =
    (mark ≡ INNER_NODE) ⊎ (mark ≡ CLOSED_LEAF) ⊎ (mark ≡ ANSWER_LEAF) ⊎ (mark ≡ NEXT_GIVEN) ⊎ (mark ≡ TWIN_LEAF)
    ⊎ ((FIRST_PLAYER ≤ mark) × (mark < FIRST_PLAYER + players))

-- lines one after another, each with its LF
abbrev pub lines_text : List (List ℕ) → List ℕ
lines_text lines = flat_map line lines
