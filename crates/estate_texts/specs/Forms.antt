-- The lines of numbers in the text of an estate, behind the two that count players and goods: their words, and how many numbers each has.
use Rattle.std.specs.Prelude.{ℕ, ℤ, ◌≤◌, List, [], ◌∷◌, ◌++◌, length, map, replicate}
use Rattle.arrayvec.specs.declared.array_vec.ArrayVec.{ArrayVec}
use Rattle.cert_reader.specs.declared.forms.Word.{Word}
use Rattle.cert_reader.specs.declared.forms.Word.TheVariants as word
use Rattle.cert_reader.specs.declared.limits.TheConstants.{MOST_NUMBERS}
use Rattle.cert_reader.specs.Numbers.{AreSmall}
use Rattle.estate_texts.specs.declared.forms.NumberForm.{NumberForm}
use Rattle.estate_texts.specs.Lines.{numbers_content}

-- the numbers of a line that was read
abbrev pub Row : Type 0
Row = ArrayVec ℤ MOST_NUMBERS (Unit {0})

abbrev pub row_numbers : Row → List ℤ
row_numbers row = row.items

-- the numbers of some lines that were read
abbrev pub rows_numbers : List Row → List (List ℤ)
rows_numbers rows = map row_numbers rows

-- a word and so many numbers, from the least to the most
abbrev pub numbers_between : Word → ℕ → ℕ → NumberForm
numbers_between word least most = record { word = word; least = least; most = most }

-- a line of this form can have these numbers
pub record CanHold (form : NumberForm) (numbers : List ℤ) : Type 0 where
  pub enough : form.least ≤ length numbers
  pub few : length numbers ≤ form.most
  pub small : AreSmall numbers

-- the forms of the lines of numbers, in order: the limit, the member number of each player, the points of each player by good, the owner of each good, the count
-- of steps, and the players who want so few goods that no more players can have points
abbrev pub body_forms : ℕ → ℕ → List NumberForm
body_forms players goods =
    numbers_between word.Limit 1 1 ∷ numbers_between word.Who players players
    ∷ (replicate players (numbers_between word.Values goods goods)
    ++ (numbers_between word.Owners goods goods ∷ numbers_between word.Steps 1 1 ∷ numbers_between word.Short 0 players ∷ []))

-- lines of these forms can have these numbers, line by line
abbrev pub AreHeld : List NumberForm → List (List ℤ) → Type 0
AreHeld [] [] = Unit {0}
AreHeld (form ∷ forms) (numbers ∷ more) = CanHold form numbers × AreHeld forms more
AreHeld forms numbers = ⊥

-- lines of these forms with these numbers, as far as there are both
abbrev pub body_lines : List NumberForm → List (List ℤ) → List (List ℕ)
body_lines (form ∷ forms) (numbers ∷ more) = numbers_content form.word numbers ∷ body_lines forms more
body_lines forms numbers = []
