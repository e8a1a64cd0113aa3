-- The lines of a text as a reader keeps them: without the two that say the kind, and without `end`.
use Rattle.std.specs.Prelude.{◌≡◌, ℕ, pos, List, [], ◌∷◌, ◌++◌, length, map, All, true, slice_index_or}
use Rattle.arrayvec.specs.declared.array_vec.ArrayVec.{ArrayVec}
use Rattle.bid_rules.specs.Fractions.{Fraction}
use Rattle.split_frac.specs.declared.frac.Frac.{Frac}
use Rattle.split_frac.specs.Frac.{fraction_of}
use Rattle.cert_reader.specs.declared.limits.TheConstants.{MOST_NUMBERS}
use Rattle.cert_reader.specs.Numbers.{IsNumber}
use Rattle.cert_reader.specs.Text.{Marks, Numbers, Said}
use Rattle.cert_reader.specs.Views.{says}

-- the numbers of a line that was read
abbrev pub Gathered : Type 0
Gathered = ArrayVec Frac MOST_NUMBERS (Unit {0})

-- what a line that was read says
abbrev pub line_said : Gathered → Said
line_said line = Numbers (map fraction_of line.items)

-- what all lines of a text say: the two that say the kind, the lines that were read, and `end`
abbrev pub text_said : List Gathered → List Said
text_said lines = says (pos 1 ∷ []) ∷ says [] ∷ (map line_said lines ++ says [] ∷ [])

-- what all lines of a text of goods say: the two that say the kind, the lines before the tree, the tree, and `end`
abbrev pub tree_said : List Gathered → List ℕ → List Said
tree_said lines marks = says (pos 1 ∷ []) ∷ says [] ∷ (map line_said lines ++ Marks marks ∷ says [] ∷ [])

-- what the line of a tree with these marks says; if there are no marks, there is no such line
abbrev pub marks_said : List ℕ → List Said
marks_said [] = []
marks_said (mark ∷ marks) = Marks (mark ∷ marks) ∷ []

-- what the lines that were read so far say: the two that say the kind, the others, and the tree with its marks so far
abbrev pub gathered_said : List Gathered → List ℕ → List Said
gathered_said lines marks = says (pos 1 ∷ []) ∷ says [] ∷ (map line_said lines ++ marks_said marks)

-- what those lines say, and `end`
abbrev pub whole_said : List Gathered → List ℕ → List Said
whole_said lines marks = gathered_said lines marks ++ says [] ∷ []

-- the numbers of the line at a place, counted from 0
abbrev pub numbers_at : List Gathered → ℕ → List Fraction
numbers_at lines index = map fraction_of (slice_index_or lines index (record { items = [] })).items

-- this many whole numbers, each of which a text can hold
abbrev pub AreWhole : ℕ → List Fraction → Type 0
AreWhole count numbers = (length numbers ≡ count) × All (IsNumber true) numbers
