-- The lines of sets, as rows of a table.
use Rattle.std.proofs.Common.{◌≡◌, ℕ, ℤ, zero, suc, pos, ◌+◌, ◌<◌, ◌≤◌, List, [], ◌∷◌, ◌++◌, length, map, take, drop, flat_map, All, true, arith, refl, sym, ap, ◌∙◌, subst, length-append, sum}
use Rattle.std.specs.List.{enumerate_from, range_with_len}
use Rattle.std.proofs.Math.Seq.{take-append_seam, drop-append_seam}
use Rattle.std.proofs.lemmas.List.{drop-map, length-drop, length-map, take-map}
use Rattle.std.proofs.lemmas.List.Elements.{All-cons, All-nil}
use Rattle.std.proofs.lemmas.List.Sums.{sum_by-cons}
use Rattle.bid_rules.specs.Fractions.{Fraction}
use Rattle.split_frac.specs.Frac.{fraction_of}
use Rattle.cert_reader.specs.Forms.{set_form}
use Rattle.cert_reader.specs.Gathered.{Gathered, line_said, numbers_at}
use Rattle.cert_reader.specs.Numbers.{IsNumber, table_size}
use Rattle.cert_reader.specs.Sets.{set_sizes, starts}
use Rattle.cert_reader.specs.Text.{CanSay, BeginsWithNumber, Numbers, wholes}
use Rattle.cert_reader.specs.Views.{cut_into, says}

-- whole numbers: the first is the number of the set, and so many come after it
pub record SetRow (set size : ℕ) (numbers : List Fraction) : Type 0 where
  pub long : length numbers ≡ size + 1
  pub whole : All (IsNumber true) numbers
  pub lead : BeginsWithNumber set numbers

-- lines of sets one after another, from this one on, with so many numbers each
abbrev pub SetRows : ℕ → List ℕ → List Gathered → Type 0
SetRows set [] [] = Unit {0}
SetRows set (size ∷ sizes) (line ∷ lines) = SetRow set size (map fraction_of line.items) × SetRows (set + 1) sizes lines
SetRows set sizes lines = ⊥

-- the lines of a text's forms of sets
pub set_rows : (n set many : ℕ) (lines : List Gathered) → length lines ≡ many → ((k : ℕ) → k < many → CanSay (set_form n (set + k)) (Numbers (numbers_at lines k)))
    → SetRows set (map (λ m. length (starts n m)) (range_with_len set many)) lines
set_rows n set zero [] long h = tt
set_rows n set zero (line ∷ lines) long h = absurd (omega arith)
set_rows n set (suc many) [] long h = absurd (omega arith)
set_rows n set (suc many) (line ∷ lines) long h =
    let can = h 0 (omega arith) in
    let here : set + 0 ≡ set = omega arith in
    let one = subst (λ m. CanSay (set_form n m) (Numbers (map fraction_of line.items))) here can in (
      record { long = one.each; whole = one.written; lead = one.first },
      set_rows n (set + 1) many lines (omega arith)
          (λ k low. subst (λ m. CanSay (set_form n m) (Numbers (numbers_at lines k))) (let next : set + suc k ≡ set + 1 + k = omega arith in next) (h (suc k) (omega arith))),
    )

-- such lines have at least one number
pub rows_some : (set : ℕ) (sizes : List ℕ) (lines : List Gathered) → SetRows set sizes lines → All (λ line. 1 ≤ length line.items) lines
rows_some set [] [] h = All-nil (λ line. 1 ≤ length line.items)
rows_some set [] (line ∷ lines) h = absurd h
rows_some set (size ∷ sizes) [] h = absurd h
rows_some set (size ∷ sizes) (line ∷ lines) h =
    All-cons (λ line. 1 ≤ length line.items) line lines (let long = h.0.long in let same = length-map line.items fraction_of in omega (arith, long, same)) (rows_some (set + 1) sizes lines h.1)

-- and whole ones alone
pub rows_of_wholes : (set : ℕ) (sizes : List ℕ) (lines : List Gathered) → SetRows set sizes lines → All (λ line. All (IsNumber true) (map fraction_of line.items)) lines
rows_of_wholes set [] [] h = All-nil (λ (line : Gathered). All (IsNumber true) (map fraction_of line.items))
rows_of_wholes set [] (line ∷ lines) h = absurd h
rows_of_wholes set (size ∷ sizes) [] h = absurd h
rows_of_wholes set (size ∷ sizes) (line ∷ lines) h = All-cons (λ (line : Gathered). All (IsNumber true) (map fraction_of line.items)) line lines h.0.whole (rows_of_wholes (set + 1) sizes lines h.1)

-- the numbers after the first
behind_first : Gathered → List Fraction
behind_first line = map fraction_of (drop 1 line.items)

-- the line of a set has as many numbers after its first as the set's size
behind_long : (line : Gathered) (set size : ℕ) → SetRow set size (map fraction_of line.items) → length (behind_first line) ≡ size
unfolding behind_first
behind_long line set size h =
    let long = h.long in
    omega (arith, long, length-map line.items fraction_of, length-map (drop 1 line.items) fraction_of, length-drop 1 line.items)

-- all lines together have so many numbers after their first
pub table_long : (set : ℕ) (sizes : List ℕ) (lines : List Gathered) → SetRows set sizes lines → length (flat_map (λ line. map fraction_of (drop 1 line.items)) lines) ≡ sum sizes
unfolding behind_first
table_long set [] [] h = refl
table_long set [] (line ∷ lines) h = absurd h
table_long set (size ∷ sizes) [] h = absurd h
table_long set (size ∷ sizes) (line ∷ lines) h =
    length-append (behind_first line) (flat_map behind_first lines) ∙ ap (λ k. k + length (flat_map behind_first lines)) (behind_long line set size h.0) ∙ ap (λ k. size + k) (table_long (set + 1) sizes lines h.1)
    ∙ sym (sum_by-cons (λ (n : ℕ). n) size sizes)

-- a list is its first number and the others
lead_first : (set : ℕ) (numbers : List Fraction) → BeginsWithNumber set numbers → numbers ≡ (pos set, 1) ∷ drop 1 numbers
lead_first set [] h = absurd h
lead_first set ((a, b) ∷ numbers) h = ap (λ x. (x, b) ∷ numbers) h.0 ∙ ap (λ y. (pos set, y) ∷ numbers) h.1

-- a table of the numbers after the first, cut at the sizes, says what the lines do
pub rows_said : (set : ℕ) (sizes : List ℕ) (lines : List Gathered) (table : List ℤ) → SetRows set sizes lines → wholes table ≡ flat_map (λ line. map fraction_of (drop 1 line.items)) lines
    → map (λ row. says (pos row.0 ∷ row.1)) (enumerate_from set (cut_into sizes table)) ≡ map line_said lines
unfolding behind_first
rows_said set [] [] table h e = refl
rows_said set [] (line ∷ lines) table h e = absurd h
rows_said set (size ∷ sizes) [] table h e = absurd h
rows_said set (size ∷ sizes) (line ∷ lines) table h e =
    let long = behind_long line set size h.0 in
    let front : wholes (take size table) ≡ behind_first line =
    sym (take-map (λ (number : ℤ). (number, 1)) size table) ∙ ap (take size) e ∙ ap (λ k. take k (behind_first line ++ flat_map behind_first lines)) (sym long) ∙ take-append_seam (behind_first line) (flat_map behind_first lines) in
    let rest : wholes (drop size table) ≡ flat_map behind_first lines =
    sym (drop-map (λ (number : ℤ). (number, 1)) size table) ∙ ap (drop size) e ∙ ap (λ k. drop k (behind_first line ++ flat_map behind_first lines)) (sym long) ∙ drop-append_seam (behind_first line) (flat_map behind_first lines) in
    let here : Numbers ((pos set, 1) ∷ wholes (take size table)) ≡ line_said line =
    ap (λ ns. Numbers ((pos set, 1) ∷ ns)) (front ∙ sym (drop-map fraction_of 1 line.items)) ∙ ap Numbers (sym (lead_first set (map fraction_of line.items) h.0.lead)) in
    ap (λ x. x ∷ map (λ (row : ℕ × List ℤ). says (pos row.0 ∷ row.1)) (enumerate_from (set + 1) (cut_into sizes (drop size table)))) here
    ∙ ap (λ xs. line_said line ∷ xs) (rows_said (set + 1) sizes lines (drop size table) h.1 rest)

-- such a table has as many numbers as the sets of n riders
pub table_size_is : (n : ℕ) (lines : List Gathered) (table : List ℤ) → SetRows 1 (set_sizes n) lines → wholes table ≡ flat_map (λ line. map fraction_of (drop 1 line.items)) lines → length table ≡ table_size n
table_size_is n lines table h e = sym (length-map table (λ (number : ℤ). (number, 1))) ∙ ap length e ∙ table_long 1 (set_sizes n) lines h

-- a table that was begun with no number
pub from_none : (old table : List ℤ) (numbers : List Fraction) → old ≡ [] → wholes table ≡ wholes old ++ numbers → wholes table ≡ numbers
from_none old table numbers none e = e ∙ ap (λ xs. wholes xs ++ numbers) none
