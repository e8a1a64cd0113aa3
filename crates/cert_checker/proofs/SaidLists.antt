-- What lines say, line by line: whole numbers, and lists of lines one after another.
use Rattle.std.proofs.Common.{◌≡◌, ℕ, ℤ, pos, zero, suc, ◌+◌, List, [], ◌∷◌, ◌++◌, length, map, get_or, replicate, All, true, false, arith, refl, sym, ap, ◌∙◌, subst}
use Rattle.std.specs.List.{range_with_len}
use Rattle.std.proofs.lemmas.List.{length-map}
use Rattle.std.proofs.lemmas.List.Elements.{All-cons, All-head, All-nil, All-tail}
use Rattle.bid_rules.specs.Fractions.{Fraction}
use Rattle.cert_reader.specs.declared.forms.Word.{Word}
use Rattle.cert_reader.specs.Forms.{Form, fractions_of, led_by, numbers_of, set_form}
use Rattle.cert_reader.specs.Numbers.{IsNumber}
use Rattle.cert_reader.specs.Text.{CanSay, CanSayAll, Marks, Numbers, Said, wholes}
use Rattle.cert_reader.specs.Views.{says}
use Rattle.cert_checker.specs.FaresLines.{AreWritten, sets_said}

-- the numerators of fractions
abbrev pub numerators : List Fraction → List ℤ
numerators fractions = map (λ fraction. fraction.0) fractions

-- whole numbers are read off their fractions
pub numerators_of : (zs : List ℤ) → numerators (wholes zs) ≡ zs
numerators_of [] = refl
numerators_of (z ∷ zs) = ap (λ more. z ∷ more) (numerators_of zs)

-- lists with the same whole numbers over 1 are the same
pub wholes_once : (xs ys : List ℤ) → wholes xs ≡ wholes ys → xs ≡ ys
wholes_once xs ys e = sym (numerators_of xs) ∙ ap numerators e ∙ numerators_of ys

-- what a line of numbers says, and nothing of a tree
abbrev pub numbers_in : Said → List Fraction
numbers_in (Numbers numbers) = numbers
numbers_in (Marks marks) = []

-- rows that say the same line are the same
pub says_once : (xs ys : List ℤ) → says xs ≡ says ys → xs ≡ ys
says_once xs ys e = wholes_once xs ys (ap numbers_in e)

-- fractions over 1 are whole numbers
pub whole_numbers : (numbers : List Fraction) → All (IsNumber true) numbers → wholes (numerators numbers) ≡ numbers
whole_numbers [] h = refl
whole_numbers ((a, b) ∷ numbers) h =
    let one : b ≡ 1 = (All-head (IsNumber true) (a, b) numbers h).is_whole refl in
    ap (λ (k : ℕ). (a, k) ∷ wholes (numerators numbers)) (sym one) ∙ ap (λ more. (a, b) ∷ more) (whole_numbers numbers (All-tail (IsNumber true) (a, b) numbers h))

-- a line of so many whole numbers
pub record IsRow (count : ℕ) (said : Said) : Type 0 where
  pub row : List ℤ
  pub is : said ≡ says row
  pub long : length row ≡ count
  pub written : AreWritten row

-- a line that a form of whole numbers allows is a line of that many whole numbers
pub row_of : (word : Word) (count : ℕ) (said : Said) → CanSay (numbers_of word count) said → IsRow count said
row_of word count (Numbers numbers) h = (let same = whole_numbers numbers h.written in record {
  row = numerators numbers;
  is = ap Numbers (sym same);
  long = length-map numbers (λ fraction. fraction.0) ∙ h.each;
  written = subst (All (IsNumber true)) (sym same) h.written;
})
row_of word count (Marks marks) h = absurd h

-- a line of so many fractions
pub record IsFractions (count : ℕ) (said : Said) : Type 0 where
  pub row : List Fraction
  pub is : said ≡ Numbers row
  pub long : length row ≡ count
  pub written : All (IsNumber false) row

-- a line that a form of fractions allows is a line of that many fractions
pub fractions_in : (word : Word) (count : ℕ) (said : Said) → CanSay (fractions_of word count) said → IsFractions count said
fractions_in word count (Numbers numbers) h = record { row = numbers; is = refl; long = h.each; written = h.written }
fractions_in word count (Marks marks) h = absurd h

-- a line of whole numbers whose first is set
pub record IsLedRow (lead count : ℕ) (said : Said) : Type 0 where
  pub row : List ℤ
  pub is : said ≡ says (pos lead ∷ row)
  pub long : length row + 1 ≡ count
  pub written : AreWritten row

-- a line that a form with a set first number allows is such a line, with that many numbers in all
pub led_row_of : (word : Word) (lead count : ℕ) (said : Said) → CanSay (led_by word lead count) said → IsLedRow lead count said
led_row_of word lead count (Numbers []) h = absurd (h.first)
led_row_of word lead count (Numbers ((a, b) ∷ numbers)) h =
    let more = All-tail (IsNumber true) (a, b) numbers h.written in
    let same = whole_numbers numbers more in
    record {
      row = numerators numbers;
      is = ap (λ (z : ℤ). Numbers ((z, b) ∷ numbers)) h.first.0 ∙ ap (λ (k : ℕ). Numbers ((pos lead, k) ∷ numbers)) h.first.1 ∙ ap (λ fs. Numbers ((pos lead, 1) ∷ fs)) (sym same);
      long = (let each = h.each in let many = length-map numbers (λ fraction. fraction.0) in omega arith);
      written = subst (All (IsNumber true)) (sym same) more;
    }
led_row_of word lead count (Marks marks) h = absurd h

-- no numbers
none_left : (zs : List ℤ) → length zs ≡ 0 → zs ≡ []
none_left [] e = refl
none_left (z ∷ zs) e = absurd (omega arith)

-- one number
pub only : (zs : List ℤ) → length zs ≡ 1 → zs ≡ get_or zs 0 (pos 0) ∷ []
only [] e = absurd (omega arith)
only (z ∷ zs) e = ap (λ more. z ∷ more) (none_left zs (omega arith))

-- a line of no numbers says none
pub empty_said : (word : Word) (said : Said) → CanSay (numbers_of word 0) said → said ≡ says []
empty_said word said h = (let r = row_of word 0 said h in r.is ∙ ap says (none_left r.row r.long))

-- a line of one number that is set says that number
pub one_said : (word : Word) (lead : ℕ) (said : Said) → CanSay (led_by word lead 1) said → said ≡ says (pos lead ∷ [])
one_said word lead said h = (let r = led_row_of word lead 1 said h in r.is ∙ ap (λ zs. says (pos lead ∷ zs)) (none_left r.row (let long = r.long in omega arith)))

-- no line
pub no_line_said : (said : List Said) → CanSayAll [] said → said ≡ []
no_line_said [] h = refl
no_line_said (x ∷ said) h = absurd h

-- as many lines as forms
pub can_many : (forms : List Form) (said : List Said) → CanSayAll forms said → length said ≡ length forms
can_many [] [] h = refl
can_many [] (x ∷ said) h = absurd h
can_many (f ∷ forms) [] h = absurd h
can_many (f ∷ forms) (x ∷ said) h = ap suc (can_many forms said h.1)

-- the first line, and the others
pub record IsLedBy (form : Form) (forms : List Form) (said : List Said) : Type 0 where
  pub first : Said
  pub more : List Said
  pub is : said ≡ first ∷ more
  pub can : CanSay form first
  pub fits : CanSayAll forms more

-- lines of some forms begin with a line of the first form, and the others are of the other forms
pub can_first : (form : Form) (forms : List Form) (said : List Said) → CanSayAll (form ∷ forms) said → IsLedBy form forms said
can_first form forms [] h = absurd h
can_first form forms (x ∷ said) h = record { first = x; more = said; is = refl; can = h.0; fits = h.1 }

-- lines at the front, and the others
pub record IsCutAt (forms others : List Form) (said : List Said) : Type 0 where
  pub front : List Said
  pub more : List Said
  pub is : said ≡ front ++ more
  pub can : CanSayAll forms front
  pub fits : CanSayAll others more

-- lines of forms one after another are lines of the first forms and, after them, lines of the others
pub can_cut : (forms others : List Form) (said : List Said) → CanSayAll (forms ++ others) said → IsCutAt forms others said
can_cut [] others said h = record { front = []; more = said; is = refl; can = tt; fits = h }
can_cut (f ∷ forms) others [] h = absurd h
can_cut (f ∷ forms) others (x ∷ said) h =
    let c = can_cut forms others said h.1 in
    record { front = x ∷ c.front; more = c.more; is = ap (λ xs. x ∷ xs) c.is; can = (h.0, c.can); fits = c.fits }

-- lines of as many whole numbers each
pub record AreRowsOf (many count : ℕ) (said : List Said) : Type 0 where
  pub rows : List (List ℤ)
  pub is : said ≡ map says rows
  pub long : length rows ≡ many
  pub columns : All (λ row. length row ≡ count) rows
  pub written : All AreWritten rows

-- lines that a repeated form of whole numbers allows say as many rows of that many numbers
pub can_rows : (word : Word) (many count : ℕ) (said : List Said) → CanSayAll (replicate many (numbers_of word count)) said → AreRowsOf many count said
can_rows word zero count [] h = record { rows = []; is = refl; long = refl; columns = All-nil (λ row. length row ≡ count); written = All-nil AreWritten }
can_rows word zero count (x ∷ said) h = absurd h
can_rows word (suc many) count [] h = absurd h
can_rows word (suc many) count (x ∷ said) h =
    let r = row_of word count x h.0 in
    let m = can_rows word many count said h.1 in
    record {
      rows = r.row ∷ m.rows;
      is = ap (λ y. y ∷ said) r.is ∙ ap (λ ys. says r.row ∷ ys) m.is;
      long = ap suc m.long;
      columns = All-cons (λ row. length row ≡ count) r.row m.rows r.long m.columns;
      written = All-cons AreWritten r.row m.rows r.written m.written;
    }

-- lines of sets
pub record AreSetsOf (from many : ℕ) (said : List Said) : Type 0 where
  pub rows : List (List ℤ)
  pub is : said ≡ sets_said from rows
  pub long : length rows ≡ many
  pub written : All AreWritten rows

-- lines that the forms of sets allow say the rows of as many sets, from the first one on
pub can_sets : (n from many : ℕ) (said : List Said) → CanSayAll (map (set_form n) (range_with_len from many)) said → AreSetsOf from many said
can_sets n from zero [] h = record { rows = []; is = refl; long = refl; written = All-nil AreWritten }
can_sets n from zero (x ∷ said) h = absurd h
can_sets n from (suc many) [] h = absurd h
can_sets n from (suc many) (x ∷ said) h =
    let r = led_row_of _ from _ x h.0 in
    let m = can_sets n (from + 1) many said h.1 in
    record {
      rows = r.row ∷ m.rows;
      is = ap (λ y. y ∷ said) r.is ∙ ap (λ ys. says (pos from ∷ r.row) ∷ ys) m.is;
      long = ap suc m.long;
      written = All-cons AreWritten r.row m.rows r.written m.written;
    }
