-- Texts: lines of their forms with what they say; and the first broken line of bytes that aren't a text.
use Rattle.std.specs.Prelude.{◌≡◌, ◌≢◌, ℕ, ℤ, pos, ◌<◌, ◌≤◌, ◌⊎◌, List, [], ◌∷◌, ◌++◌, length, map, take, All, IfSome}
use Rattle.bid_rules.specs.Fractions.{Fraction}
use Rattle.split_frac.specs.Texts.{line, numbers_text}
use Rattle.cert_reader.specs.declared.forms.Counts.{Counts}
use Rattle.cert_reader.specs.declared.forms.LineForm.{LineForm}
use Rattle.cert_reader.specs.declared.forms.Word.TheVariants as word
use Rattle.cert_reader.specs.declared.marks.TheConstants.{ANSWER_LEAF, INNER_NODE, LEFT_OUT}
use Rattle.cert_reader.specs.Forms.{AreCountsOf, Certificates, Form, Line, Series, Tree, forms_of}
use Rattle.cert_reader.specs.Numbers.{IsNumber}
use Rattle.cert_reader.specs.Words.{word_text}

-- what a line says: its numbers, or the marks of a tree
pub data Said : Type 0 where
  Numbers : List Fraction → Said
  Marks : List ℕ → Said

-- whole numbers, as fractions over 1
abbrev pub wholes : List ℤ → List Fraction
wholes numbers = map (λ number. (number, 1)) numbers

-- the first number is this whole number
abbrev pub BeginsWithNumber : ℕ → List Fraction → Type 0
BeginsWithNumber n [] = ⊥
BeginsWithNumber n (number ∷ numbers) = (number.0 ≡ pos n) × (number.1 ≡ 1)

-- a line of the form can have these numbers
pub record HasNumbers (form : LineForm) (numbers : List Fraction) : Type 0 where
  pub each : length numbers ≡ form.count
  pub written : All (IsNumber form.whole) numbers
  pub first : IfSome form.lead (λ n. BeginsWithNumber n numbers)

-- the character is a mark of a tree: `+`, `-` or `=`
abbrev pub IsMark : ℕ → Type 0
IsMark mark = (mark ≡ INNER_NODE) ⊎ (mark ≡ LEFT_OUT) ⊎ (mark ≡ ANSWER_LEAF)

-- each character that is neither `+` nor `-` is `=`
abbrev pub AreMarks : List ℕ → Type 0
AreMarks marks = All (λ mark. mark ≢ INNER_NODE → mark ≢ LEFT_OUT → mark ≡ ANSWER_LEAF) marks

-- a line of this form can say this
abbrev pub CanSay : Form → Said → Type 0
CanSay (Line form) (Numbers numbers) = HasNumbers form numbers
CanSay Tree (Marks marks) = (1 ≤ length marks) × All IsMark marks
CanSay form said = ⊥

-- lines of these forms can say this, line by line
abbrev pub CanSayAll : List Form → List Said → Type 0
CanSayAll [] [] = Unit {0}
CanSayAll (form ∷ forms) (said ∷ more) = CanSay form said × CanSayAll forms more
CanSayAll forms said = ⊥

-- the bytes of the line of this form that says this, with its LF
abbrev pub said_text : Form → Said → List ℕ
said_text (Line form) (Numbers numbers) = line (word_text form.word ++ numbers_text numbers)
said_text Tree (Marks marks) = line (word_text word.Tree ++ 32 ∷ marks)
said_text form said = []

-- the bytes of these lines, one after another
abbrev pub text_of : List Form → List Said → List ℕ
text_of (form ∷ forms) (said ∷ more) = said_text form said ++ text_of forms more
text_of forms said = []

-- the bytes are a text of the series with these counts, whose lines say this
pub record IsTextOf (series : Series) (bytes : List ℕ) (counts : Counts) (said : List Said) : Type 0 where
  pub are_counts : AreCountsOf series counts
  pub fits : CanSayAll (forms_of counts) said
  pub text : bytes ≡ text_of (forms_of counts) said

-- the first k lines of the bytes are the first k lines of some text of the series
pub record HasFrontOf (series : Series) (bytes : List ℕ) (k : ℕ) : Type 0 where
  pub counts : Counts
  pub said : List Said
  pub are_counts : AreCountsOf series counts
  pub fits : CanSayAll (forms_of counts) said
  pub within : k ≤ length said
  pub rest : List ℕ
  pub front : bytes ≡ text_of (take k (forms_of counts)) (take k said) ++ rest

-- the bytes aren't a text of the series, and k is the least number of first lines with which no text of the series
-- begins
pub record IsBrokenTextOf (series : Series) (bytes : List ℕ) (k : ℕ) : Type 0 where
  pub no_text : (counts : Counts) (said : List Said) → IsTextOf series bytes counts said → ⊥
  pub broken : HasFrontOf series bytes k → ⊥
  pub least : (j : ℕ) → j < k → HasFrontOf series bytes j

-- the bytes are a certificate with these counts, whose lines say this
abbrev pub IsText : List ℕ → Counts → List Said → Type 0
IsText bytes counts said = IsTextOf Certificates bytes counts said

-- the bytes aren't certificate text, and this is their first broken line
abbrev pub IsBrokenText : List ℕ → ℕ → Type 0
IsBrokenText bytes k = IsBrokenTextOf Certificates bytes k
