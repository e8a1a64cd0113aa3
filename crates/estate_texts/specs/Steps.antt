-- How the text of an estate is read line by line, and why bytes aren't such a text.
use Rattle.std.specs.Prelude.{◌≡◌, ℕ, ℤ, ◌<◌, ◌≤◌, List, ◌++◌, length, map, All}
use Rattle.split_frac.specs.Texts.{line}
use Rattle.cert_reader.specs.declared.limits.TheConstants.{MOST_BYTES}
use Rattle.estate_texts.specs.declared.ends.EstateEnd.{EstateEnd}
use Rattle.estate_texts.specs.declared.ends.EstateEnd.TheVariants.{NotText, TooLong}
use Rattle.estate_texts.specs.declared.forms.NumberForm.{NumberForm}
use Rattle.estate_texts.specs.declared.text.EstateText.{EstateText}
use Rattle.estate_texts.specs.Forms.{CanHold, rows_numbers}
use Rattle.estate_texts.specs.Given.{CanGive, GivenLine, given_content}
use Rattle.estate_texts.specs.Lines.{IsEstateMark, lines_text, marks_content, numbers_content}
use Rattle.estate_texts.specs.Texts.{EstateView, IsBrokenEstate, IsEstateText}

-- the bytes begin with a line of this form that has these numbers, and the rest follows
pub record BeginsWithRow (form : NumberForm) (bytes : List ℕ) (numbers : List ℤ) (rest : List ℕ) : Type 0 where
  pub can : CanHold form numbers
  pub text : bytes ≡ line (numbers_content form.word numbers) ++ rest

-- the bytes begin with no line of this form
abbrev pub HasNoRow : NumberForm → List ℕ → Type 0
HasNoRow form bytes = (numbers : List ℤ) (rest : List ℕ) → BeginsWithRow form bytes numbers rest → ⊥

-- the bytes begin with this line of weights or prices, and the rest follows
pub record BeginsWithGiven (players : ℕ) (bytes : List ℕ) (given : GivenLine) (rest : List ℕ) : Type 0 where
  pub can : CanGive players given
  pub text : bytes ≡ line (given_content given) ++ rest

-- the bytes begin with the line of a tree that has these marks, and the rest follows
pub record BeginsWithMarks (players : ℕ) (bytes marks rest : List ℕ) : Type 0 where
  pub some : 1 ≤ length marks
  pub each : All (IsEstateMark players) marks
  pub text : bytes ≡ line (marks_content marks) ++ rest

-- the bytes are lines of weights and prices that say this, and the rest follows
pub record BeginsWithAllGiven (players : ℕ) (bytes : List ℕ) (given : List GivenLine) (rest : List ℕ) : Type 0 where
  pub can : All (CanGive players) given
  pub text : bytes ≡ lines_text (map given_content given) ++ rest

-- what a text that was read says, with these lines of weights and prices
abbrev pub view_of_text : EstateText → List GivenLine → EstateView
view_of_text text given = record {
  players = text.players;
  goods = text.goods;
  body = rows_numbers text.body.items;
  given = given;
  marks = text.marks.now;
}

-- the bytes are the text of an estate that says what was read
pub record IsReadText (bytes : List ℕ) (text : EstateText) : Type 0 where
  pub given : List GivenLine
  pub lines : text.given.now ≡ lines_text (map given_content given)
  pub is_text : IsEstateText bytes (view_of_text text given)
  pub short : length bytes ≤ MOST_BYTES

-- why bytes aren't the text of an estate: a first broken line, or more bytes than a text may have
abbrev pub IsRefusedText : List ℕ → EstateEnd → Type 0
IsRefusedText bytes (NotText line) = (length bytes ≤ MOST_BYTES) × IsBrokenEstate bytes line
IsRefusedText bytes TooLong = MOST_BYTES < length bytes
