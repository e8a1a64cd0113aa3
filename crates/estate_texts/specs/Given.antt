-- Lines of weights and of prices: what they say, and how they are written.
use Rattle.std.specs.Prelude.{◌≡◌, ℕ, ℤ, ◌+◌, List, length}
use Rattle.cert_reader.specs.declared.forms.Word.TheVariants as word
use Rattle.cert_reader.specs.Numbers.{AreSmall}
use Rattle.estate_texts.specs.declared.given.Given.{Given}
use Rattle.estate_texts.specs.declared.given.Given.TheVariants as read
use Rattle.estate_texts.specs.Lines.{numbers_content}

-- what a line that closes leaves says: a weight for each player; or prices, which are a rate for each player and then a fee for each
pub data GivenLine : Type 0 where
  Weights : List ℤ → GivenLine
  Prices : List ℤ → GivenLine

-- how many numbers such a line has, by the number of players
abbrev pub CanGive : ℕ → GivenLine → Type 0
CanGive players (Weights numbers) = (length numbers ≡ players) × AreSmall numbers
CanGive players (Prices numbers) = (length numbers ≡ players + players) × AreSmall numbers

-- the line without its LF
abbrev pub given_content : GivenLine → List ℕ
given_content (Weights numbers) = numbers_content word.Weights numbers
given_content (Prices numbers) = numbers_content word.Prices numbers

-- what a line that was read says
abbrev pub line_of_given : Given → GivenLine
line_of_given (read.Weights numbers) = Weights numbers.items
line_of_given (read.Prices numbers) = Prices numbers.items
