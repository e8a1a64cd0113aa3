-- What the text of a pair says, as lists, and what reading one answers.
use Rattle.std.specs.Prelude.{ℕ, ◌≤◌, List, length, map, Option, Result, Ok, Err}
use Rattle.std.specs.Io.KnownBytes.{IsAtEnd}
use Rattle.split_frac.specs.Frac.{fraction_of}
use Rattle.cert_reader.specs.declared.ends.TextEnd.{TextEnd}
use Rattle.cert_reader.specs.declared.forms.Counts.TheVariants as count
use Rattle.cert_reader.specs.declared.limits.TheConstants.{MOST_BYTES}
use Rattle.cert_reader.specs.declared.pair.PairText.{PairText}
use Rattle.cert_reader.specs.Forms.{Pairs}
use Rattle.cert_reader.specs.Layout.{PairView, pair_layout}
use Rattle.cert_reader.specs.Reading.{IsEndOf}
use Rattle.cert_reader.specs.Text.{IsTextOf, Said}
use Rattle.cert_reader.specs.Views.{said_in}

-- what all lines of the text of a pair say, in order
abbrev pub pair_said : PairView → List Said
pair_said view = said_in view (pair_layout view.goods)

-- the bytes are the text of a pair that says this
abbrev pub IsPairText : List ℕ → PairView → Type 0
IsPairText bytes view = IsTextOf Pairs bytes (count.Pair view.goods) (pair_said view)

-- what a text that was read says
abbrev pub pair_view : PairText → PairView
pair_view text = record {
  goods = text.goods;
  who = text.who.items;
  values = map (λ row. row.items) text.values.items;
  shares = map fraction_of text.shares.items;
  weights = text.weights.items;
  total = fraction_of text.total;
}

-- the bytes taken from the source are the text of a pair, the answer is what it says, and the source has ended; or the answer is why they are not
abbrev pub IsReadPair : Option (List ℕ) → List ℕ → Result PairText TextEnd → Type 0
IsReadPair left taken (Ok text) = IsPairText taken (pair_view text) × (length taken ≤ MOST_BYTES) × IsAtEnd left
IsReadPair left taken (Err end) = IsEndOf Pairs end left taken
