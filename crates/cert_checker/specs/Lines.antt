-- The lines of a text in order, and what the judge knows after each.
use Rattle.std.specs.Prelude.{◌≡◌, ℕ, ◌≤◌, List, ◌∷◌, ◌++◌, length, map, Option, Some, Result, Ok, Err, ⊤}
use Rattle.cert_reader.specs.declared.ends.TextEnd.{TextEnd}
use Rattle.cert_reader.specs.declared.forms.Counts.{Counts}
use Rattle.cert_reader.specs.declared.kinds.Kind.{Kind}
use Rattle.cert_reader.specs.declared.kinds.Kind.TheVariants as kind
use Rattle.cert_reader.specs.Forms.{AreCounts, forms_of}
use Rattle.cert_reader.specs.Gathered.{line_said}
use Rattle.cert_reader.specs.Kinds.{kind_of}
use Rattle.cert_reader.specs.Reading.{IsEnd, HasLineToCome, IsRead, Reading, with_mark}
use Rattle.cert_reader.specs.Shapes.{HasRows}
use Rattle.cert_reader.specs.Text.{CanSayAll, Said}
use Rattle.cert_reader.specs.Layout.{FaresView}
use Rattle.cert_reader.specs.Views.{CertificateView, counts_of, fares_said, said_of}
use Rattle.fare_rules.specs.State.{costs_of}
use Rattle.rule_verdicts.specs.declared.verdict.Verdict.{Verdict}
use Rattle.cert_checker.specs.FaresLines.{IsAt, IsWhole, front_said}
use Rattle.cert_checker.specs.GoodsLines.{IsAtGoods}
use Rattle.cert_checker.specs.Judged.{GivesVerdict}
use Rattle.cert_checker.specs.declared.lines.KindLines.{KindLines}
use Rattle.cert_checker.specs.declared.lines.KindLines.TheVariants.{Fares, Goods, Rent}
use Rattle.cert_checker.specs.declared.lines.Lines.{Lines}

-- the kind of these lines
abbrev pub kind_of_taken : KindLines → Kind
kind_of_taken (Rent lines) = kind.Rent
kind_of_taken (Goods lines) = kind.Goods
kind_of_taken (Fares lines) = kind.Fares

-- the kind of the text whose lines come
abbrev pub kind_of_lines : Lines → Kind
kind_of_lines lines = kind_of_taken lines.taken

-- the judge knows the lines said so far, in any text that begins with them, with these rows of costs
abbrev pub KnowsTaken : List Said → List (List ℕ) → KindLines → Type 0
KnowsTaken said rows (Rent lines) = said ≡ front_said (map line_said lines.lines.items)
KnowsTaken said rows (Goods lines) = IsAtGoods said lines
KnowsTaken said rows (Fares lines) = (view : FaresView) (next : Said) (rest : List Said) → IsWhole view → fares_said view ≡ said ++ next ∷ rest → IsAt view said lines rows

-- the judge knows the lines said so far
abbrev pub KnowsLines : List Said → Lines → Type 0
KnowsLines said lines = KnowsTaken said (costs_of lines.rows.items) lines.taken

-- after the lines that the judge knows, a text of its kind goes on with these lines
pub record GoesOn (lines : Lines) (said : List Said) (rest : List Said) : Type 0 where
  pub counts : Counts
  pub are_counts : AreCounts counts
  pub kind : kind_of counts ≡ Some (kind_of_lines lines)
  pub fits : CanSayAll (forms_of counts) (said ++ rest)
  pub knows : KnowsLines said lines

-- after the lines that the judge knows, a text of its kind goes on with this mark
pub record MarkGoesOn (lines : Lines) (said : List Said) (mark : ℕ) : Type 0 where
  pub counts : Counts
  pub are_counts : AreCounts counts
  pub kind : kind_of counts ≡ Some (kind_of_lines lines)
  pub rest : List Said
  pub fits : CanSayAll (forms_of counts) (with_mark said mark ++ rest)
  pub knows : KnowsLines said lines

-- the lines of a text with these counts say a certificate on which the rules give this verdict
pub record GivesOf (counts : Counts) (said : List Said) (verdict : Verdict) : Type 0 where
  pub view : CertificateView
  pub counted : counts_of view ≡ counts
  pub is_said : said_of view ≡ said
  pub rows : HasRows view
  pub gives : GivesVerdict view verdict

-- the bytes taken are lines that the judge knows, and at least one line is still to come
pub record IsUpTo (pieces : Reading) (lines : Lines) (taken : List ℕ) : Type 0 where
  pub said : List Said
  pub read : IsRead pieces taken said
  pub kind : kind_of pieces.counts ≡ Some (kind_of_lines lines)
  pub knows : KnowsLines said lines
  pub to_come : HasLineToCome pieces
  pub some : 2 ≤ pieces.lines
  pub long : length said ≡ pieces.lines

-- the reading went on, and the judge knows the bytes taken; or the reading ended, and this is why
abbrev pub IsGoneOn : Reading → Lines → Option (List ℕ) → List ℕ → Result ⊤ TextEnd → Type 0
IsGoneOn pieces lines left taken (Ok done) = IsUpTo pieces lines taken
IsGoneOn pieces lines left taken (Err end) = IsEnd end left taken
