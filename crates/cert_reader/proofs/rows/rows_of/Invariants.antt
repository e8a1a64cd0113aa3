-- The rows so far are those of the lines so far.
use Rattle.std.proofs.Common.{◌≡◌, All, length, map, take}
use Rattle.cert_reader.specs.Gathered.{line_said}
use Rattle.cert_reader.specs.Numbers.{AreSmall}
use Rattle.cert_reader.specs.Views.{says}
use Rattle.cert_reader.proofs.rows.rows_of.Given as goal

abbrev pub invariant-loop-line : goal.invariant-loop-line
invariant-loop-line g l = record {
  long : length l.rows.items ≡ l.line-index;
  said : map says (map (λ row. row.items) l.rows.items) ≡ map line_said (take l.line-index l.lines);
  small : All (λ row. AreSmall row.items) l.rows.items;
  columns : map (λ row. length row.items) l.rows.items ≡ map (λ line. length line.items) (take l.line-index l.lines);
}
