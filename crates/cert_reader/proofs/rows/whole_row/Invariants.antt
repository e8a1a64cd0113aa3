-- The row so far has the numbers so far.
use Rattle.std.proofs.Common.{◌≡◌, length, map, take}
use Rattle.split_frac.specs.Frac.{fraction_of}
use Rattle.cert_reader.specs.Numbers.{AreSmall}
use Rattle.cert_reader.specs.Text.{wholes}
use Rattle.cert_reader.proofs.rows.whole_row.Given as goal

abbrev pub invariant-loop-number : goal.invariant-loop-number
invariant-loop-number g l = record {
  long : length l.row.items ≡ l.number-index;
  said : wholes l.row.items ≡ map fraction_of (take l.number-index l.numbers);
  small : AreSmall l.row.items;
}
