-- The rows so far are appended.
use Rattle.std.proofs.Common.{◌≡◌, ◌++◌, drop, flat_map, map, take}
use Rattle.split_frac.specs.Frac.{fraction_of}
use Rattle.cert_reader.specs.Numbers.{AreSmall}
use Rattle.cert_reader.specs.Text.{wholes}
use Rattle.cert_reader.proofs.rows.push_rows.Given as goal

abbrev pub invariant-loop-line : goal.invariant-loop-line
invariant-loop-line l = record {
  said : wholes l.table.items ≡ wholes l.initial.table.items ++ flat_map (λ line. map fraction_of (drop 1 line.items)) (take l.line-index l.lines);
  small : AreSmall l.initial.table.items → AreSmall l.table.items;
}
