use Rattle.std.proofs.Common.{◌≡◌, length, map, take}
use Rattle.fair_solver.specs.Numbers.{AreParts}
use Rattle.split_frac.specs.Frac.{fraction_of}
use Rattle.fair_solver.proofs.numbers.parts_of.Given as goal

abbrev pub invariant-loop-fraction : goal.invariant-loop-fraction
invariant-loop-fraction l = record {
  over : length l.numerators.items ≡ l.fraction-index;
  under : length l.denominators.items ≡ l.fraction-index;
  parts : AreParts (map fraction_of (take l.fraction-index l.fractions)) l.numerators.items l.denominators.items;
}
