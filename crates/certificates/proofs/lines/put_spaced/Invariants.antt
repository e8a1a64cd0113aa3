-- The numbers so far were put.
use Rattle.std.proofs.Common.{map, take}
use Rattle.certificates.specs.Puts.{Puts}
use Rattle.split_frac.specs.Texts.{with_spaces}
use Rattle.certificates.proofs.lines.put_spaced.Given as goal

abbrev pub invariant-loop-number : goal.invariant-loop-number
invariant-loop-number g l = Puts (with_spaces (map g.I.Integer.text (take l.number-index l.numbers))) l.used l.initial.text l.text l.end
