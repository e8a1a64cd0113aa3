-- The fractions so far were put.
use Rattle.std.proofs.Common.{map, take}
use Rattle.certificates.specs.Puts.{Puts}
use Rattle.split_frac.specs.Frac.{frac_text}
use Rattle.split_frac.specs.Texts.{with_spaces}
use Rattle.certificates.proofs.lines.put_spaced_fractions.Given as goal

abbrev pub invariant-loop-number : goal.invariant-loop-number
invariant-loop-number l = Puts (with_spaces (map frac_text (take l.number-index l.numbers))) l.used l.initial.text l.text l.end
