use Rattle.std.proofs.Common.{map, take}
use Rattle.std.specs.Fmt.{HasWritten, IsPlainFormatter}
use Rattle.split_frac.specs.Texts.{with_spaces}
use Rattle.split_frac.proofs.numbers.NumbersDisplay.fmt.Given as goal

abbrev pub invariant-loop-number : goal.invariant-loop-number
invariant-loop-number g l =
    IsPlainFormatter l.initial.f → HasWritten g.W.Write.write_str_gives l.initial.f (with_spaces (map g.T.Number.text (take l.number-index l.number-items))) l.f
