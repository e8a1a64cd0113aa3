use Rattle.std.proofs.Common.{All, take}
use Rattle.estate_texts.specs.Lines.{IsEstateMark}
use Rattle.estate_texts.proofs.tree.are_marks.Given as goal

abbrev pub invariant-loop-byte : goal.invariant-loop-byte
invariant-loop-byte l = All (IsEstateMark l.players) (take l.byte-index l.bytes)
