use Rattle.std.proofs.Common.{ℕ, ◌<◌, get_or}
use Rattle.estate_judge.specs.Nodes.{IsLetter}
use Rattle.estate_judge.proofs.marks.letter_count.Given as goal

abbrev pub invariant-loop-i : goal.invariant-loop-i
invariant-loop-i l = (k : ℕ) → k < l.i → IsLetter (get_or l.marks k 0)
