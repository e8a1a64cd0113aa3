use Rattle.winner_definition.specs.Moving.{IsNextOf}
use Rattle.adjusted_winner.proofs.moving.next_good.Given as goal

abbrev pub invariant-loop-k : goal.invariant-loop-k
invariant-loop-k l = IsNextOf l.case l.player l.last l.k l.next
