use Rattle.serving.proofs.Held.{held_open}
use Rattle.serving.proofs.turns.turn.Goals as goal

pub returns-clause-held : goal.returns-clause-held
returns-clause-held g c is = held_open _ _ _ c.next_head.ensures.carry.1 is
