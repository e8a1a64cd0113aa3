use Rattle.winner_definition.proofs.Procedures.{follows, next_from}
use Rattle.winner_definition.proofs.RicherPlayers.{greater_is, greater_some, lesser_is}
use Rattle.winner_definition.proofs.moving_laws.next_to_move_law.Goals as goal

pub returns-clause-richer : goal.returns-clause-richer
returns-clause-richer c = λ case richer moved rich poor moves more. (follows case richer moved rich poor moves more).is_richer.either

pub returns-clause-moves : goal.returns-clause-moves
returns-clause-moves c = λ case richer moved rich poor next moves more some first.
    let after = follows case richer moved rich poor moves more in
    next_from case richer moved next after.is_richer.either after.gone some first

pub returns-clause-some : goal.returns-clause-some
returns-clause-some c = greater_some

pub returns-clause-greater : goal.returns-clause-greater
returns-clause-greater c = greater_is

pub returns-clause-lesser : goal.returns-clause-lesser
returns-clause-lesser c = lesser_is
