use Rattle.winner_definition.proofs.NextGoods.{next_gone, next_keep, next_skip, next_take}
use Rattle.winner_definition.proofs.Procedures.{follows}
use Rattle.winner_definition.proofs.RicherPlayers.{never_done}
use Rattle.winner_definition.specs.Moving.{latest}
use Rattle.winner_definition.proofs.moving_laws.next_good_law.Goals as goal

pub returns-clause-skipped : goal.returns-clause-skipped
returns-clause-skipped c = next_skip

pub returns-clause-gone : goal.returns-clause-gone
returns-clause-gone c = next_gone

pub returns-clause-taken : goal.returns-clause-taken
returns-clause-taken c = next_take

pub returns-clause-kept : goal.returns-clause-kept
returns-clause-kept c = next_keep

pub returns-clause-some : goal.returns-clause-some
returns-clause-some c = λ case richer moved rich poor next valid two moves more first.
    never_done case richer (latest moved) rich poor next valid two (follows case richer moved rich poor moves more).is_richer first
