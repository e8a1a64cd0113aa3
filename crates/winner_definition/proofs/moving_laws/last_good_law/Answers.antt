use Rattle.std.proofs.Common.{◌≡◌, ◌+◌, ◌-◌, arith}
use Rattle.winner_definition.proofs.FinalMoves.{ended_total}
use Rattle.winner_definition.proofs.Procedures.{first_unmoved, follows, last_is, shares_are}
use Rattle.winner_definition.specs.Moving.{latest}
use Rattle.winner_definition.proofs.moving_laws.last_good_law.Goals as goal

pub returns-clause-shares : goal.returns-clause-shares
returns-clause-shares c = λ case richer moved rich poor last parts share moves more next ends.
    let after = follows case richer moved rich poor moves more in
    shares_are case richer moved rich poor last parts share after (last_is case richer moved rich poor last after next ends)

pub returns-clause-total : goal.returns-clause-total
returns-clause-total c = λ case richer moved rich poor last parts moves more next ends whole.
    let after = follows case richer moved rich poor moves more in
    let gap : rich - poor + poor ≡ rich = omega (arith, more) in
    ended_total case richer (latest moved) rich poor last parts (rich - poor) (last_is case richer moved rich poor last after next ends) whole gap

pub returns-clause-unmoved : goal.returns-clause-unmoved
returns-clause-unmoved c = first_unmoved
