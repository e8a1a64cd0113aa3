use Rattle.winner_definition.proofs.SupportedDivisions.{efficient, envy_free}
use Rattle.winner_definition.proofs.RicherAtFirst.{richer_was}
use Rattle.winner_definition.proofs.WinnerWeights.{one_split, winner_division, winner_weights}
use Rattle.winner_definition.proofs.laws.winner_law.Goals as goal

pub returns-clause-division : goal.returns-clause-division
returns-clause-division c = winner_division

pub returns-clause-weights : goal.returns-clause-weights
returns-clause-weights c = winner_weights

pub returns-clause-one_split : goal.returns-clause-one_split
returns-clause-one_split c = one_split

pub returns-clause-richer : goal.returns-clause-richer
returns-clause-richer c = richer_was

pub returns-clause-equitable : goal.returns-clause-equitable
returns-clause-equitable c = λ case parts held first second winner. winner.equal

pub returns-clause-envy_free : goal.returns-clause-envy_free
returns-clause-envy_free c = λ case parts held first second valid two winner.
    envy_free case parts held first second valid two (winner_division case parts held first second winner) winner.equal (winner_weights case parts held first second valid two winner)

pub returns-clause-efficient : goal.returns-clause-efficient
returns-clause-efficient c = λ case parts held first second valid two winner.
    efficient case parts held first second (winner_division case parts held first second winner) (winner_weights case parts held first second valid two winner)
