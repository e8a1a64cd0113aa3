use Rattle.winner_definition.proofs.ShownDivisions.{equitable, shown_efficient, shown_envy_free}
use Rattle.winner_definition.proofs.OneTotal.{one_total}
use Rattle.winner_definition.proofs.laws.shown_law.Goals as goal

pub returns-clause-equitable : goal.returns-clause-equitable
returns-clause-equitable c = λ case shares total first second shown. equitable case shown.parts shown.held total shown.are_totals

pub returns-clause-envy_free : goal.returns-clause-envy_free
returns-clause-envy_free c = shown_envy_free

pub returns-clause-efficient : goal.returns-clause-efficient
returns-clause-efficient c = shown_efficient

pub returns-clause-one_total : goal.returns-clause-one_total
returns-clause-one_total c = one_total
