use Rattle.std.proofs.Common.{refl}
use Rattle.split_reports.specs.TrialDraws.{after, seed}
use Rattle.split_reports.specs.declared.limits.TheConstants.{GOODS_DRAWS, RENT_DRAWS}
use Rattle.split_reports.proofs.FewSteps.{few_steps, trial_few}
use Rattle.split_reports.proofs.ValidCases.{fare_valid, goods_valid, rent_valid}
use Rattle.split_reports.proofs.trial_laws.trial_law.Goals as goal

pub returns-clause-rent : goal.returns-clause-rent
returns-clause-rent c number = rent_valid (seed number)

pub returns-clause-goods : goal.returns-clause-goods
returns-clause-goods c number = goods_valid (after RENT_DRAWS (seed number))

pub returns-clause-fare : goal.returns-clause-fare
returns-clause-fare c number = fare_valid (after GOODS_DRAWS (after RENT_DRAWS (seed number)))

pub returns-clause-prefixes : goal.returns-clause-prefixes
returns-clause-prefixes c = few_steps

pub returns-clause-within : goal.returns-clause-within
returns-clause-within c number steps has = trial_few (after RENT_DRAWS (seed number)) steps has

pub returns-clause-first : goal.returns-clause-first
unfolding after
returns-clause-first c = refl

pub returns-clause-second : goal.returns-clause-second
unfolding after
returns-clause-second c = refl
