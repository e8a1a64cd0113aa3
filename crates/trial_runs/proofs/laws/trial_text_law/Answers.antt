use Rattle.trial_runs.proofs.TrialTexts.{one_text}
use Rattle.trial_runs.proofs.laws.trial_text_law.Goals as goal

pub returns : goal.returns
returns c = record { one = one_text c.one_rent_division_law.ensures c.step_count_law.ensures.one_division c.trial_law.ensures.rent }
