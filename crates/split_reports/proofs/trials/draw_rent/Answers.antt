use Rattle.split_reports.proofs.CaseForms.{rent_is}
use Rattle.split_reports.proofs.trials.draw_rent.Goals as goal

pub returns-clause-case : goal.returns-clause-case
returns-clause-case c = rent_is c.args.draws.now.last c.draw_rows.result c.draw_rows.ensures.rows
