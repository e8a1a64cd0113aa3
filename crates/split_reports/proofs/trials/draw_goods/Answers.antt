use Rattle.split_reports.proofs.CaseForms.{goods_are}
use Rattle.split_reports.proofs.trials.draw_goods.Goals as goal

pub returns-clause-case : goal.returns-clause-case
returns-clause-case c = goods_are c.args.draws.now.last c.all_members.result c.draw_rows.result c.all_members.ensures c.draw_rows.ensures.rows
