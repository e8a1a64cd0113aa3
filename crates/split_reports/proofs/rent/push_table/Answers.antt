use Rattle.split_reports.specs.Rent.{figures_shown, member_envy}
use Rattle.split_reports.proofs.rent.push_table.Goals as goal

pub loop-k-preserved : goal.loop-k-preserved
loop-k-preserved c = c.lines_law.ensures (member_envy (figures_shown c.args.figures.now)) c.loop-k.k _ _ _ c.loop-k.invariant c.in_ok-push_envy.ensures
