use Rattle.std.proofs.Common.{map}
use Rattle.split_reports.specs.Goods.{player_envy}
use Rattle.split_reports.proofs.goods.push_table.Goals as goal

pub loop-k-preserved : goal.loop-k-preserved
loop-k-preserved c = c.lines_law.ensures (player_envy c.args.case.now (map (λ row. row.items) c.args.table.now)) c.loop-k.k _ _ _ c.loop-k.invariant c.in_ok-push_envy.ensures
