use Rattle.goods_audit.specs.Texts.{answers, envy_lines}
use Rattle.goods_audit.proofs.envies.EnvyLines.push_all.Goals as goal

pub loop-k-preserved : goal.loop-k-preserved
loop-k-preserved c = c.lines_law.ensures (envy_lines c.args.self.now.case.now (answers c.args.self.now.table.now)) c.loop-k.k _ _ _ c.loop-k.invariant c.in_ok-push_others.ensures
