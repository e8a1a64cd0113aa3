use Rattle.split_reports.proofs.rent.push_members.Goals as goal

pub loop-k-preserved : goal.loop-k-preserved
loop-k-preserved c = c.lines_law.ensures _ c.loop-k.k _ _ _ c.loop-k.invariant c.in_ok-push_member.ensures
