use Rattle.split_reports.specs.Names.{shown_names}
use Rattle.split_reports.specs.Fares.{rider_line}
use Rattle.split_reports.proofs.fares.RiderLines.push_riders.Goals as goal

pub loop-k-preserved : goal.loop-k-preserved
loop-k-preserved c =
    c.lines_law.ensures (rider_line (shown_names c.args.self.now.names.now) c.args.self.now.case.now c.args.self.now.fares.now c.args.self.now.pays.now) c.loop-k.k _ _ _ c.loop-k.invariant c.in_ok-push_rider.ensures
