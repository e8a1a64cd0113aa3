use Rattle.std.proofs.Common.{◌≡◌, ◌++◌, string_bytes}
use Rattle.split_reports.specs.Names.{shown_names}
use Rattle.split_reports.specs.Parts.{lines_to}
use Rattle.split_reports.specs.Fares.{rider_line}
use Rattle.split_reports.proofs.fares.RiderLines.push_riders.Given as goal

abbrev pub invariant-loop-k : goal.invariant-loop-k
invariant-loop-k l = string_bytes l.lines ≡ string_bytes l.initial.lines ++ lines_to l.k (rider_line (shown_names l.self.names.now) l.self.case.now l.self.fares.now l.self.pays.now)
