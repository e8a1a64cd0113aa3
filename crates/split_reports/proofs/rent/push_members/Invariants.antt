use Rattle.std.proofs.Common.{◌≡◌, ◌++◌, string_bytes}
use Rattle.split_reports.specs.Names.{shown_names}
use Rattle.split_reports.specs.Parts.{lines_to}
use Rattle.split_reports.specs.Rent.{figures_shown, member_line}
use Rattle.split_reports.proofs.rent.push_members.Given as goal

abbrev pub invariant-loop-k : goal.invariant-loop-k
invariant-loop-k l = string_bytes l.lines ≡ string_bytes l.initial.lines ++ lines_to l.k (member_line (shown_names l.names) (figures_shown l.figures))
