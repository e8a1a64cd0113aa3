use Rattle.std.proofs.Common.{◌≡◌, ◌++◌, string_bytes}
use Rattle.split_reports.specs.Names.{shown_names}
use Rattle.split_reports.specs.Parts.{lines_to}
use Rattle.split_reports.specs.Players.{player_line}
use Rattle.split_reports.proofs.players.PlayerLines.push_players.Given as goal

abbrev pub invariant-loop-k : goal.invariant-loop-k
invariant-loop-k l = string_bytes l.lines ≡ string_bytes l.initial.lines ++ lines_to l.k (player_line (shown_names l.self.names.now) l.self.case.now l.self.owners.now)
