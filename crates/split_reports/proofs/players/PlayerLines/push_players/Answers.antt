use Rattle.split_reports.specs.Names.{shown_names}
use Rattle.split_reports.specs.Players.{player_line}
use Rattle.split_reports.proofs.players.PlayerLines.push_players.Goals as goal

pub loop-k-preserved : goal.loop-k-preserved
loop-k-preserved c = c.lines_law.ensures (player_line (shown_names c.args.self.now.names.now) c.args.self.now.case.now c.args.self.now.owners.now) c.loop-k.k _ _ _ c.loop-k.invariant c.in_ok-push_player.ensures
