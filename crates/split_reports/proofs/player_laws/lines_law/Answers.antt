use Rattle.split_reports.proofs.PlayerTexts.{lines_more}
use Rattle.split_reports.proofs.player_laws.lines_law.Goals as goal

pub returns : goal.returns
returns c = lines_more
