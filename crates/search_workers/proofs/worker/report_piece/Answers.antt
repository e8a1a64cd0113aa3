use Rattle.search_workers.proofs.ReportedPieces.{walked_none}
use Rattle.search_workers.proofs.worker.report_piece.Goals as goal

pub returns-then-piece-eq0-clause-view : goal.returns-then-piece-eq0-clause-view
returns-then-piece-eq0-clause-view c = walked_none c.args.seat.now.me.0 c.args.piece c.if-piece-eq0.true
