use Rattle.std.proofs.Common.{arith, refl}
use Rattle.search_workers.proofs.ReportedPieces.{walked_none}
use Rattle.search_workers.proofs.worker.walk_task.Goals as goal

pub pieces-init : goal.pieces-init
pieces-init c =
    let nodes = c.walk_by-walk.ensures.nodes in
    record {
      walk = c.walk_by-walk.ensures.walk;
      task = c.walk_by-walk.ensures.task;
      floor = c.walk_by-walk.ensures.floor;
      above = c.walk_by-walk.ensures.above;
      part = omega (arith, nodes);
      seat = (refl, refl, refl);
      view = walked_none c.args.seat.now.me.0 c.walk_by-walk.result.nodes nodes;
      small = c.requires.small;
    }
