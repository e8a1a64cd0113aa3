use Rattle.std.proofs.Common.{rules, ◌+◌, ◌∙◌, ap, length, FitsSigned}
use Rattle.std.specs.Int.{w128}
use Rattle.std.proofs.lemmas.Int.{to_z-of_z}
use Rattle.std.proofs.lemmas.List.{length_push}
use Rattle.room_assignment.specs.Matrix.{entry}
use Rattle.room_assignment.specs.Tree.{IsRight}
use Rattle.split_lemmas.proofs.ListPlaces.{push_place}
use Rattle.room_assignment.proofs.rooms.rights.Goals as goal

pub loop-room-preserved : goal.loop-room-preserved
loop-room-preserved c =
    let fits : FitsSigned w128 c.right_of.result = search rules in
    let pushed = simp to_z-of_z at c.push.ensures.items in
    let d = c.loop-room.invariant in
    record {
      count = ap length pushed ∙ length_push c.loop-room.rights.items c.right_of.result ∙ ap (λ n. n + 1) d.count;
      each = rw pushed (push_place (IsRight (length c.args.keys.now.items) (entry c.args.keys.now) c.args.rooms.now c.args.left.now) c.loop-room.room c.loop-room.rights.items c.right_of.result d.count d.each c.right_of.ensures);
    }
