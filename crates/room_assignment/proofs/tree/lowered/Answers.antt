use Rattle.std.proofs.Common.{rules, ◌+◌, ap, ◌∙◌, pos, get_or, length, FitsSigned}
use Rattle.std.specs.Int.{w128}
use Rattle.std.proofs.lemmas.Int.{to_z-of_z}
use Rattle.std.proofs.lemmas.List.{length_push}
use Rattle.room_assignment.proofs.TreeLists.{lowered_more}
use Rattle.room_assignment.proofs.tree.lowered.Goals as goal

pub loop-k-preserved : goal.loop-k-preserved
loop-k-preserved c =
    let fits = c.ranges.by in
    let fits_out : FitsSigned w128 c.one_lowered.result = search rules in
    let fits_in : FitsSigned w128 (get_or c.args.values.now c.loop-k.k (pos 0)) = search rules in
    let pushed = simp to_z-of_z at c.push.ensures.items in
    let here = simp to_z-of_z at c.one_lowered.ensures.yes in
    let there = simp to_z-of_z at c.one_lowered.ensures.no in
    let d = c.loop-k.invariant in
    let yes = simp to_z-of_z at d.yes in
    let both = lowered_more c.args.values.now c.loop-k.lowered.items c.args.marked.now c.args.by c.one_lowered.result c.loop-k.k d.count yes d.no here there in
    simp to_z-of_z (record {
      count = ap length pushed ∙ length_push c.loop-k.lowered.items c.one_lowered.result ∙ ap (λ n. n + 1) d.count;
      yes = rw pushed both.0;
      no = rw pushed both.1;
    })
