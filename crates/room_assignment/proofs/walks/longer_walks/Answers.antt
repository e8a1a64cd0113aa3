use Rattle.std.proofs.Common.{rules, ◌≤◌, ◌*◌, ◌+◌, length, All, unsigned_abs, FitsSigned, subst, sym, ap, ◌∙◌}
use Rattle.std.specs.Int.{w128}
use Rattle.std.proofs.lemmas.Int.{to_z-of_z}
use Rattle.std.proofs.lemmas.List.{length_push}
use Rattle.std.proofs.lemmas.List.Elements.{All-push}
use Rattle.room_assignment.specs.declared.limits.TheConstants.{MOST_STEP}
use Rattle.room_assignment.specs.Matrix.{entry}
use Rattle.room_assignment.proofs.LongestWalks.{push_longest}
use Rattle.room_assignment.proofs.walks.longer_walks.Goals as goal

pub loop-to-preserved : goal.loop-to-preserved
loop-to-preserved c =
    let fits : FitsSigned w128 c.longer_walk-walk.result.weight = search rules in
    let pushed = simp to_z-of_z at c.push.ensures.items in
    let marked = c.push-in-loop-to.ensures.items in
    let d = c.loop-to.invariant in
    record {
      weights_count = ap length pushed ∙ length_push c.loop-to.weights.items c.longer_walk-walk.result.weight ∙ ap (λ n. n + 1) d.weights_count;
      ranks_count = ap length marked ∙ length_push c.loop-to.ranks.items c.longer_walk-walk.result.steps ∙ ap (λ n. n + 1) d.ranks_count;
      small = subst (All (λ z. unsigned_abs z ≤ MOST_STEP * (c.args.limit + 1))) (sym pushed) (All-push (λ z. unsigned_abs z ≤ MOST_STEP * (c.args.limit + 1)) c.loop-to.weights.items c.longer_walk-walk.result.weight d.small c.longer_walk-walk.ensures.small);
      longest = rw (pushed, marked) (push_longest (c.args.limit + 1) (length c.args.matrix.now.items) (entry c.args.matrix.now) c.loop-to.to c.loop-to.weights.items c.loop-to.ranks.items c.longer_walk-walk.result.weight c.longer_walk-walk.result.steps
          d.weights_count d.ranks_count d.longest c.longer_walk-walk.ensures.longest);
    }
