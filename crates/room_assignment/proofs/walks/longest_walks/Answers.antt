use Rattle.std.proofs.Common.{arith, ◌≡◌, ◌+◌, ◌-◌, length, subst, pos, replicate, ap, ◌∙◌}
use Rattle.room_assignment.specs.Matrix.{entry}
use Rattle.room_assignment.specs.Rounds.{AreLongestWithin}
use Rattle.room_assignment.proofs.LongestWalks.{none_within, all_greatest, all_ranks, all_small, ranks_below}
use Rattle.room_assignment.proofs.walks.longest_walks.Goals as goal

pub loop-limit-init : goal.loop-limit-init
loop-limit-init c =
    let e = c.len.ensures.value in
    record {
      walks = none_within (length c.args.matrix.now.items) (entry c.args.matrix.now) _ _ (c.no_walks-walks.ensures.weights ∙ ap (λ n. replicate n (pos 0)) e) (c.no_walks-walks.ensures.ranks ∙ ap (λ n. replicate n 0) e);
      few = omega arith;
      last = λ some. omega (arith, some);
    }

pub loop-limit-preserved : goal.loop-limit-preserved
loop-limit-preserved c =
    let low = c.loop-limit.auto.limit in
    let test = c.loop-limit-test.true in
    let end = c.len-limit-end.ensures.value in
    let same : c.loop-limit.limit - 1 + 1 ≡ c.loop-limit.limit + 1 - 1 = omega arith in
    record {
      walks = subst (λ k. AreLongestWithin k (length c.args.matrix.now.items) (entry c.args.matrix.now) c.longer_walks-walks.result.weights.items c.longer_walks-walks.result.ranks.items) same c.longer_walks-walks.ensures;
      few = omega arith;
      last = λ some. omega (arith, test, end);
    }

pub returns-clause-weights : goal.returns-clause-weights
returns-clause-weights c = all_greatest (c.loop-limit.limit - 1) (length c.args.matrix.now.items) (entry c.args.matrix.now) _ _ c.requires.cycles (omega arith) c.loop-limit.invariant.walks

pub returns-clause-ranks : goal.returns-clause-ranks
returns-clause-ranks c = all_ranks (c.loop-limit.limit - 1) (length c.args.matrix.now.items) (entry c.args.matrix.now) _ _ c.requires.cycles (omega arith) c.loop-limit.invariant.walks

pub returns-clause-small : goal.returns-clause-small
returns-clause-small c = all_small (c.loop-limit.limit - 1) (length c.args.matrix.now.items) (entry c.args.matrix.now) _ _ (omega arith) c.loop-limit.invariant.walks

pub returns-clause-below : goal.returns-clause-below
returns-clause-below c = ranks_below (c.loop-limit.limit - 1) (length c.args.matrix.now.items) (entry c.args.matrix.now) _ _
    (λ some. let last = c.loop-limit.invariant.last some in omega (arith, last, some)) c.loop-limit.invariant.walks
