use Rattle.std.proofs.Common.{arith, ◌≡◌, ◌+◌, ◌==◌, ℕ, cond, ap}
use Rattle.bid_rules.specs.Goods.{points}
use Rattle.winner_definition.specs.Winners.{first_owner}
use Rattle.split_lemmas.proofs.RangeSteps.{sum_more}
use Rattle.adjusted_winner.proofs.moving.points_at_first.Goals as goal

pub loop-k-preserved : goal.loop-k-preserved
loop-k-preserved c =
    let f = λ (good : ℕ). cond (first_owner c.args.case.now good == c.args.player) (points c.args.case.now c.args.player good) 0 in
    let more = sum_more f 1 c.loop-k.k in
    let here = ap f (let e : 1 + c.loop-k.k ≡ c.loop-k.k + 1 = omega arith in e) in
    record {
      value = omega (arith, c.loop-k.invariant.value, more, here, c.good_at_first-sum.ensures.value);
      small = omega (arith, c.loop-k.invariant.small, c.good_at_first-sum.ensures.small);
    }
