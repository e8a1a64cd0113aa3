use Rattle.std.proofs.Common.{arith, rules, ◌≡◌, ◌+◌, ◌*◌, ℕ, map, ap}
use Rattle.bid_rules.specs.Goods.{points}
use Rattle.winner_definition.specs.Divisions.{parts_held}
use Rattle.winner_definition.specs.Parts.{parts_list}
use Rattle.split_lemmas.proofs.RangeSteps.{sum_more}
use Rattle.split_frac.specs.Frac.{fraction_of}
use Rattle.winner_rules.proofs.totals.first_points.Goals as goal

pub loop-k-preserved : goal.loop-k-preserved
loop-k-preserved c =
    let f = λ (good : ℕ). parts_held (parts_list (map fraction_of c.args.shares.now)) good * points c.args.case.now 1 good in
    let more = sum_more f 1 c.loop-k.k in
    let here = ap f (let e : 1 + c.loop-k.k ≡ c.loop-k.k + 1 = omega arith in e) in
    record {
      value = omega (arith, c.loop-k.invariant.value, more, here, c.first_worth-sum.ensures.value);
      small = omega (arith, c.loop-k.invariant.small, c.first_worth-sum.ensures.small);
    }
