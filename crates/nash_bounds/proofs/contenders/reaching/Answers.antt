use Rattle.std.proofs.Common.{get_or}
use Rattle.nash_bounds.specs.FarLanes.{lane_bit}
use Rattle.nash_bounds.proofs.ShortLanes.{short_by}
use Rattle.nash_bounds.proofs.contenders.reaching.Goals as goal

pub returns : goal.returns
returns c = λ k l none.
    short_by c.args.level (get_or c.args.before k 0) (get_or c.args.after k 0) (get_or c.args.over k 0) c.args.shares
    (get_or c.limited-few.result k 0) (get_or c.sum_with.result k 0) (get_or c.rest_of.result k 0) (get_or c.weighed-rises.result k 0) (get_or c.weighed-stays.result k 0) (lane_bit c.at_least.result k)
    (c.limited-few.ensures.each k l) (c.sum_with.ensures.each k l) (c.rest_of.ensures.each k l) (c.weighed-rises.ensures.each k l) (c.weighed-stays.ensures.each k l)
    (c.at_least.ensures k l) none
