use Rattle.std.proofs.Common.{arith}
use Rattle.nash_bounds.proofs.LanePlaces.{all_bits, no_more_both, no_more_either}
use Rattle.nash_bounds.proofs.contenders.among.Goals as goal

pub returns-then-open_lanes-count : goal.returns-then-open_lanes-count
returns-then-open_lanes-count c = λ k l none. absurd (let set = all_bits k l in omega arith)

pub returns-then-open_lanes-count-2 : goal.returns-then-open_lanes-count-2
returns-then-open_lanes-count-2 c = λ k l none. let same = c.if-open_lanes-count-2.true in no_more_either c.args.open_lanes c.args.count c.args.reaching c.args.opened k (omega arith) none

pub returns-then-count-open_lanes-eq1 : goal.returns-then-count-open_lanes-eq1
returns-then-count-open_lanes-eq1 c = λ k l none. let one = c.if-count-open_lanes-eq1.true in no_more_both c.args.open_lanes c.args.count c.args.reaching c.args.opened k (omega arith) none
