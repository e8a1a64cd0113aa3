use Rattle.estate_judge.proofs.NearestNodes.{found_up}
use Rattle.estate_judge.proofs.nearest.+nearest.Goals as goal

pub returns-in-Some-split_last : goal.returns-in-Some-split_last
returns-in-Some-split_last g t c =
    found_up g.T.Taken.taken c.args.above.now c.in-Some-split_last.rest.now c.in-Some-split_last.last.now c.args.node.now c.nearest.result c.in-Some-split_last.ensures.cases.0 c.in_default.ensures c.nearest.ensures
