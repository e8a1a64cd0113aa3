use Rattle.std.proofs.Common.{◌≡◌, refl}
use Rattle.nash_search.specs.Waiting.{IsWalk, to_come}
use Rattle.nash_search.specs.declared.walk.Walk.{Walk}
use Rattle.nash_search.proofs.WalkMoves.{pop_front, walk_back}
use Rattle.nash_search.proofs.walk.Walk.back.Goals as goal

-- the walk without the last level and the last owner
abbrev shorter : goal.After-pop-2 → Walk
shorter c = record { rules = c.args.self.now.rules; table = c.args.self.now.table; path = c.pop-2.new.self; levels = c.pop.new.self; nodes = c.args.self.now.nodes; best = c.args.self.now.best }

-- it is a walk, and as much is to come
is : (c : goal.After-pop-2) → IsWalk c.args.case.now (shorter c) × (to_come (shorter c) ≡ to_come c.args.self.now)
is c =
    let front = c.requires.stuck.0 in
    let last = c.requires.stuck.1 in
    let levels = c.requires.stuck.2 in
    walk_back c.args.case.now c.args.self.now (shorter c) front last c.pop-2.result c.requires.walk levels c.requires.stuck.3
    (pop_front c.args.self.now.levels.items c.pop.new.self.items front last levels c.pop.ensures.rest) c.pop-2.ensures.items c.pop-2.ensures.variant.1 refl refl refl

pub returns-clause-walk : goal.returns-clause-walk
returns-clause-walk c = (is c).0

pub returns-clause-same : goal.returns-clause-same
returns-clause-same c = (is c).1
