use Rattle.std.proofs.Common.{◌≡◌, ◌-◌, ◌≤◌, ◌∙◌, ◌++◌, ◌∷◌, [], List, true, length, slice_index_or, slice_set, ap, sym, refl, subst}
use Rattle.std.specs.List.{refill}
use Rattle.bid_rules.specs.Goods.{player_count}
use Rattle.nash_bounds.specs.Counted.{is_counted}
use Rattle.nash_bounds.specs.Lanes.{IsFork}
use Rattle.nash_search.specs.Waiting.{IsWalk}
use Rattle.nash_search.specs.declared.levels.Level.{Level}
use Rattle.nash_search.specs.declared.walk.Walk.{Walk}
use Rattle.nash_search.proofs.WalkMoves.{come_next, walk_next, read_last, settled_last, write_last}
use Rattle.nash_search.proofs.walk.Walk.next.Goals as goal

-- the walk with the last level as it is after the turn
abbrev turned : goal.After-self-1 → Walk
turned c = record {
  rules = c.args.self.now.rules;
  table = c.args.self.now.table;
  path = c.args.self.now.path;
  levels = record { items = refill (length c.args.self.now.levels.items) c.args.self.now.levels.items (slice_set c.deref_mut.result.now (c.len-last.result - 1) c.turn.new.self) };
  nodes = c.args.self.now.nodes;
  best = c.args.self.now.best;
}

-- the level whose owner has the turn
abbrev turning : goal.After-self-1 → Level
turning c = slice_index_or c.deref_mut.result.now (c.len-last.result - 1) c.index-deref_mut-last.result

-- the last level is the one whose owner has the turn
before : (c : goal.After-self-1) → (front : List Level) × (c.args.self.now.levels.items ≡ front ++ (turning c) ∷ [])
before c =
    let last = settled_last c.args.self.now c.requires.settled c.requires.some in
    let is = read_last c.args.self.now.levels.items c.deref_mut.result.now last.0 last.1 c.index-deref_mut-last.result c.len-last.result c.deref_mut.ensures.value last.2 c.len-last.ensures.value in
    (last.0, last.2 ∙ ap (λ (l : Level). last.0 ++ l ∷ []) (sym is))

-- after it the others are as they were
after : (c : goal.After-self-1) → (turned c).levels.items ≡ (before c).0 ++ c.turn.new.self ∷ []
after c = write_last c.args.self.now.levels.items c.deref_mut.result.now (before c).0 (turning c) c.turn.new.self c.len-last.result c.deref_mut.ensures.value (before c).1 c.len-last.ensures.value

-- what the turn is
is : (c : goal.After-self-1) → IsWalk c.args.case.now (turned c) × ((1 ≤ c.turn.result.owner) × (c.turn.result.owner ≤ player_count c.args.case.now))
    × IsFork c.args.case.now c.args.self.now.path.items (turning c).lanes
    × (is_counted c.args.case.now c.args.self.now.rules.floor c.args.self.now.rules.above (c.args.self.now.path.items ++ c.turn.result.owner ∷ []) ≡ true)
is c = walk_next c.args.case.now c.args.self.now (turned c) (before c).0 (turning c) c.turn.new.self c.turn.result.owner c.requires.walk (before c).1 c.turn.ensures.owners (after c) c.turn.ensures.lanes refl refl refl refl

pub returns-clause-walk : goal.returns-clause-walk
returns-clause-walk c = (is c).0

pub returns-clause-next : goal.returns-clause-next
returns-clause-next c = come_next c.args.case.now c.args.self.now (turned c) (before c).0 (turning c) c.turn.new.self c.turn.result.owner c.requires.walk (before c).1 c.turn.ensures.owners (after c) refl

pub returns-clause-owner : goal.returns-clause-owner
returns-clause-owner c = (is c).1

pub returns-clause-fork : goal.returns-clause-fork
returns-clause-fork c = subst (IsFork c.args.case.now c.args.self.now.path.items) (sym c.turn.ensures.fork) (is c).2

pub returns-clause-counted : goal.returns-clause-counted
returns-clause-counted c = (is c).3
