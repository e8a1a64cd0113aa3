use Rattle.std.proofs.Common.{◌≡◌, ℕ, ◌≤◌, ◌∙◌, ◌++◌, ◌∷◌, [], All, cond, ap, sym, subst, None}
use Rattle.std.specs.Option.{option_to_list}
use Rattle.bid_rules.specs.Goods.{player_count}
use Rattle.nash_bounds.specs.Lanes.{IsFork}
use Rattle.nash_bounds.specs.Prefixes.{prefix_bound}
use Rattle.nash_bounds.specs.Counted.{is_counted}
use Rattle.nash_search.specs.Waiting.{IsReadyForNext, IsWalk, to_come}
use Rattle.nash_search.specs.declared.walk.Walk.{Walk}
use Rattle.nash_search.proofs.WalkMoves.{first_walk, first_of, All-last, IsFirst}
use Rattle.nash_search.proofs.walk.start.Goals as goal

-- the walk before the first step
abbrev first : goal.After-first_levels-levels → Walk
first c = record { rules = c.args.rules; table = c.args.table; path = c.pop.new.self; levels = c.first_levels-levels.result; nodes = 0; best = None }

-- it is a settled walk that has the prefix to come, if that is counted
is : (c : goal.After-first_levels-levels) → IsWalk c.args.case.now (first c) × IsReadyForNext (first c)
    × (to_come (first c) ≡ cond (is_counted c.args.case.now c.args.rules.floor c.args.rules.above c.args.prefix.now.owners.items) (c.args.prefix.now.owners.items ∷ []) [])
is c =
    let case = c.args.case.now in
    let owners = c.args.prefix.now.owners.items in
    let owner = c.unwrap-owner.result in
    let lanes = c.take.new.lanes in
    let waits = c.reaches-reached.result.reaches in
    let same : c.copied-path.result.items ≡ owners = c.copied-path.ensures ∙ c.as_slice.ensures.value in
    let path : owners ≡ c.pop.new.self.items ++ owner ∷ [] = sym same ∙ c.pop.ensures.items ∙ ap (λ o. c.pop.new.self.items ++ option_to_list o) c.unwrap-owner.ensures in
    let O : ℕ → Type 0 = λ o. (1 ≤ o) × (o ≤ player_count case) in
    let own : O owner = All-last O c.pop.new.self.items owner (subst (All O) path c.requires.prefix.owned) in
    let counted : waits ≡ is_counted case c.args.rules.floor c.args.rules.above owners =
    c.reaches-reached.ensures ∙ sym (c.requires.rules.same (prefix_bound case c.as_slice-2.result.now)) ∙ ap (is_counted case c.args.rules.floor c.args.rules.above) c.as_slice-2.ensures.value in
    let levels : IsFirst (first c) lanes owner waits = first_of (first c) lanes owner waits c.first_levels-levels.ensures.none (λ e.
    let o = c.first_levels-levels.ensures.one e in (o.0, o.1, o.2, o.3 ∙ c.len.ensures.value, o.4, o.5, o.6)) in
    let fork = subst (λ xs. IsFork case xs lanes) c.as_slice-3.ensures.value c.take.ensures in
    first_walk case (first c) lanes owners owner waits path c.requires.prefix.short c.requires.prefix.owned own.0 own.1 levels counted c.requires.table fork tt c.requires.rules

pub returns-clause-walk : goal.returns-clause-walk
returns-clause-walk c = (is c).0

pub returns-clause-settled : goal.returns-clause-settled
returns-clause-settled c = (is c).1

pub returns-clause-come : goal.returns-clause-come
returns-clause-come c = (is c).2
