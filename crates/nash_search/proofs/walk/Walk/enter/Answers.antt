use Rattle.std.proofs.Common.{arith, ◌≡◌, ◌+◌, ◌-◌, ◌<◌, ◌∙◌, ◌++◌, ◌∷◌, [], List, ℕ, length, reverse, ap, sym, subst}
use Rattle.std.specs.List.{filter, range_with_len}
use Rattle.bid_rules.specs.Goods.{player_count}
use Rattle.nash_bounds.specs.Counted.{is_counted, count, best}
use Rattle.nash_bounds.specs.Allocations.{keep}
use Rattle.nash_bounds.specs.Lanes.{IsFork}
use Rattle.nash_search.specs.Best.{list_of, IsKept}
use Rattle.nash_search.specs.Waiting.{to_come, count_all, best_all}
use Rattle.nash_search.specs.declared.levels.Level.{Level}
use Rattle.nash_search.specs.declared.rules.Rules.{Rules}
use Rattle.nash_search.specs.declared.walk.Walk.{Walk}
use Rattle.nash_search.proofs.WaitingOwners.{leaf, inner, counted_next, count_all-cons, count_all-append, best_all-append}
use Rattle.nash_search.proofs.WalkMoves.{pop_front, come_from, walk_from, longer_short, come_deeper, walk_deeper}
use Rattle.nash_search.proofs.walk.Walk.enter.Goals as goal

-- the walk after an allocation is offered
abbrev offered : goal.After-pop → Walk
offered c = record { rules = c.offer.new.self.rules; table = c.offer.new.self.table; path = c.pop.new.self; levels = c.offer.new.self.levels; nodes = c.offer.new.self.nodes; best = c.offer.new.self.best }

-- its path is as it was
path_again : (c : goal.After-pop) → (offered c).path.items ≡ c.args.self.now.path.items
path_again c = pop_front c.offer.new.self.path.items c.pop.new.self.items c.args.self.now.path.items c.args.turn.now.owner ((ap (λ (w : Walk). w.path.items) c.offer.ensures.frame) ∙ c.descend-lanes.ensures.path) c.pop.ensures.rest

-- and so are its levels
levels_again : (c : goal.After-pop) → (offered c).levels.items ≡ c.args.self.now.levels.items
levels_again c = (ap (λ (w : Walk). w.levels.items) c.offer.ensures.frame) ∙ (ap (λ (w : Walk). w.levels.items) c.descend-lanes.ensures.frame)

-- the allocation is one step, and is kept
one_step : (c : goal.After-pop) → (let x = c.args.self.now.path.items ++ c.args.turn.now.owner ∷ [] in let case = c.args.case.now in let rules = c.args.self.now.rules in
    (count case rules.floor rules.above (case.facts.goods - length x) x ≡ 1)
    × (best case rules.floor rules.above (case.facts.goods - length x) x (list_of c.args.self.now.best) ≡ keep case (list_of c.args.self.now.best) x))
one_step c =
    leaf c.args.case.now c.args.self.now.rules.floor c.args.self.now.rules.above (c.args.self.now.path.items ++ c.args.turn.now.owner ∷ []) (list_of c.args.self.now.best)
    (ap length (sym c.descend-lanes.ensures.path) ∙ sym c.len.ensures.value ∙ c.if-len-case.true) c.requires.counted

pub returns-then-len-case-clause-walk : goal.returns-then-len-case-clause-walk
returns-then-len-case-clause-walk c =
    walk_from c.args.case.now c.args.self.now (offered c) c.requires.walk ((ap (λ (w : Walk). w.table) c.offer.ensures.frame) ∙ (ap (λ (w : Walk). w.table) c.descend-lanes.ensures.frame)) (path_again c) (levels_again c)
    ((ap (λ (w : Walk). w.rules) c.offer.ensures.frame) ∙ (ap (λ (w : Walk). w.rules) c.descend-lanes.ensures.frame)) c.offer.ensures.kept

pub returns-then-len-case-clause-count : goal.returns-then-len-case-clause-count
returns-then-len-case-clause-count c =
    let floor = c.args.self.now.rules.floor in
    let above = c.args.self.now.rules.above in
    let before = to_come c.args.self.now in
    let same = ap (count_all c.args.case.now floor above) (come_from c.args.self.now (offered c) (path_again c) (levels_again c)) in
    ap (λ n. 1 + n) same ∙ ap (λ n. n + count_all c.args.case.now floor above before) (sym (one_step c).0) ∙ sym (count_all-cons c.args.case.now floor above (c.args.self.now.path.items ++ c.args.turn.now.owner ∷ []) before)

pub returns-then-len-case-clause-best : goal.returns-then-len-case-clause-best
returns-then-len-case-clause-best c =
    let floor = c.args.self.now.rules.floor in
    let above = c.args.self.now.rules.above in
    let x = c.args.self.now.path.items ++ c.args.turn.now.owner ∷ [] in
    let kept : list_of c.offer.new.self.best ≡ best c.args.case.now floor above (c.args.case.now.facts.goods - length x) x (list_of c.args.self.now.best) =
    c.offer.ensures.best ∙ rw ((ap (λ (w : Walk). w.best) c.descend-lanes.ensures.frame), c.descend-lanes.ensures.path) (sym (one_step c).1) in
    ap (λ ws. best_all c.args.case.now floor above ws (list_of c.offer.new.self.best)) (come_from c.args.self.now (offered c) (path_again c) (levels_again c))
    ∙ ap (best_all c.args.case.now floor above (to_come c.args.self.now)) kept

pub look-requires-clause-open : goal.look-requires-clause-open
look-requires-clause-open c = record { valid = c.requires.case; short = longer_short c.args.case.now c.args.self.now c.args.turn.now.owner _ c.len.result c.requires.walk c.descend-lanes.ensures.path c.len.ensures.value c.if-len-case.false }

-- the path with the owner
longer : (c : goal.After-look) → c.look.new.self.path.items ≡ c.args.self.now.path.items ++ c.args.turn.now.owner ∷ []
longer c = (ap (λ (w : Walk). w.path.items) c.look.ensures.frame) ∙ c.descend-lanes.ensures.path

-- it has no owner for some good yet
short : (c : goal.After-look) → length (c.args.self.now.path.items ++ c.args.turn.now.owner ∷ []) < c.args.case.now.facts.goods
short c = subst (λ xs. length xs < c.args.case.now.facts.goods) c.descend-lanes.ensures.path
    (longer_short c.args.case.now c.args.self.now c.args.turn.now.owner c.descend-lanes.new.self.path.items c.len.result c.requires.walk c.descend-lanes.ensures.path c.len.ensures.value c.if-len-case.false)

-- the level that is more
abbrev more : goal.After-look → Level
more c = c.look.ensures.levels.0

-- the levels with it
levels : (c : goal.After-look) → c.look.new.self.levels.items ≡ c.args.self.now.levels.items ++ more c ∷ []
levels c = c.look.ensures.levels.1 ∙ ap (λ (ls : List Level). ls ++ more c ∷ []) (ap (λ (w : Walk). w.levels.items) c.descend-lanes.ensures.frame)

-- who waits at it
waits : (c : goal.After-look) → reverse (more c).owners.items
    ≡ filter (λ o. is_counted c.args.case.now c.args.self.now.rules.floor c.args.self.now.rules.above (c.look.new.self.path.items ++ o ∷ [])) (range_with_len 1 (player_count c.args.case.now))
waits c =
    let counted : Rules → List ℕ → List ℕ = λ rules path. filter (λ o. is_counted c.args.case.now rules.floor rules.above (path ++ o ∷ [])) (range_with_len 1 (player_count c.args.case.now)) in
    c.look.ensures.levels.4 ∙ ap (λ (r : Rules). counted r c.descend-lanes.new.self.path.items) (ap (λ (w : Walk). w.rules) c.descend-lanes.ensures.frame) ∙ ap (counted c.args.self.now.rules) (sym (ap (λ (w : Walk). w.path.items) c.look.ensures.frame))

-- the counted prefixes with one owner more
abbrev below : goal.After-look → List (List ℕ)
below c = counted_next c.args.case.now c.args.self.now.rules.floor c.args.self.now.rules.above (c.args.self.now.path.items ++ c.args.turn.now.owner ∷ []) (player_count c.args.case.now)

-- they are to come besides
come : (c : goal.After-look) → to_come c.look.new.self ≡ below c ++ to_come c.args.self.now
come c = come_deeper c.args.case.now c.args.self.now c.look.new.self c.args.turn.now.owner (more c) c.requires.here (longer c) (levels c) (waits c)

-- the prefix is one step more than is below it, and the best is there
one_more : (c : goal.After-look) → (let x = c.args.self.now.path.items ++ c.args.turn.now.owner ∷ [] in let case = c.args.case.now in let rules = c.args.self.now.rules in
    (count case rules.floor rules.above (case.facts.goods - length x) x ≡ 1 + count_all case rules.floor rules.above (below c))
    × (best case rules.floor rules.above (case.facts.goods - length x) x (list_of c.args.self.now.best) ≡ best_all case rules.floor rules.above (below c) (list_of c.args.self.now.best)))
one_more c =
    inner c.bound_law.ensures.falls c.args.case.now c.args.self.now.rules.floor c.args.self.now.rules.above (c.args.self.now.path.items ++ c.args.turn.now.owner ∷ []) (list_of c.args.self.now.best) c.requires.case
    (short c) c.requires.counted

pub returns-else-len-case-clause-walk : goal.returns-else-len-case-clause-walk
returns-else-len-case-clause-walk c =
    walk_deeper c.args.case.now c.args.self.now c.look.new.self c.args.turn.now.owner (more c) c.requires.walk c.requires.here c.requires.owner_low c.requires.owner_high (longer c) (levels c) c.look.ensures.levels.2 (waits c)
    (subst (λ xs. length xs < c.args.case.now.facts.goods) (sym (longer c)) (short c)) ((ap (λ (w : Walk). w.table) c.look.ensures.frame) ∙ (ap (λ (w : Walk). w.table) c.descend-lanes.ensures.frame)) (subst (λ xs. IsFork c.args.case.now xs (more c).lanes) (sym (ap (λ (w : Walk). w.path.items) c.look.ensures.frame)) c.look.ensures.levels.3)
    ((ap (λ (w : Walk). w.rules) c.look.ensures.frame) ∙ (ap (λ (w : Walk). w.rules) c.descend-lanes.ensures.frame)) (subst (IsKept c.args.case.now) (sym ((ap (λ (w : Walk). w.best) c.look.ensures.frame) ∙ (ap (λ (w : Walk). w.best) c.descend-lanes.ensures.frame))) c.requires.walk.kept)

pub returns-else-len-case-clause-count : goal.returns-else-len-case-clause-count
returns-else-len-case-clause-count c =
    let floor = c.args.self.now.rules.floor in
    let above = c.args.self.now.rules.above in
    let before = to_come c.args.self.now in
    let split = count_all-append c.args.case.now floor above (below c) before in
    let cons = count_all-cons c.args.case.now floor above (c.args.self.now.path.items ++ c.args.turn.now.owner ∷ []) before in
    let same : count_all c.args.case.now floor above (to_come c.look.new.self) ≡ count_all c.args.case.now floor above (below c ++ before) = ap (count_all c.args.case.now floor above) (come c) in
    let own = (one_more c).0 in
    omega arith

pub returns-else-len-case-clause-best : goal.returns-else-len-case-clause-best
returns-else-len-case-clause-best c =
    let floor = c.args.self.now.rules.floor in
    let above = c.args.self.now.rules.above in
    let before = to_come c.args.self.now in
    ap (λ ws. best_all c.args.case.now floor above ws (list_of c.look.new.self.best)) (come c)
    ∙ ap (best_all c.args.case.now floor above (below c ++ before)) (ap list_of ((ap (λ (w : Walk). w.best) c.look.ensures.frame) ∙ (ap (λ (w : Walk). w.best) c.descend-lanes.ensures.frame)))
    ∙ best_all-append c.args.case.now floor above (below c) before (list_of c.args.self.now.best)
    ∙ ap (best_all c.args.case.now floor above before) (sym (one_more c).1)
