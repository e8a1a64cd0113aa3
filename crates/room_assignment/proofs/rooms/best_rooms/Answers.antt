use Rattle.std.proofs.Common.{arith, ◌<◌, ◌≤◌, ◌*◌, ◌∙◌, ap, sym, subst, length, All, unsigned_abs}
use Rattle.std.proofs.lemmas.List.Elements.{All-weaker}
use Rattle.bid_rules.specs.declared.limits.TheConstants.{MOST_MEMBERS}
use Rattle.bid_rules.specs.Rent.{room_count}
use Rattle.room_assignment.specs.Matrix.{entry}
use Rattle.bid_rules.specs.Keys.{HasGreatestKeySum}
use Rattle.room_assignment.specs.declared.limits.TheConstants.{DUAL_LIMIT, MOST_STEP}
use Rattle.split_lemmas.proofs.Permutations.{permutation_length}
use Rattle.room_assignment.proofs.FoundRooms.{entries_keys, entries_square, plan_rooms, rooms_below, rights_small, steps_no_cycle, best_of_parts, AreFoundRooms}
use Rattle.room_assignment.proofs.rooms.best_rooms.Goals as goal

pub assign-plan-requires : goal.assign-plan-requires
assign-plan-requires c = entries_keys (room_count c.args.case.now) _ c.keys_of-keys.result c.keys_of-keys.ensures (let h = c.requires.facts.0 in omega (arith, h.0)) (let h = c.requires.facts.0 in omega (arith, h.1))

pub walk_matrix-steps-requires-clause-weights : goal.walk_matrix-steps-requires-clause-weights
walk_matrix-steps-requires-clause-weights c = entries_keys (room_count c.args.case.now) _ c.keys_of-keys.result c.keys_of-keys.ensures (let h = c.requires.facts.0 in omega (arith, h.0)) (let h = c.requires.facts.0 in omega (arith, h.1))

pub walk_matrix-steps-requires-clause-count : goal.walk_matrix-steps-requires-clause-count
walk_matrix-steps-requires-clause-count c = permutation_length 0 (length c.keys_of-keys.result.items) c.as_slice.result.now
    (plan_rooms c.keys_of-keys.result c.assign-plan.result (length c.keys_of-keys.result.items) c.as_slice.result.now c.assign-plan.ensures c.as_slice.ensures.value)

pub walk_matrix-steps-requires-clause-rooms : goal.walk_matrix-steps-requires-clause-rooms
walk_matrix-steps-requires-clause-rooms c = rooms_below (length c.keys_of-keys.result.items) c.as_slice.result.now
    (plan_rooms c.keys_of-keys.result c.assign-plan.result (length c.keys_of-keys.result.items) c.as_slice.result.now c.assign-plan.ensures c.as_slice.ensures.value)

pub longest_walks-walks-requires-clause-square : goal.longest_walks-walks-requires-clause-square
longest_walks-walks-requires-clause-square c = entries_square (length c.keys_of-keys.result.items) MOST_STEP _ c.walk_matrix-steps.result c.walk_matrix-steps.ensures (omega arith)

pub longest_walks-walks-requires-clause-cycles : goal.longest_walks-walks-requires-clause-cycles
longest_walks-walks-requires-clause-cycles c = steps_no_cycle c.potential_law.ensures c.keys_of-keys.result c.walk_matrix-steps.result c.assign-plan.result c.as_slice.result.now c.assign-plan.ensures c.as_slice.ensures.value c.walk_matrix-steps.ensures

pub rights-right-requires-clause-keys : goal.rights-right-requires-clause-keys
rights-right-requires-clause-keys c = entries_keys (room_count c.args.case.now) _ c.keys_of-keys.result c.keys_of-keys.ensures (let h = c.requires.facts.0 in omega (arith, h.0)) (let h = c.requires.facts.0 in omega (arith, h.1))

pub rights-right-requires-clause-rooms : goal.rights-right-requires-clause-rooms
rights-right-requires-clause-rooms c = plan_rooms c.keys_of-keys.result c.assign-plan.result (length c.keys_of-keys.result.items) c.as_slice-2.result.now c.assign-plan.ensures c.as_slice-2.ensures.value

pub rights-right-requires-clause-count : goal.rights-right-requires-clause-count
rights-right-requires-clause-count c = permutation_length 0 (length c.keys_of-keys.result.items) c.as_slice-2.result.now
    (plan_rooms c.keys_of-keys.result c.assign-plan.result (length c.keys_of-keys.result.items) c.as_slice-2.result.now c.assign-plan.ensures c.as_slice-2.ensures.value)

pub rights-right-requires-clause-small : goal.rights-right-requires-clause-small
rights-right-requires-clause-small c =
    let few : length c.walk_matrix-steps.result.items ≤ 12 = let h = c.requires.facts.0 in omega (arith, h.1, c.walk_matrix-steps.ensures.rows_count, c.keys_of-keys.ensures.rows_count) in
    subst (λ zs. All (λ z. unsigned_abs z ≤ MOST_MEMBERS * MOST_STEP) zs) (sym c.as_slice-3.ensures.value)
    (All-weaker (λ z. unsigned_abs z ≤ MOST_STEP * length c.walk_matrix-steps.result.items) (λ z. unsigned_abs z ≤ MOST_MEMBERS * MOST_STEP) (λ z a. omega (arith, a, few)) c.longest_walks-walks.result.weights.items c.longest_walks-walks.ensures.small)

pub numbered-requires-clause-small : goal.numbered-requires-clause-small
numbered-requires-clause-small c =
    let few : length c.keys_of-keys.result.items ≤ 12 = let h = c.requires.facts.0 in omega (arith, h.1, c.keys_of-keys.ensures.rows_count) in
    All-weaker (λ z. z < length c.keys_of-keys.result.items) (λ z. z < 12) (λ z a. omega (arith, a, few)) c.as_slice-4.result.now
    (rooms_below (length c.keys_of-keys.result.items) c.as_slice-4.result.now (plan_rooms c.keys_of-keys.result c.assign-plan.result (length c.keys_of-keys.result.items) c.as_slice-4.result.now c.assign-plan.ensures c.as_slice-4.ensures.value))

found : (c : goal.After-numbered) → AreFoundRooms c.args.case.now c.numbered.result.items c.longest_walks-walks.result.weights.items c.rights-right.result.items
found c = best_of_parts c.args.case.now c.keys_of-keys.result c.walk_matrix-steps.result c.assign-plan.result c.as_slice.result.now c.as_slice-2.result.now c.as_slice-4.result.now c.numbered.result.items
    c.longest_walks-walks.result.weights.items c.rights-right.result.items c.as_slice-3.result.now
    c.keys_of-keys.ensures c.assign-plan.ensures c.walk_matrix-steps.ensures c.longest_walks-walks.ensures.weights c.rights-right.ensures.count c.rights-right.ensures.each
    c.as_slice.ensures.value c.as_slice-2.ensures.value c.as_slice-4.ensures.value c.as_slice-3.ensures.value c.numbered.ensures

best : (c : goal.After-numbered) → HasGreatestKeySum c.args.case.now c.numbered.result.items
best c = let f = found c in c.key_law.ensures.dual c.args.case.now c.numbered.result.items c.longest_walks-walks.result.weights.items c.rights-right.result.items f.assignment f.dual

pub returns-clause-rooms : goal.returns-clause-rooms
returns-clause-rooms c = best c

pub returns-clause-only : goal.returns-clause-only
returns-clause-only c others h = c.key_law.ensures.only c.args.case.now c.numbered.result.items others (best c) h

pub returns-clause-welfare : goal.returns-clause-welfare
returns-clause-welfare c = c.key_law.ensures.welfare c.args.case.now c.numbered.result.items (best c)

pub returns-clause-first : goal.returns-clause-first
returns-clause-first c = c.key_law.ensures.first c.args.case.now c.numbered.result.items (best c)

pub returns-clause-left : goal.returns-clause-left
returns-clause-left c = (found c).lefts

pub returns-clause-dual : goal.returns-clause-dual
returns-clause-dual c = (found c).dual

-- the numbers of the members are small
lefts : (c : goal.After-numbered) → All (λ z. unsigned_abs z ≤ MOST_MEMBERS * MOST_STEP) c.longest_walks-walks.result.weights.items
lefts c =
    let few : length c.walk_matrix-steps.result.items ≤ 12 = let h = c.requires.facts.0 in omega (arith, h.1, c.walk_matrix-steps.ensures.rows_count, c.keys_of-keys.ensures.rows_count) in
    All-weaker (λ z. unsigned_abs z ≤ MOST_STEP * length c.walk_matrix-steps.result.items) (λ z. unsigned_abs z ≤ MOST_MEMBERS * MOST_STEP) (λ z a. omega (arith, a, few)) c.longest_walks-walks.result.weights.items c.longest_walks-walks.ensures.small

pub returns-clause-left_small : goal.returns-clause-left_small
returns-clause-left_small c = All-weaker (λ z. unsigned_abs z ≤ MOST_MEMBERS * MOST_STEP) (λ z. unsigned_abs z < DUAL_LIMIT) (λ z a. omega (arith, a)) c.longest_walks-walks.result.weights.items (lefts c)

pub returns-clause-right_small : goal.returns-clause-right_small
returns-clause-right_small c =
    let keys = entries_keys (room_count c.args.case.now) _ c.keys_of-keys.result c.keys_of-keys.ensures (let h = c.requires.facts.0 in omega (arith, h.0)) (let h = c.requires.facts.0 in omega (arith, h.1)) in
    let read = c.as_slice-3.ensures.value in
    rights_small (length c.keys_of-keys.result.items) (entry c.keys_of-keys.result) c.as_slice-2.result.now c.as_slice-3.result.now c.rights-right.result.items c.rights-right.ensures.count keys.keys_small
    (ap length read ∙ c.longest_walks-walks.ensures.weights.count ∙ c.walk_matrix-steps.ensures.rows_count)
    (subst (λ zs. All (λ z. unsigned_abs z ≤ MOST_MEMBERS * MOST_STEP) zs) (sym read) (lefts c)) c.rights-right.ensures.each
