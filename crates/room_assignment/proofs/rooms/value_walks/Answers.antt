use Rattle.std.proofs.Common.{arith, ◌≡◌, ◌<◌, ◌≤◌, ◌∙◌, sym, subst, length, All, ◌*◌, unsigned_abs}
use Rattle.std.proofs.lemmas.List.Elements.{All-from_get_or}
use Rattle.bid_rules.specs.Rent.{room_count}
use Rattle.room_assignment.specs.declared.limits.TheConstants.{MOST_STEP}
use Rattle.split_lemmas.proofs.RoomPlaces.{rooms_length, room_range}
use Rattle.room_assignment.proofs.FoundRooms.{entries_keys, entries_square}
use Rattle.room_assignment.proofs.ValueSteps.{value_steps_no_cycle, value_weights, value_ranks, slice_below}
use Rattle.room_assignment.proofs.rooms.value_walks.Goals as goal

pub assign-plan-requires : goal.assign-plan-requires
assign-plan-requires c = entries_keys (room_count c.args.case.now) _ c.values_of-values.result c.values_of-values.ensures (let h = c.requires.case.facts.0 in omega (arith, h.0)) (let h = c.requires.case.facts.0 in omega (arith, h.1))

pub walk_matrix-steps-requires-clause-weights : goal.walk_matrix-steps-requires-clause-weights
walk_matrix-steps-requires-clause-weights c = entries_keys (room_count c.args.case.now) _ c.values_of-values.result c.values_of-values.ensures (let h = c.requires.case.facts.0 in omega (arith, h.0)) (let h = c.requires.case.facts.0 in omega (arith, h.1))

pub unnumbered-places-requires-clause-few : goal.unnumbered-places-requires-clause-few
unnumbered-places-requires-clause-few c = let h = c.requires.case.facts.0 in let e = rooms_length (room_count c.args.case.now) c.args.rooms.now c.requires.rooms.assignment in omega (arith, h.1, e)

pub unnumbered-places-requires-clause-low : goal.unnumbered-places-requires-clause-low
unnumbered-places-requires-clause-low c =
    let e = rooms_length (room_count c.args.case.now) c.args.rooms.now c.requires.rooms.assignment in
    All-from_get_or (λ room. 1 ≤ room) c.args.rooms.now 0 (λ i l. (room_range (room_count c.args.case.now) c.args.rooms.now i c.requires.rooms.assignment (omega (arith, e))).0)

pub walk_matrix-steps-requires-clause-count : goal.walk_matrix-steps-requires-clause-count
walk_matrix-steps-requires-clause-count c =
    (slice_below (room_count c.args.case.now) c.args.rooms.now c.as_slice.result.now c.requires.rooms.assignment (c.as_slice.ensures.value ∙ c.unnumbered-places.ensures)).1 ∙ sym c.values_of-values.ensures.rows_count

pub walk_matrix-steps-requires-clause-rooms : goal.walk_matrix-steps-requires-clause-rooms
walk_matrix-steps-requires-clause-rooms c =
    subst (λ n. All (λ room. room < n) c.as_slice.result.now) (sym c.values_of-values.ensures.rows_count)
    (slice_below (room_count c.args.case.now) c.args.rooms.now c.as_slice.result.now c.requires.rooms.assignment (c.as_slice.ensures.value ∙ c.unnumbered-places.ensures)).0

pub longest_walks-requires-clause-square : goal.longest_walks-requires-clause-square
longest_walks-requires-clause-square c = entries_square (length c.values_of-values.result.items) MOST_STEP _ c.walk_matrix-steps.result c.walk_matrix-steps.ensures (omega arith)

pub longest_walks-requires-clause-cycles : goal.longest_walks-requires-clause-cycles
longest_walks-requires-clause-cycles c = value_steps_no_cycle c.value_cycle_law.ensures c.args.case.now c.values_of-values.result c.walk_matrix-steps.result c.assign-plan.result c.args.rooms.now c.as_slice.result.now
    c.values_of-values.ensures c.assign-plan.ensures c.walk_matrix-steps.ensures c.requires.rooms (c.as_slice.ensures.value ∙ c.unnumbered-places.ensures)

pub returns-clause-weights : goal.returns-clause-weights
returns-clause-weights c = value_weights c.args.case.now c.values_of-values.result c.walk_matrix-steps.result c.args.rooms.now c.as_slice.result.now c.longest_walks.result.weights.items
    c.values_of-values.ensures c.walk_matrix-steps.ensures c.requires.rooms.assignment (c.as_slice.ensures.value ∙ c.unnumbered-places.ensures) c.longest_walks.ensures.weights

pub returns-clause-ranks : goal.returns-clause-ranks
returns-clause-ranks c = value_ranks c.args.case.now c.values_of-values.result c.walk_matrix-steps.result c.args.rooms.now c.as_slice.result.now c.longest_walks.result.weights.items c.longest_walks.result.ranks.items
    c.values_of-values.ensures c.walk_matrix-steps.ensures c.requires.rooms.assignment (c.as_slice.ensures.value ∙ c.unnumbered-places.ensures) c.longest_walks.ensures.ranks

pub returns-clause-small : goal.returns-clause-small
returns-clause-small c =
    let same : length c.walk_matrix-steps.result.items ≡ room_count c.args.case.now = c.walk_matrix-steps.ensures.rows_count ∙ c.values_of-values.ensures.rows_count in
    subst (λ n. All (λ z. unsigned_abs z ≤ MOST_STEP * n) c.longest_walks.result.weights.items) same c.longest_walks.ensures.small

pub returns-clause-below : goal.returns-clause-below
returns-clause-below c =
    let same : length c.walk_matrix-steps.result.items ≡ room_count c.args.case.now = c.walk_matrix-steps.ensures.rows_count ∙ c.values_of-values.ensures.rows_count in
    subst (λ n. All (λ rank. rank < n) c.longest_walks.result.ranks.items) same c.longest_walks.ensures.below
