use Rattle.std.proofs.Common.{arith, ◌∙◌, ◌-◌, ◌<◌, ◌++◌, ◌∷◌, [], List, ℤ, All, true, ap, refl, subst, sym, length, map, take, drop, length-take}
use Rattle.split_frac.specs.declared.frac.Frac.{Frac}
use Rattle.split_frac.specs.Frac.{fraction_of}
use Rattle.cert_reader.specs.Numbers.{IsNumber}
use Rattle.fare_rules.specs.State.{StandsFor, costs_of}
use Rattle.cert_checker.specs.declared.fares.TableLines.{TableLines}
use Rattle.cert_checker.proofs.SaidLists.{wholes_once}
use Rattle.cert_checker.proofs.TableParts.{behind_set, last_room, next_set, row_of_set, set_within, some_in_set}
use Rattle.cert_checker.proofs.fares.TableLines.take.Goals as goal

pub gather-requires : goal.gather-requires
gather-requires c = (let room = last_room c.requires.0 c.requires.1 (map fraction_of c.args.numbers.now.items) c.args.self.now (costs_of c.args.rows.now.items) c.requires.2 c.requires.3 c.if-self-eq0.true in (omega arith, omega arith))

pub slice_bounds-whole_row-count : goal.slice_bounds-whole_row-count
slice_bounds-whole_row-count c =
    let set = next_set c.requires.0 c.requires.1 (map fraction_of c.args.numbers.now.items) c.args.self.now (costs_of c.args.rows.now.items) c.requires.2 c.requires.3 (let some = c.if-self-eq0.false in omega arith) in
    let some = some_in_set c.args.numbers.now c.requires.3.taken c.requires.3.more set in
    omega (arith, ap length c.as_slice.ensures.value)

pub slice_bounds-whole_row-start : goal.slice_bounds-whole_row-start
slice_bounds-whole_row-start c =
    let set = next_set c.requires.0 c.requires.1 (map fraction_of c.args.numbers.now.items) c.args.self.now (costs_of c.args.rows.now.items) c.requires.2 c.requires.3 (let some = c.if-self-eq0.false in omega arith) in
    let some = some_in_set c.args.numbers.now c.requires.3.taken c.requires.3.more set in
    omega (arith, ap length c.as_slice.ensures.value)

pub whole_row-row-requires : goal.whole_row-row-requires
whole_row-row-requires c =
    let set = next_set c.requires.0 c.requires.1 (map fraction_of c.args.numbers.now.items) c.args.self.now (costs_of c.args.rows.now.items) c.requires.2 c.requires.3 (let some = c.if-self-eq0.false in omega arith) in
    let row = ap (λ (xs : List Frac). map fraction_of (take (length xs - 1) (drop 1 xs))) c.as_slice.ensures.value ∙ row_of_set c.args.numbers.now c.requires.3.taken c.requires.3.more set in
    let short = c.as_slice.ensures.fits in
    let cut = length-take {A = Frac} (length c.as_slice.result.now - 1) (drop 1 c.as_slice.result.now) in
    (omega arith, (omega (arith, cut, short), subst (All (IsNumber true)) (sym row) set.written))

pub returns-else-self-eq0 : goal.returns-else-self-eq0
returns-else-self-eq0 c view said next h =
    let old = c.args.self.now in
    let new : TableLines = record { state = c.take_set.new.state; left = old.left - 1; last = old.last } in
    let left = h.left in
    let some : 0 < old.left = (let some = c.if-self-eq0.false in omega arith) in
    let set = next_set view said (map fraction_of c.args.numbers.now.items) old (costs_of c.args.rows.now.items) next h some in
    let row = ap (λ (xs : List Frac). map fraction_of (take (length xs - 1) (drop 1 xs))) c.as_slice.ensures.value ∙ row_of_set c.args.numbers.now h.taken h.more set in
    let read = wholes_once c.whole_row-row.result.items set.row (c.whole_row-row.ensures.said ∙ row) in
    let stands = c.take_set.ensures.stands view h.taken h.stands (set_within view h.taken h.more next.whole h.sets (omega arith)) in
    behind_set view said c.args.numbers.now old new (costs_of c.args.rows.now.items) (costs_of c.take_set.new.rows.items) h some set c.take_set.ensures.state
    (subst (λ (line : List ℤ). StandsFor view (h.taken ++ line ∷ []) c.take_set.new.state (costs_of c.take_set.new.rows.items)) (c.as_slice-else-self-eq0.ensures.value ∙ read) stands) (omega arith) refl
