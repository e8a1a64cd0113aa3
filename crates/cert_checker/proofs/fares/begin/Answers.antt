use Rattle.std.proofs.Common.{arith, ◌∙◌, ◌-◌, ◌^◌, ◌∷◌, ◌++◌, [], List, All, true, ap, refl, subst, sym, length, map, take, drop, to_z, of_z}
use Rattle.std.specs.Int.{w128}
use Rattle.std.proofs.lemmas.Int.{fits_signed_from_abs, to_z-of_z}
use Rattle.std.proofs.lemmas.List.{append-nil, length-map}
use Rattle.fare_rules.specs.State.{costs_of}
use Rattle.cert_reader.specs.Gathered.{Gathered, line_said}
use Rattle.cert_reader.specs.Numbers.{IsNumber}
use Rattle.cert_reader.specs.Views.{says}
use Rattle.cert_checker.specs.FaresLines.{front_said, head_said}
use Rattle.cert_checker.proofs.HeadParts.{at_in_head, head_all, legs_in_head, number_in_head, number_once, rows_once, rows_short, rows_whole, stands_so, who_in_head}
use Rattle.cert_checker.proofs.SaidLists.{wholes_once}
use Rattle.cert_checker.proofs.fares.begin.Goals as goal

pub rows_of-legs-requires : goal.rows_of-legs-requires
rows_of-legs-requires c =
    let view = c.requires.0 in
    let whole = c.requires.1 in
    let lines = c.args.lines.now in
    let long = head_all view lines whole c.requires.2 in
    let rows = whole.rows in
    let most = whole.places in
    let many = length lines - 1 - 1 - 3 in
    let legs = legs_in_head view lines many c.requires.2 (omega arith) in
    let each = sym (length-map (take many (drop 3 lines)) line_said) ∙ ap length legs ∙ length-map view.legs says in
    (omega arith, (omega arith, (omega (arith, each), (rows_short (take many (drop 3 lines)) view.legs view.places 12 legs whole.columns (omega arith), rows_whole (take many (drop 3 lines)) view.legs legs whole.legs))))

pub row_at-members-requires : goal.row_at-members-requires
row_at-members-requires c =
    let view = c.requires.0 in
    let whole = c.requires.1 in
    let lines = c.args.lines.now in
    let long = head_all view lines whole c.requires.2 in
    let rows = whole.rows in
    let riders = whole.riders in
    let who = number_in_head view lines [] (length lines - 1 - 1) view.who (sym c.requires.2 ∙ sym (append-nil (map line_said lines))) (omega arith) (who_in_head view (length lines - 1 - 1) (omega arith)) in
    let each = ap length who ∙ length-map view.who (λ number. (number, 1)) in
    (omega arith, (omega arith, (omega (arith, each), subst (All (IsNumber true)) (sym who) whole.who)))

pub row_at-stops-requires : goal.row_at-stops-requires
row_at-stops-requires c =
    let view = c.requires.0 in
    let whole = c.requires.1 in
    let lines = c.args.lines.now in
    let long = head_all view lines whole c.requires.2 in
    let rows = whole.rows in
    let riders = whole.riders in
    let stops = whole.stops in
    let at = number_in_head view lines [] (length lines - 1) view.at (sym c.requires.2 ∙ sym (append-nil (map line_said lines))) (omega arith) (at_in_head view (length lines - 1) (omega arith)) in
    let each = ap length at ∙ length-map view.at (λ number. (number, 1)) in
    (omega arith, (omega arith, (omega (arith, each), subst (All (IsNumber true)) (sym at) whole.at)))

pub number_at-requires-clause-whole : goal.number_at-requires-clause-whole
number_at-requires-clause-whole c =
    let view = c.requires.0 in
    let whole = c.requires.1 in
    let lines = c.args.lines.now in
    let long = head_all view lines whole c.requires.2 in
    subst (All (IsNumber true)) (sym (number_in_head view lines [] 2 (view.flag ∷ []) (sym c.requires.2 ∙ sym (append-nil (map line_said lines))) (omega arith) refl)) whole.flag

pub returns : goal.returns
returns c view whole e =
    let lines = c.args.lines.now in
    let long = head_all view lines whole e in
    let rows = whole.rows in
    let is = sym e ∙ sym (append-nil (map line_said lines)) in
    let flag = number_in_head view lines [] 2 (view.flag ∷ []) is (omega arith) refl in
    let who = number_in_head view lines [] (length lines - 1 - 1) view.who is (omega arith) (who_in_head view (length lines - 1 - 1) (omega arith)) in
    let at = number_in_head view lines [] (length lines - 1) view.at is (omega arith) (at_in_head view (length lines - 1) (omega arith)) in
    let legs = legs_in_head view lines (length lines - 1 - 1 - 3) e (omega arith) in
    let members = wholes_once c.row_at-members.result.items view.who (c.row_at-members.ensures.said ∙ who) in
    let count = whole.count in
    let many = c.set_count.ensures ∙ ap (λ n. 2 ^ n - 1) (c.len.ensures.value ∙ ap length members) in
    record {
      state = c.start_fares-state.ensures.state;
      taken = [];
      more = view.sets;
      sets = refl;
      left = (omega (arith, many, count));
      stands = stands_so view c.start_fares-state.result (costs_of c.start_fares-state.new.rows.items) c.places_of.result (to_z w128 (of_z w128 c.number_at.result)) (map (λ row. row.items) c.as_slice.result.now) c.as_slice-2.result.now c.as_slice-3.result.now
          (c.places_of.ensures view [] whole is) (to_z-of_z w128 c.number_at.result (fits_signed_from_abs w128 c.number_at.result (let small = c.number_at.ensures.small in omega arith)) ∙ number_once c.number_at.result view.flag (c.number_at.ensures.said ∙ flag))
          (ap (map (λ row. row.items)) c.as_slice.ensures.value ∙ rows_once (map (λ row. row.items) c.rows_of-legs.result.items) view.legs (c.rows_of-legs.ensures.said ∙ legs)) (c.as_slice-2.ensures.value ∙ members)
          (c.as_slice-3.ensures.value ∙ wholes_once c.row_at-stops.result.items view.at (c.row_at-stops.ensures.said ∙ at)) c.start_fares-state.ensures.stands;
      order = λ some. absurd (omega (arith, some, ap length c.new.ensures));
      is = ap front_said (e ∙ sym (append-nil (head_said view)) ∙ ap (λ (last : List Gathered). head_said view ++ map line_said last) (sym c.new.ensures));
    }
