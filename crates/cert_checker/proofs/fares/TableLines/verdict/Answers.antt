use Rattle.std.proofs.Common.{arith, ◌≡◌, ◌∙◌, ◌^◌, List, All, true, ap, subst, sym, length, map}
use Rattle.std.proofs.lemmas.List.{length-map}
use Rattle.split_frac.specs.Frac.{fraction_of}
use Rattle.fare_rules.specs.State.{costs_of}
use Rattle.cert_reader.specs.Gathered.{Gathered, numbers_at}
use Rattle.cert_reader.specs.Numbers.{IsNumber}
use Rattle.cert_reader.specs.Text.{wholes}
use Rattle.cert_checker.proofs.SaidLists.{wholes_once}
use Rattle.cert_checker.proofs.TableParts.{last_lines, line_at_place, short_said}
use Rattle.cert_checker.proofs.fares.TableLines.verdict.Goals as goal

pub row_at-route-requires : goal.row_at-route-requires
row_at-route-requires c =
    let view = c.requires.0 in
    let last = last_lines view c.requires.1 c.args.self.now (costs_of c.args.rows.now.items) c.requires.3 c.requires.4 in
    let seen = c.as_slice.ensures.value in
    let at : numbers_at c.as_slice.result.now 0 ≡ wholes view.route = ap (λ (lines : List Gathered). numbers_at lines 0) seen ∙ last.route in
    let two = last.two in
    let each = c.requires.2.each in
    let riders = c.requires.2.riders in
    let long = ap length at ∙ length-map view.route (λ number. (number, 1)) in
    (omega arith, (omega (arith, ap length seen), (omega arith, subst (All (IsNumber true)) (sym at) c.requires.2.route)))

pub bounds-deref-1 : goal.bounds-deref-1
bounds-deref-1 c =
    let last = last_lines c.requires.0 c.requires.1 c.args.self.now (costs_of c.args.rows.now.items) c.requires.3 c.requires.4 in
    let two = last.two in
    omega (arith, ap length c.deref.ensures.0)

pub end_fares-requires-clause-short : goal.end_fares-requires-clause-short
end_fares-requires-clause-short c =
    let view = c.requires.0 in
    let last = last_lines view c.requires.1 c.args.self.now (costs_of c.args.rows.now.items) c.requires.3 c.requires.4 in
    short_said c.as_slice-3.result.now view.fares
    (ap (map fraction_of) c.as_slice-3.ensures.value ∙ line_at_place c.args.self.now.last.items c.deref.result.now c.index-deref-1.result 1 c.deref.ensures.0 (let two = last.two in omega arith) c.index-deref-1.is ∙ last.fares) c.requires.2.fares

pub returns : goal.returns
returns c view said whole e h =
    let last = last_lines view said c.args.self.now (costs_of c.args.rows.now.items) e h in
    let riders = whole.stops in
    c.end_fares.ensures view last.stands (whole.count ∙ ap (λ n. 2 ^ n) (sym riders))
    (sym (c.as_slice-2.ensures.value ∙ wholes_once c.row_at-route.result.items view.route (c.row_at-route.ensures.said ∙ ap (λ (lines : List Gathered). numbers_at lines 0) c.as_slice.ensures.value ∙ last.route)))
    (sym
    (ap (map fraction_of) c.as_slice-3.ensures.value ∙ line_at_place c.args.self.now.last.items c.deref.result.now c.index-deref-1.result 1 c.deref.ensures.0 (let two = last.two in omega arith) c.index-deref-1.is ∙ last.fares))
    (whole.each ∙ sym riders) (whole.paid ∙ sym riders)
