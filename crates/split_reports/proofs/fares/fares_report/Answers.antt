use Rattle.std.proofs.Common.{◌≡◌, length, map, ap, ◌∙◌, pos, to_z, of_z, w64, arith}
use Rattle.std.proofs.lemmas.Int.{ints}
use Rattle.std.proofs.lemmas.Result.{IfOk-weaker}
use Rattle.std.proofs.lemmas.List.{length-map}
use Rattle.std.proofs.lemmas.List.FromFn.{length-map-range_with_len}
use Rattle.bid_rules.specs.Cents.{cent_plan}
use Rattle.split_frac.specs.Frac.{fraction_of}
use Rattle.split_reports.specs.Names.{shown_names}
use Rattle.split_reports.specs.Fares.{fares_report}
use Rattle.split_reports.proofs.FareReports.{fare_count, route_riders}
use Rattle.split_reports.proofs.fares.fares_report.Goals as goal

pub fares_text-requires-clause-route : goal.fares_text-requires-clause-route
fares_text-requires-clause-route c = route_riders c.orders_law.ensures.listed c.args.case.now c.args.division.now c.requires.case c.requires.division

pub invariant_of-riders-clause-each_fare : goal.invariant_of-riders-clause-each_fare
invariant_of-riders-clause-each_fare c = ap length c.as_slice-2.ensures.value ∙ fare_count c.args.case.now c.args.division.now c.requires.case c.requires.division

pub invariant_of-riders-clause-each_pays : goal.invariant_of-riders-clause-each_pays
invariant_of-riders-clause-each_pays c =
    ap length (c.as_slice-3.ensures.value ∙ c.cent_plan-pays.ensures.plan) ∙ length-map-range_with_len _ 0 _ ∙ length-map _ fraction_of
    ∙ ap length c.as_slice.ensures.value ∙ fare_count c.args.case.now c.args.division.now c.requires.case c.requires.division

pub returns : goal.returns
returns c =
    let division = c.args.division.now in
    let case = c.args.case.now in
    let given = shown_names c.args.names.now in
    let amounts : c.as_slice.result.now ≡ division.fares.items = c.as_slice.ensures.value in
    let fares : c.as_slice-2.result.now ≡ division.fares.items = c.as_slice-2.ensures.value in
    let whole : to_z w64 (of_z w64 c.from.result) ≡ pos division.total = omega (arith, ints) in
    let pays : c.as_slice-3.result.now ≡ cent_plan (map fraction_of division.fares.items) (pos division.total) =
    c.as_slice-3.ensures.value ∙ c.cent_plan-pays.ensures.plan ∙ ap (λ xs. cent_plan (map fraction_of xs) (to_z w64 (of_z w64 c.from.result))) amounts ∙ ap (cent_plan (map fraction_of division.fares.items)) whole in
    let same = ap (λ xs. fares_report given case division.total division.route.items xs c.as_slice-3.result.now) fares ∙ ap (fares_report given case division.total division.route.items division.fares.items) pays in
    IfOk-weaker c.fares_text.result _ _ (λ text h. h ∙ same) c.fares_text.ensures
