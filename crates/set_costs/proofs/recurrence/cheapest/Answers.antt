use Rattle.std.proofs.Common.{arith, ◌-◌, ℕ, List, ap, sym, map, min, length, take, drop, get_or, ◌∙◌}
use Rattle.std.specs.List.{fold}
use Rattle.std.proofs.lemmas.List.{get_or-map, length-map}
use Rattle.std.proofs.lemmas.List.Sums.{fold_more}
use Rattle.set_costs.specs.FirstStops.{cost_with}
use Rattle.set_costs.specs.declared.stops.FirstStop.{FirstStop}
use Rattle.set_costs.proofs.recurrence.cheapest.Goals as goal

pub loop-stop-preserved : goal.loop-stop-preserved
loop-stop-preserved c =
    let f : FirstStop → ℕ = cost_with c.args.case.now c.args.from in
    let others : List FirstStop = take (length c.args.stops.now - 1) (drop 1 c.args.stops.now) in
    let k = c.loop-stop.stop-index in
    let stop : FirstStop = get_or others k (record { place = 0; rest = 0 }) in
    let within = c.loop-stop-test.true in
    let long = length-map others f in
    let more = fold_more min c.cost_from-cost.result (map f others) k 0 (omega (arith, within, long)) in
    let at = get_or-map f others k (record { place = 0; rest = 0 }) 0 within in
    c.min-cost.ensures ∙ ap (λ cost. min cost c.cost_from.result) c.loop-stop.invariant
    ∙ ap (min (fold min c.cost_from-cost.result (take k (map f others)))) (c.cost_from.ensures ∙ sym at) ∙ sym more
