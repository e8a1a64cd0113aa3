use Rattle.std.proofs.Common.{arith, ◌≡◌, ◌+◌, ◌++◌, ◌∷◌, [], All, ap, sym, subst, map, take, get_or, ◌∙◌, suc}
use Rattle.std.proofs.Math.Seq.{take-suc}
use Rattle.std.proofs.lemmas.List.{map-append}
use Rattle.std.proofs.lemmas.List.Elements.{All-push}
use Rattle.set_costs.specs.FirstStops.{IsKnownStop, stop_of}
use Rattle.set_costs.proofs.recurrence.first_stops.Goals as goal

pub loop-rider-preserved : goal.loop-rider-preserved
loop-rider-preserved c =
    let case = c.args.case.now in
    let set = c.args.set in
    let riders = c.as_slice-rider-items.result.now in
    let k = c.loop-rider.rider-index in
    let old = c.loop-rider.stops.items in
    let next : k + 1 ≡ suc k = omega arith in
    record {
      values = c.push.ensures.items ∙ ap (λ stops. stops ++ c.first_stop.result ∷ []) c.loop-rider.invariant.values
          ∙ ap (λ stop. map (stop_of case set) (take k riders) ++ stop ∷ []) c.first_stop.ensures.value
          ∙ sym (ap (λ n. map (stop_of case set) (take n riders)) next ∙ ap (map (stop_of case set)) (take-suc riders k 0 c.loop-rider-test.true)
          ∙ map-append (stop_of case set) (take k riders) (get_or riders k 0 ∷ []));
      known = subst (All (IsKnownStop case)) (sym c.push.ensures.items) (All-push (IsKnownStop case) old c.first_stop.result c.loop-rider.invariant.known c.first_stop.ensures.known);
    }
