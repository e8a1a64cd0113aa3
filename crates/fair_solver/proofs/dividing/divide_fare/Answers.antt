use Rattle.std.proofs.Common.{◌≡◌, All, List, ℕ, map, subst, refl}
use Rattle.split_frac.specs.Frac.{fraction_of}
use Rattle.split_frac.specs.declared.frac.Frac.{Frac}
use Rattle.bid_rules.specs.declared.cases.Case.TheVariants.{Fares}
use Rattle.bid_rules.specs.declared.cases.FareCase.{FareCase}
use Rattle.bid_rules.specs.Fares.{FareBest}
use Rattle.certificates.specs.Canonical.{canonical_text}
use Rattle.certificates.specs.declared.division.Division.TheVariants as division
use Rattle.shapley_core.specs.declared.division.FareDivision.{FareDivision}
use Rattle.shapley_core.specs.Division.{IsFareDivision, IsFareInRange}
use Rattle.certificates.specs.FareDivisions.{division_of}
use Rattle.certificates.specs.Puts.{Puts}
use Rattle.fair_solver.proofs.dividing.divide_fare.Goals as goal

pub returns : goal.returns
returns c =
    let case = c.args.case.now in
    let costs = c.new-costs.result in
    let same : costs ≡ case = c.new-costs.ensures in
    let fares = c.best_shares-shares.result.fares.items in
    let route = c.best_shares-shares.result.route.items in
    let best : FareBest case (map fraction_of fares) route = subst (λ (k : FareCase). FareBest k (map fraction_of fares) route) same c.best_shares-shares.ensures.best in
    let shown : FareDivision = division_of case fares route in
    let is : IsFareDivision case shown = record {
      best = best;
      total = refl;
      sum = c.best_fares_law.ensures.total case (map fraction_of fares) route best;
      costs = refl;
      few_riders = c.coalition_law.ensures.riders_count case c.requires;
      ranges = subst (λ m. All (IsFareInRange m) fares) c.len-count.ensures.value c.best_shares-shares.ensures.ranges;
    } in
    let put = subst (λ (r : List ℕ). Puts (canonical_text (Fares case) (division.Fares (division_of case fares r))) 0 c.args.text.now c.put_fares.new.text c.put_fares.result) c.as_slice-route.ensures.value
    (subst (λ (f : List Frac). Puts (canonical_text (Fares case) (division.Fares (division_of case f c.as_slice-route.result.now))) 0 c.args.text.now c.put_fares.new.text c.put_fares.result) c.as_slice-fares.ensures.value c.put_fares.ensures) in
    (shown, is, put)
