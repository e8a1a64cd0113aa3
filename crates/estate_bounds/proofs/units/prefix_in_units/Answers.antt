use Rattle.std.proofs.Common.{◌≡◌, ◌/◌, ◌≤◌, ℕ, List, All, ap, sum, subst, sym, arith}
use Rattle.std.specs.List.{AllZip}
use Rattle.bid_rules.specs.declared.limits.TheConstants.{WHOLE_POINTS}
use Rattle.bid_rules.specs.Goods.{utilities}
use Rattle.nash_bounds.specs.Lanes.{has, may_have}
use Rattle.nash_bounds.specs.Prefixes.{highest, top_of}
use Rattle.estate_bounds.specs.Units.{in_units}
use Rattle.estate_bounds.proofs.Divisors.{unit_some}
use Rattle.estate_bounds.proofs.UnitBounds.{units_have}
use Rattle.estate_bounds.proofs.units.prefix_in_units.Goals as goal

pub in_units-requires-clause-some : goal.in_units-requires-clause-some
in_units-requires-clause-some c = (unit_some c.args.case.now c.args.unit c.requires.case c.requires.unit).1

pub in_units-requires-2-clause-some : goal.in_units-requires-2-clause-some
in_units-requires-2-clause-some c = (unit_some c.args.case.now c.args.unit c.requires.case c.requires.unit).1

pub nonzero_div-result : goal.nonzero_div-result
nonzero_div-result c = (unit_some c.args.case.now c.args.unit c.requires.case c.requires.unit).1

pub returns-clause-bound : goal.returns-clause-bound
returns-clause-bound c =
    let case = c.args.case.now in
    let owners = c.args.owners.now in
    let unit = c.args.unit in
    let have = units_have case unit owners c.requires.case c.requires.unit (c.search_order_law.ensures.once case) in
    let low : c.in_units.result.items ≡ in_units unit (utilities case owners) = c.in_units.ensures (has case owners) c.requires.lanes.is_low in
    let high : c.in_units-2.result.items ≡ in_units unit (highest case owners) = c.in_units-2.ensures (may_have case owners) c.requires.lanes.is_high in
    let top : c.args.lanes.now.top / unit ≡ top_of case owners / unit = ap (λ n. n / unit) c.requires.lanes.is_top in
    record {
      in_order = subst (λ (xs : List ℕ). AllZip ◌≤◌ xs c.in_units-2.result.items) (sym low) (subst (λ (xs : List ℕ). AllZip ◌≤◌ (in_units unit (utilities case owners)) xs) (sym high) have.in_order);
      small = subst (λ (xs : List ℕ). All (λ h. h ≤ WHOLE_POINTS) xs) (sym high) have.small;
      within_top = (let a : sum c.in_units.result.items ≡ sum (in_units unit (utilities case owners)) = ap sum low in let b = have.within_top in omega arith);
    }
