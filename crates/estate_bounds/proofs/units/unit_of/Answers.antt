use Rattle.std.proofs.Common.{◌<◌, ◌≤◌, List, arith, ap, ◌∙◌, get_or, length, subst, sym}
use Rattle.std.proofs.lemmas.Nat.Gcd.{le_of_dvd}
use Rattle.bid_rules.specs.declared.limits.TheConstants.{WHOLE_POINTS}
use Rattle.bid_rules.specs.Goods.{player_count}
use Rattle.estate_bounds.proofs.Divisors.{DividesRows, Row, row_here, rows_more, rows_none, unit_is}
use Rattle.estate_bounds.proofs.units.unit_of.Goals as goal

pub loop-k-init : goal.loop-k-init
loop-k-init c = record {
  some = (let e = c.from-unit.ensures in omega arith);
  divides = subst (DividesRows WHOLE_POINTS c.args.case.now.values.items 0) (sym c.from-unit.ensures) (rows_none WHOLE_POINTS c.args.case.now.values.items);
}

pub loop-k-preserved : goal.loop-k-preserved
loop-k-preserved c =
    let here : c.loop-k.k < length c.args.case.now.values.items = (let a = c.loop-k-test.true in let b = c.len-k-end.ensures.value in omega arith) in
    record {
      some = c.common_divisor-unit.ensures.some;
      divides = rows_more WHOLE_POINTS c.args.case.now.values.items c.loop-k.k c.loop-k.unit c.common_divisor-unit.result c.as_slice.result.now
          (c.as_slice.ensures.value ∙ ap (λ (r : Row). r.items) (c.index-deref-k.is ∙ ap (λ (xs : List Row). get_or xs c.loop-k.k c.index-deref-k.result) c.deref.ensures.0 ∙ row_here c.args.case.now.values.items c.loop-k.k c.index-deref-k.result here))
          c.common_divisor-unit.ensures.divisor c.loop-k.invariant.divides;
    }

pub overflow_cast-result : goal.overflow_cast-result
overflow_cast-result c = (let h = le_of_dvd {m = c.loop-k.unit} {n = WHOLE_POINTS} (omega arith) c.loop-k.invariant.divides.of_first in omega arith)

pub returns : goal.returns
returns c =
    let past : player_count c.args.case.now ≤ c.loop-k.k = (let a = c.loop-k-test.false in let b = c.len-k-end.ensures.value in omega arith) in
    unit_is c.args.case.now c.loop-k.k c.loop-k.unit c.requires past c.loop-k.invariant.divides
