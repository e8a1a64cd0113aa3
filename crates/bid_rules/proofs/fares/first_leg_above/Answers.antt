use Rattle.std.proofs.Common.{arith, ◌+◌, ◌≤◌, All, flat_map, take, subst}
use Rattle.std.proofs.lemmas.List.{length-append}
use Rattle.std.proofs.lemmas.List.Elements.{All-append}
use Rattle.bid_rules.specs.declared.limits.TheConstants.{MOST_FARE_CENTS}
use Rattle.bid_rules.specs.Facts.{IsFirstAboveLimit}
use Rattle.bid_rules.proofs.Legs.{first_in_parts, parts_more}
use Rattle.bid_rules.proofs.fares.first_leg_above.Goals as goal

pub returns-in-Some-clause-cases : goal.returns-in-Some-clause-cases
returns-in-Some-clause-cases c =
    let rows = c.as_slice-row-items.result.now in
    let first = subst (λ ys. IsFirstAboveLimit ys c.in-Some.column) c.as_slice.ensures.value c.in-Some.ensures.cases in
    let found = first_in_parts (λ row. row.items) rows c.loop-row.row-index c.row-item.result c.loop-row.passed c.in-Some.column
    c.loop-row-test.true c.row-item.is c.loop-row.invariant.fits c.loop-row.invariant.passed first in
    subst (λ rs. IsFirstAboveLimit (flat_map (λ row. row.items) rs) (c.loop-row.passed + c.in-Some.column)) c.as_slice-row-items.ensures.value found

pub loop-row-preserved : goal.loop-row-preserved
loop-row-preserved c =
    let more = parts_more (λ row. row.items) c.as_slice-row-items.result.now c.loop-row.row-index c.row-item.result c.loop-row-test.true c.row-item.is in
    let before = flat_map (λ row. row.items) (take c.loop-row.row-index c.as_slice-row-items.result.now) in
    let fits = subst (λ ys. All (λ x. x ≤ MOST_FARE_CENTS) ys) c.as_slice.ensures.value c.in_default.ensures.cases in
    record {
      passed = rw more (omega (arith, length-append before c.row-item.result.items));
      small = omega arith;
      fits = rw more (All-append (λ x. x ≤ MOST_FARE_CENTS) before c.row-item.result.items c.loop-row.invariant.fits fits);
    }
