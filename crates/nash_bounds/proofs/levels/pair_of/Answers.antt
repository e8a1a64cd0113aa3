use Rattle.std.proofs.Common.{arith, rules, ◌≤◌, ◌+◌, ◌*◌, ◌^◌, get_or}
use Rattle.std.proofs.lemmas.List.Elements.{AllZip-get_or}
use Rattle.nash_bounds.proofs.NextEntries.{lifted_next, count_next, product_next, power_next, power_fits}
use Rattle.nash_bounds.proofs.levels.pair_of.Goals as goal
use Rattle.bid_rules.specs.declared.limits.TheConstants.{WHOLE_POINTS}

entry_within : (c : goal.After-from-product) → c.from-product.result ≤ WHOLE_POINTS
entry_within c =
    let here = c.loop-i-test.true in
    let there = c.requires.lengths in
    let order : get_or c.args.entries.now c.loop-i.i 0 ≤ get_or c.args.above.now c.loop-i.i 0 = AllZip-get_or ◌≤◌ c.args.entries.now c.args.above.now c.loop-i.i 0 0 c.requires.order (omega arith) in
    let small : get_or c.args.above.now c.loop-i.i 0 ≤ WHOLE_POINTS = c.requires.small c.loop-i.i 0 (omega arith) in
    omega (arith, c.from-product.ensures, c.max.ensures, c.min-step.ensures)

grown : (c : goal.After-from-product) → c.loop-i.product * c.from-product.result ≤ WHOLE_POINTS ^ (c.loop-i.i + 1)
grown c = power_next c.loop-i.product c.from-product.result c.loop-i.i c.loop-i.invariant.small (entry_within c)

pub overflow_mul-product : goal.overflow_mul-product
overflow_mul-product c = let h = power_fits (c.loop-i.product * c.from-product.result) (c.loop-i.i + 1) (grown c) (omega arith) in search rules

pub loop-i-preserved : goal.loop-i-preserved
loop-i-preserved c =
    let is = lifted_next c.loop-i.left c.args.entries.now c.args.above.now c.loop-i.i c.min-step.result (omega arith) (omega arith) (rw c.from.ensures at c.min-step.ensures) in
    record {
      few = omega (arith, c.min.ensures);
      small = grown c;
      count = rw (c.min.ensures, c.from-in-loop-i.ensures) (count_next c.loop-i.count _ (get_or c.args.entries.now c.loop-i.i 0 + c.min-step.result) _ _ is c.loop-i.invariant.count);
      product = rw (c.from-product.ensures, c.max.ensures, c.from-in-loop-i.ensures) (product_next c.loop-i.product _ (get_or c.args.entries.now c.loop-i.i 0 + c.min-step.result) _ _ is c.loop-i.invariant.product);
    }
