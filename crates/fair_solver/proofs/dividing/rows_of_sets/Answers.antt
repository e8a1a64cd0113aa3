use Rattle.std.proofs.Common.{arith, ◌≡◌, ◌<◌, ◌≤◌, ◌*◌, ◌^◌, ◌%◌, ◌∙◌, ◌++◌, ◌∷◌, [], ℕ, List, subst, sym, ap, length, map}
use Rattle.std.proofs.lemmas.List.{length-append, length-map, map-append}
use Rattle.std.proofs.lemmas.Nat.{one_shl}
use Rattle.std.proofs.Math.Nat.{pow-le-pow_right}
use Rattle.bid_rules.specs.declared.limits.TheConstants.{MOST_RIDERS}
use Rattle.bid_rules.specs.Coalitions.{riders_in}
use Rattle.set_costs.specs.Table.{ListsCosts, route_costs}
use Rattle.fair_solver.proofs.dividing.rows_of_sets.Goals as goal

pub loop-init : goal.loop-init
loop-init c =
    let case = c.args.case.now in
    let none = c.new-rows.ensures in
    record {
      count = ap length none;
      lists = subst (λ rows. ListsCosts case (map (λ row. row.items) rows)) (sym none) (c.rows_law.ensures.none case c.requires);
    }

pub next_row-row-requires-clause-rows : goal.next_row-row-requires-clause-rows
next_row-row-requires-clause-rows c = subst (λ rows. ListsCosts c.args.case.now (map (λ row. row.items) rows)) (sym c.as_slice.ensures.value) c.loop.invariant.lists

pub next_row-row-requires-clause-more : goal.next_row-row-requires-clause-more
next_row-row-requires-clause-more c =
    let case = c.args.case.now in
    let most = c.coalition_law.ensures.riders_count case c.requires in
    let power : 1 * 2 ^ c.len-sets.result % 2 ^ 64 ≡ 2 ^ c.len-sets.result = one_shl c.len-sets.result 64 (omega (arith, most, c.len-sets.ensures.value)) in
    let same = ap (λ n. 2 ^ n) c.len-sets.ensures.value in
    let test = c.loop-test.true in
    omega (arith, power, same, test, c.loop.invariant.count, ap length c.as_slice.ensures.value)

pub push-requires : goal.push-requires
push-requires c =
    let case = c.args.case.now in
    let most = c.coalition_law.ensures.riders_count case c.requires in
    let power : 1 * 2 ^ c.len-sets.result % 2 ^ 64 ≡ 2 ^ c.len-sets.result = one_shl c.len-sets.result 64 (omega (arith, most, c.len-sets.ensures.value)) in
    let same = ap (λ n. 2 ^ n) c.len-sets.ensures.value in
    let few : 2 ^ length case.at.items ≤ 2 ^ MOST_RIDERS = pow-le-pow_right {n = 2} (let some : 0 < 2 = omega arith in some) most in
    let test = c.loop-test.true in
    omega (arith, power, same, few, test, c.loop.invariant.count)

pub loop-preserved : goal.loop-preserved
loop-preserved c =
    let case = c.args.case.now in
    let old = c.loop.rows.items in
    let items = c.push.ensures.items in
    let most = c.coalition_law.ensures.riders_count case c.requires in
    let power : 1 * 2 ^ c.len-sets.result % 2 ^ 64 ≡ 2 ^ c.len-sets.result = one_shl c.len-sets.result 64 (omega (arith, most, c.len-sets.ensures.value)) in
    let same = ap (λ n. 2 ^ n) c.len-sets.ensures.value in
    let test = c.loop-test.true in
    let more : length old < 2 ^ length case.at.items = omega (arith, power, same, test, c.loop.invariant.count) in
    let row = c.next_row-row.ensures ∙ ap (λ rows. route_costs case (riders_in (length rows))) c.as_slice.ensures.value ∙ ap (λ n. route_costs case (riders_in n)) (sym (length-map old (λ row. row.items))) in
    record {
      count = (let long = ap length items ∙ length-append old _ in let count = c.loop.invariant.count in omega (arith, long, count));
      lists = subst (ListsCosts case) (sym (ap (map (λ row. row.items)) items ∙ map-append (λ row. row.items) old _ ∙ ap (λ (r : List ℕ). map (λ row. row.items) old ++ r ∷ []) row))
          (c.rows_law.ensures.more case (map (λ row. row.items) old) c.loop.invariant.lists (omega (arith, more, length-map old (λ row. row.items))));
    }

pub returns : goal.returns
returns c =
    let case = c.args.case.now in
    let most = c.coalition_law.ensures.riders_count case c.requires in
    let power : 1 * 2 ^ c.len-sets.result % 2 ^ 64 ≡ 2 ^ c.len-sets.result = one_shl c.len-sets.result 64 (omega (arith, most, c.len-sets.ensures.value)) in
    let same = ap (λ n. 2 ^ n) c.len-sets.ensures.value in
    let test = c.loop-test.false in
    let end = c.loop.auto.counter-end in
    record {
      lists = c.loop.invariant.lists;
      all = (let count = c.loop.invariant.count in omega (arith, power, same, test, end, count, length-map c.loop.rows.items (λ row. row.items)));
    }
