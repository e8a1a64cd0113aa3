use Rattle.std.proofs.Common.{arith, ◌≡◌, ◌≤◌, ◌<◌, ◌^◌, ◌∙◌, ◌++◌, ◌∷◌, [], ℕ, ℤ, pos, List, length, map, get_or, ap, sym, subst, refl}
use Rattle.std.proofs.lemmas.List.{length-map, map-append}
use Rattle.std.proofs.Math.Nat.{pow-le-pow_right}
use Rattle.bid_rules.specs.declared.limits.TheConstants.{MOST_RIDERS}
use Rattle.bid_rules.specs.Coalitions.{riders_in}
use Rattle.cert_reader.specs.Sets.{starts}
use Rattle.set_costs.specs.Table.{ListsCosts, route_costs}
use Rattle.fare_rules.specs.Head.{cost_line}
use Rattle.fare_rules.proofs.SetLines.{row_length, row_line}
use Rattle.fare_rules.proofs.state.push_row.Goals as goal

pub is_line-is_kept-requires-clause-row : goal.is_line-is_kept-requires-clause-row
is_line-is_kept-requires-clause-row c =
    let count = row_length c.args.case.now (riders_in (length c.as_slice.result.now)) c.next_row-row.result.items c.next_row-row.ensures in
    omega (arith, ap length c.as_slice-2.ensures.value, count, c.len.ensures.value)

pub push-requires : goal.push-requires
push-requires c =
    let few = c.coalition_law.ensures.riders_count c.args.case.now c.requires.lists.valid in
    let power : 2 ^ length c.args.case.now.at.items ≤ 2 ^ MOST_RIDERS = pow-le-pow_right {n = 2} (let some : 0 < 2 = omega arith in some) few in
    let more = c.requires.more in
    (omega arith, omega (arith, power, more))

pub returns-clause-line : goal.returns-clause-line
returns-clause-line c =
    let case = c.args.case.now in
    let set = length c.args.rows.now.items in
    let n = length case.at.items in
    let row = c.next_row-row.result.items in
    let row_is = c.next_row-row.ensures ∙ ap (λ k. route_costs case (riders_in k)) (ap length c.as_slice.ensures.value) in
    let line = row_line case n set row refl row_is in
    let made : List ℕ → ℕ → ℕ → List ℤ = λ xs k m. map (λ at. pos (get_or xs at 0)) (starts k m) in
    let same : made c.as_slice-2.result.now c.len.result c.len-2.result ≡ cost_line case n set =
    ap (λ xs. made xs c.len.result c.len-2.result) c.as_slice-2.ensures.value ∙ ap (λ k. made row k c.len-2.result) c.len.ensures.value ∙ ap (made row n) c.len-2.ensures.value ∙ line in
    (λ h. c.is_line-is_kept.ensures.0 h ∙ same, λ e. c.is_line-is_kept.ensures.1 (e ∙ sym same))

pub returns-clause-lists : goal.returns-clause-lists
returns-clause-lists c =
    let case = c.args.case.now in
    let old = c.args.rows.now.items in
    let row_is = c.next_row-row.ensures ∙ ap (λ k. route_costs case (riders_in k)) (ap length c.as_slice.ensures.value ∙ sym (length-map old (λ row. row.items))) in
    let more = c.requires.more in
    subst (ListsCosts case) (sym (ap (map (λ row. row.items)) c.push.ensures.items ∙ map-append (λ row. row.items) old _ ∙ ap (λ r. map (λ row. row.items) old ++ r ∷ []) row_is))
    (c.rows_law.ensures.more case (map (λ row. row.items) old) c.requires.lists (omega (arith, more, length-map old (λ row. row.items))))
