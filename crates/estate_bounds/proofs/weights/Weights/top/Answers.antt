use Rattle.std.proofs.Common.{◌≡◌, ℕ, ◌+◌, ◌-◌, ◌*◌, ◌≤◌, List, arith, ap, ◌∙◌, drop, get_or, length, sym, subst}
use Rattle.std.specs.List.{sum_by}
use Rattle.std.proofs.lemmas.List.FromFn.{get_or-map-range_with_len, length-map-range_with_len}
use Rattle.bid_rules.specs.declared.limits.TheConstants.{ITEM_ROOM}
use Rattle.bid_rules.specs.Goods.{order_of}
use Rattle.nash_bounds.specs.Prefixes.{free_goods}
use Rattle.estate_bounds.specs.Sums.{free_top}
use Rattle.estate_bounds.specs.Weighted.{most_weighted, weighted_sum}
use Rattle.estate_bounds.specs.declared.limits.TheConstants.{MOST_TERM}
use Rattle.estate_bounds.proofs.weights.Weights.top.Goals as goal

pub bounds-deref-free : goal.bounds-deref-free
bounds-deref-free c =
    let free = c.from.ensures in
    let same : length c.deref.result.now ≡ c.args.case.now.facts.goods + 1 = ap length c.deref.ensures.0 ∙ ap length c.requires.weights.is_tops ∙ length-map-range_with_len (free_top c.args.case.now c.args.self.now.each.items) 0 (c.args.case.now.facts.goods + 1) in
    omega arith

pub overflow_add-result : goal.overflow_add-result
overflow_add-result c =
    let free = c.from.ensures in
    let tops : c.deref.result.now ≡ c.args.self.now.tops.items = c.deref.ensures.0 in
    let same : length c.args.self.now.tops.items ≡ c.args.case.now.facts.goods + 1 = ap length c.requires.weights.is_tops ∙ length-map-range_with_len (free_top c.args.case.now c.args.self.now.each.items) 0 (c.args.case.now.facts.goods + 1) in
    let small : get_or c.args.self.now.tops.items (c.from.result - length c.args.owners.now) 0 ≤ MOST_TERM * ITEM_ROOM = c.requires.weights.small (c.from.result - length c.args.owners.now) 0 (omega arith) in
    let here : get_or c.deref.result.now (c.from.result - length c.args.owners.now) 0 ≤ MOST_TERM * ITEM_ROOM = subst (λ (xs : List ℕ). get_or xs (c.from.result - length c.args.owners.now) 0 ≤ MOST_TERM * ITEM_ROOM) (sym tops) small in
    let sum = c.weighted_sum.ensures.small in
    omega arith

pub returns : goal.returns
returns c =
    let free = c.from.ensures in
    let short = c.requires.short in
    let most : ℕ → ℕ = most_weighted c.args.case.now c.args.self.now.each.items in
    let at : get_or c.deref.result.now (c.from.result - length c.args.owners.now) 0 ≡ free_top c.args.case.now c.args.self.now.each.items (c.from.result - length c.args.owners.now) =
    ap (λ (xs : List ℕ). get_or xs (c.from.result - length c.args.owners.now) 0) (c.deref.ensures.0 ∙ c.requires.weights.is_tops)
    ∙ get_or-map-range_with_len (free_top c.args.case.now c.args.self.now.each.items) 0 (c.args.case.now.facts.goods + 1) (c.from.result - length c.args.owners.now) (c.from.result - length c.args.owners.now) 0 (omega arith) (omega arith) in
    let place : c.args.case.now.facts.goods - (c.from.result - length c.args.owners.now) ≡ length c.args.owners.now = omega arith in
    let rest : free_top c.args.case.now c.args.self.now.each.items (c.from.result - length c.args.owners.now) ≡ sum_by most (free_goods c.args.case.now c.args.owners.now) = ap (λ n. sum_by most (drop n (order_of c.args.case.now))) place in
    let sum : c.weighted_sum.result ≡ weighted_sum c.args.case.now c.args.self.now.each.items c.args.owners.now =
    c.weighted_sum.ensures.value ∙ ap (λ (ws : List ℕ). weighted_sum c.args.case.now ws c.args.owners.now) c.as_slice.ensures.value in
    omega arith
