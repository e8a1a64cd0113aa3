use Rattle.std.proofs.Common.{◌≡◌, ℕ, ◌+◌, ◌-◌, ◌*◌, ◌≤◌, List, arith, ap, ◌∙◌, drop, get_or, length, sym, subst}
use Rattle.std.specs.List.{sum_by}
use Rattle.std.proofs.lemmas.List.FromFn.{get_or-map-range_with_len, length-map-range_with_len}
use Rattle.bid_rules.specs.declared.limits.TheConstants.{ITEM_ROOM}
use Rattle.bid_rules.specs.Goods.{order_of}
use Rattle.nash_bounds.specs.Prefixes.{free_goods}
use Rattle.estate_bounds.specs.Prices.{free_price, highest_price}
use Rattle.estate_bounds.specs.Weighted.{weighted_sum}
use Rattle.estate_bounds.specs.declared.limits.TheConstants.{MOST_PAYMENT}
use Rattle.estate_bounds.proofs.prices.Prices.top.Goals as goal

pub bounds-deref-free : goal.bounds-deref-free
bounds-deref-free c =
    let free = c.from.ensures in
    let same : length c.deref.result.now ≡ c.args.case.now.facts.goods + 1 = ap length c.deref.ensures.0 ∙ ap length c.requires.prices.is_tops ∙ length-map-range_with_len (free_price c.args.case.now c.args.self.now.rates.items c.args.self.now.fees.items) 0 (c.args.case.now.facts.goods + 1) in
    omega arith

pub returns-clause-value : goal.returns-clause-value
returns-clause-value c =
    let free = c.from.ensures in
    let short = c.requires.short in
    let most : ℕ → ℕ = highest_price c.args.case.now c.args.self.now.rates.items c.args.self.now.fees.items in
    let at : get_or c.deref.result.now (c.from.result - length c.args.owners.now) 0 ≡ free_price c.args.case.now c.args.self.now.rates.items c.args.self.now.fees.items (c.from.result - length c.args.owners.now) =
    ap (λ (xs : List ℕ). get_or xs (c.from.result - length c.args.owners.now) 0) (c.deref.ensures.0 ∙ c.requires.prices.is_tops)
    ∙ get_or-map-range_with_len (free_price c.args.case.now c.args.self.now.rates.items c.args.self.now.fees.items) 0 (c.args.case.now.facts.goods + 1) (c.from.result - length c.args.owners.now) (c.from.result - length c.args.owners.now) 0 (omega arith) (omega arith) in
    let place : c.args.case.now.facts.goods - (c.from.result - length c.args.owners.now) ≡ length c.args.owners.now = omega arith in
    let rest : free_price c.args.case.now c.args.self.now.rates.items c.args.self.now.fees.items (c.from.result - length c.args.owners.now) ≡ sum_by most (free_goods c.args.case.now c.args.owners.now) = ap (λ n. sum_by most (drop n (order_of c.args.case.now))) place in
    let sum : c.paid.result ≡ weighted_sum c.args.case.now c.args.self.now.rates.items c.args.owners.now =
    c.paid.ensures.value ∙ ap (λ (ws : List ℕ). weighted_sum c.args.case.now ws c.args.owners.now) c.as_slice.ensures.value in
    omega arith
