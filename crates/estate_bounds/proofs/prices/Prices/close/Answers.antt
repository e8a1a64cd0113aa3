use Rattle.std.proofs.Common.{◌≡◌, ◌+◌, ◌*◌, arith, ap, ◌∙◌, length, nat_lt, sym}
use Rattle.std.specs.List.{range_with_len, sum_by}
use Rattle.bid_rules.specs.Goods.{player_count}
use Rattle.estate_bounds.specs.Prices.{gain, price_bound}
use Rattle.estate_bounds.specs.Weighted.{weight}
use Rattle.estate_bounds.specs.declared.limits.TheConstants.{PRICE_PARTS}
use Rattle.estate_bounds.proofs.PriceSteps.{close_if, close_not}
use Rattle.estate_bounds.proofs.prices.Prices.close.Goals as goal

pub returns-then-shares-len : goal.returns-then-shares-len
returns-then-shares-len c = close_not c.args.case.now c.args.owners.now c.args.self.now.rates.items c.args.self.now.fees.items c.args.shares.now (λ same. c.if-shares-len.true (same ∙ sym c.len.ensures.value))

pub returns : goal.returns
returns c =
    let case = c.args.case.now in
    let owners = c.args.owners.now in
    let rates = c.args.self.now.rates.items in
    let fees = c.args.self.now.fees.items in
    let shares = c.args.shares.now in
    ap (λ g. nat_lt (g + PRICE_PARTS * c.top.result) c.logs_of.result) c.gains-gains.ensures.value
    ∙ ap (λ t. nat_lt (sum_by (λ player. gain case owners (weight rates player) (weight fees player) player) (range_with_len 1 (player_count case)) + PRICE_PARTS * t) c.logs_of.result) c.top.ensures.value
    ∙ ap (nat_lt (price_bound case owners rates fees)) c.logs_of.ensures
    ∙ close_if case owners rates fees shares (c.if-shares-len.false ∙ c.len.ensures.value)
