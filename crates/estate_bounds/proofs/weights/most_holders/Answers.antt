use Rattle.std.proofs.Common.{◌≡◌, arith, ap}
use Rattle.bid_rules.specs.declared.pair.Pair.{Pair}
use Rattle.bid_rules.specs.Goods.{utilities}
use Rattle.bid_rules.specs.Pairs.{positives}
use Rattle.estate_bounds.proofs.NextOwners.{free_count}
use Rattle.estate_bounds.proofs.weights.most_holders.Goals as goal

pub returns : goal.returns
returns c =
    let free = free_count c.args.case.now c.args.owners.now in
    let rows = c.len.ensures.value in
    let long = c.requires.table.long in
    let have : c.pair_so_far.result.count ≡ positives (utilities c.args.case.now c.args.owners.now) = ap (λ (p : Pair). p.count) c.pair_so_far.ensures in
    let wide = c.from.ensures in
    omega arith
