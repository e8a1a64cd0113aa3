use Rattle.std.proofs.Common.{rules, ◌≡◌, sym, subst}
use Rattle.bid_rules.specs.declared.goods.GoodsCase.{GoodsCase}
use Rattle.bid_rules.specs.Facts.{goods_case}
use Rattle.bid_rules.specs.Goods.{IsValidGoodsCase}
use Rattle.bid_rules.proofs.Players.{valid_players}
use Rattle.bid_rules.proofs.cases.make_goods_case.Goals as goal

pub returns-clause-valid : goal.returns-clause-valid
returns-clause-valid c =
    let goods = c.args.goods.now in
    let case : GoodsCase = record { facts = record { members = goods.members; goods = goods.goods; limit = goods.limit }; who = c.members_with.result; values = c.values_of.result } in
    let is : case ≡ goods_case goods c.args.bids.now = search rules in
    subst IsValidGoodsCase (sym is) (valid_players goods c.args.bids.now c.requires.goods c.requires.count c.requires.bids c.requires.some)
