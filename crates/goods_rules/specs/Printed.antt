-- The case and the allocation that a certificate of goods prints.
use Rattle.std.specs.Prelude.{ℕ, List, map, unsigned_abs}
use Rattle.bid_rules.specs.declared.goods.GoodsCase.{GoodsCase}
use Rattle.bid_rules.specs.Goods.{in_search_order}
use Rattle.cert_reader.specs.GoodsViews.{GoodsView}
use Rattle.rule_verdicts.specs.PrintedGoods.{printed_goods}

-- the case that a certificate of goods prints, each number without its sign
abbrev pub printed_case : GoodsView → GoodsCase
printed_case view = printed_goods view.goods (unsigned_abs view.limit) view.who view.values

-- the owner of each good that a certificate of goods prints, in the order of the goods and without its sign
abbrev pub printed_owners : GoodsView → List ℕ
printed_owners view = map unsigned_abs view.owners

-- the allocation that a certificate of goods prints, in the order of the search
abbrev pub printed_answer : GoodsView → List ℕ
printed_answer view = in_search_order (printed_case view) (printed_owners view)
