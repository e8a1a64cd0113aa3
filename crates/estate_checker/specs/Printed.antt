-- The case and the division that the text of an estate prints.
use Rattle.std.specs.Prelude.{ℕ, List, map, unsigned_abs}
use Rattle.bid_rules.specs.declared.goods.GoodsCase.{GoodsCase}
use Rattle.bid_rules.specs.Goods.{in_search_order}
use Rattle.estate_texts.specs.Texts.{EstateView, owners_of, values_of, who_of}
use Rattle.rule_verdicts.specs.PrintedGoods.{printed_goods}

-- the case that the text prints, each number without its sign. It says neither how many members there are nor how many steps the specified search may take, so
-- there are as many members as there may be, and the least limit
abbrev pub printed_case : EstateView → GoodsCase
printed_case view = printed_goods view.goods 1 (who_of view) (values_of view)

-- the owner of each good that the text prints, in the order of the goods and without its sign
abbrev pub printed_owners : EstateView → List ℕ
printed_owners view = map unsigned_abs (owners_of view)

-- the allocation that the text prints, in the order of the search
abbrev pub printed_answer : EstateView → List ℕ
printed_answer view = in_search_order (printed_case view) (printed_owners view)
