-- What the canonical certificate of goods says: the case, who has each good, the step count, and the tree that leaves out all it may.
use Rattle.std.specs.Prelude.{ℕ, pos, List, [], map}
use Rattle.bid_rules.specs.declared.goods.GoodsCase.{GoodsCase}
use Rattle.bid_rules.specs.Goods.{in_search_order}
use Rattle.cert_reader.specs.GoodsViews.{GoodsView}
use Rattle.certificates.specs.Marks.{canonical_marks}
use Rattle.nash_search.specs.declared.division.GoodsDivision.{GoodsDivision}

-- the owners of a division, in the order of the search
abbrev pub answer_of : GoodsCase → GoodsDivision → List ℕ
answer_of case division = in_search_order case division.owners.items

-- the tree of the canonical certificate for the solver's division, from the node without owners on
abbrev pub canonical_tree : GoodsCase → GoodsDivision → List ℕ
canonical_tree case division = canonical_marks case (answer_of case division) case.facts.goods []

-- what the canonical certificate of goods says for the solver's division
abbrev pub canonical_goods : GoodsCase → GoodsDivision → GoodsView
canonical_goods case division = record {
  goods = case.facts.goods;
  limit = pos case.facts.limit;
  who = map pos case.who.items;
  values = map (λ row. map pos row.items) case.values.items;
  owners = map pos division.owners.items;
  steps = pos division.steps;
  marks = canonical_tree case division;
}
