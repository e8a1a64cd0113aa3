use Rattle.std.proofs.Common.{◌∙◌, sym, []}
use Rattle.bid_rules.specs.Goods.{player_count}
use Rattle.prefix_trees.proofs.TreeLeaves.{each_leaf, one_leaf_only, ruled_by_leaves, some_leaf, subtree_any}
use Rattle.prefix_trees.proofs.laws.leaves_law.Goals as goal

pub returns-clause-one : goal.returns-clause-one
returns-clause-one g c case nodes allocation tree whole =
    let players = player_count case in
    let goods = case.facts.goods in
    let inner = g.C.Closing.IsInner in
    let (front, rest, above, node, is, leads) = some_leaf inner players goods [] nodes [] allocation tree whole.each whole.owned in
    record {
      front = front;
      rest = rest;
      above = above;
      node = node;
      begins = is;
      leaf = leads;
      only = λ other more tops leaf so on. one_leaf_only inner players front other goods [] [] nodes rest more above tops node leaf leads on (sym is ∙ so);
    }

pub returns-clause-rules : goal.returns-clause-rules
returns-clause-rules g c closing case number nodes =
    let players = player_count case in
    let goods = case.facts.goods in
    let inner = g.C.Closing.IsInner in
    let leaf = g.C.Closing.IsLeaf closing number in (
      λ h. (subtree_any inner leaf players goods [] [] [] [] nodes [] h, λ owners above node leads. each_leaf inner leaf players owners goods [] [] nodes [] above node h leads),
      λ h. ruled_by_leaves inner leaf players goods [] [] nodes [] h.0 h.1,
    )
