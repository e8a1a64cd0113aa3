use Rattle.bid_rules.specs.Goods.{player_count}
use Rattle.estate_judge.specs.declared.leaf.TheConstants.{ANSWER_RULE, CLOSED_RULE, SHAPE_RULE, TWIN_RULE, WHOLE_RULE}
use Rattle.std.proofs.Common.{[]}
use Rattle.estate_judge.proofs.ClosedLeaves.{closed_leaf, leaf_other}
use Rattle.estate_judge.proofs.laws.estate_tree_law.Goals as goal

pub returns : goal.returns
returns c case answer nodes valid allocation limit tree keeps =
    c.tree_law.ensures case answer nodes valid tree
    (λ owners above node leaf.
    closed_leaf
    (record {
      behind = c.closed_law.ensures.behind;
      twin = c.closed_law.ensures.twin;
      own = c.closed_law.ensures.own;
      weights = c.weights_law.ensures.behind;
      units = c.units_law.ensures.behind;
      prices = c.prices_law.ensures;
    })
    case answer owners above node valid allocation limit
    (record {
      shape = keeps SHAPE_RULE owners above node leaf;
      closed = keeps CLOSED_RULE owners above node leaf;
      whole = keeps WHOLE_RULE owners above node leaf;
      own = keeps ANSWER_RULE owners above node leaf;
      twin = keeps TWIN_RULE owners above node leaf;
    })
    (leaf_other (player_count case) [] owners case.facts.goods nodes above node leaf))
