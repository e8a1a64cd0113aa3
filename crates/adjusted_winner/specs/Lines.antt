-- What the solver of adjusted winner writes of its answer: the case, player 1's share of each good, the weights, and the points of each player.
use Rattle.std.specs.Prelude.{pos, map}
use Rattle.adjusted_winner.specs.declared.winner.Winner.{Winner}
use Rattle.bid_rules.specs.declared.goods.GoodsCase.{GoodsCase}
use Rattle.bid_rules.specs.declared.limits.TheConstants.{MOST_MEMBERS, MOST_STEPS}
use Rattle.cert_reader.specs.Layout.{PairView}
use Rattle.split_frac.specs.Frac.{fraction_of}

-- what the text of adjusted winner says for the solver's answer
abbrev pub winner_view : GoodsCase → Winner → PairView
winner_view case winner = record {
  goods = case.facts.goods;
  who = map pos case.who.items;
  values = map (λ row. map pos row.items) case.values.items;
  shares = map fraction_of winner.shares.items;
  weights = map pos winner.weights;
  total = fraction_of winner.total;
}

-- the case with as many members and steps as there may be, since the text says neither
abbrev pub with_most : GoodsCase → GoodsCase
with_most case = record {
  facts = record { members = MOST_MEMBERS; goods = case.facts.goods; limit = MOST_STEPS };
  who = case.who;
  values = case.values;
}
