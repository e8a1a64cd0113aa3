use Rattle.split_lemmas.proofs.PairOrder.{at_most-from, at_most-to, less-from, less-to}
use Rattle.best_laws.proofs.goods.pair_order_law.Goals as goal

pub returns-clause-less_test : goal.returns-clause-less_test
returns-clause-less_test c = λ a b. (less-from a b, less-to a b)

pub returns-clause-at_most_test : goal.returns-clause-at_most_test
returns-clause-at_most_test c = λ a b. (at_most-from a b, at_most-to a b)
