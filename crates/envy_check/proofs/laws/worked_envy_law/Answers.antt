use Rattle.std.proofs.Common.{[], ◌∷◌, inl, arith}
use Rattle.bid_rules.specs.Goods.{pair_of}
use Rattle.split_lemmas.proofs.PairOrder.{less_not}
use Rattle.best_laws.specs.WorkedGoods.{contested_good}
use Rattle.envy_check.proofs.laws.worked_envy_law.Goals as goal

pub returns-clause-no_maximum : goal.returns-clause-no_maximum
returns-clause-no_maximum c = λ most. less_not (pair_of contested_good (1 ∷ 1 ∷ [])) (pair_of contested_good (1 ∷ 3 ∷ [])) (inl (omega arith)) (most.greatest (1 ∷ 3 ∷ []) c.worked_goods_law.ensures.contested_best.allocation)
