use Rattle.goods_rules.proofs.walk.Walk.new.Goals as goal

pub returns-clause-walk : goal.returns-clause-walk
returns-clause-walk c case pair = record { path = c.new.ensures.path case pair; ended = λ whole. cc }
