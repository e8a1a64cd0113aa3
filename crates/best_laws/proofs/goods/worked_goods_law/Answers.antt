use Rattle.std.proofs.Common.{refl}
use Rattle.best_laws.proofs.WorkedGoods.{contested_best, contested_valid, two_players_best, two_players_valid}
use Rattle.best_laws.proofs.goods.worked_goods_law.Goals as goal

pub returns-clause-two_players_valid : goal.returns-clause-two_players_valid
returns-clause-two_players_valid c = two_players_valid

pub returns-clause-two_players_order : goal.returns-clause-two_players_order
returns-clause-two_players_order c = refl

pub returns-clause-two_players_best : goal.returns-clause-two_players_best
returns-clause-two_players_best c = two_players_best

pub returns-clause-two_players_pair : goal.returns-clause-two_players_pair
returns-clause-two_players_pair c = refl

pub returns-clause-two_players_owners : goal.returns-clause-two_players_owners
returns-clause-two_players_owners c = refl

pub returns-clause-contested_valid : goal.returns-clause-contested_valid
returns-clause-contested_valid c = contested_valid

pub returns-clause-contested_order : goal.returns-clause-contested_order
returns-clause-contested_order c = refl

pub returns-clause-contested_best : goal.returns-clause-contested_best
returns-clause-contested_best c = contested_best

pub returns-clause-contested_pair : goal.returns-clause-contested_pair
returns-clause-contested_pair c = refl

pub returns-clause-contested_owners : goal.returns-clause-contested_owners
returns-clause-contested_owners c = refl
