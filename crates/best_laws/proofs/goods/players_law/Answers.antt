use Rattle.std.proofs.Common.{arith}
use Rattle.split_lemmas.proofs.GoodsMembers.{best_same, order_same, players_few, utilities_same}
use Rattle.best_laws.proofs.goods.players_law.Goals as goal

pub returns-clause-members : goal.returns-clause-members
returns-clause-members c = players_few

pub returns-clause-twelve : goal.returns-clause-twelve
returns-clause-twelve c = λ case valid. omega (arith, players_few case valid, valid.facts.counts.1)

pub returns-clause-order : goal.returns-clause-order
returns-clause-order c = λ case members. order_same case members case.facts.members

pub returns-clause-utilities : goal.returns-clause-utilities
returns-clause-utilities c = λ case members. utilities_same case members case.facts.members

pub returns-clause-best : goal.returns-clause-best
returns-clause-best c = λ case members owners. (best_same case members case.facts.members owners, best_same case case.facts.members members owners)
