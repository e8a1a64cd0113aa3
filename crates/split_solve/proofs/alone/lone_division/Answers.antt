use Rattle.std.proofs.Common.{sym, subst}
use Rattle.bid_rules.specs.declared.cases.Case.{Case}
use Rattle.split_solve.specs.Solving.{IsDivided}
use Rattle.split_solve.proofs.alone.lone_division.Goals as goal

pub returns-in-Goods : goal.returns-in-Goods
returns-in-Goods c = subst (λ (one : Case). IsDivided one c.end_of.result) (sym c.in-Goods.is) (c.end_of.ensures c.in-Goods.case c.searched.ensures)
