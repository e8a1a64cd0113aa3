use Rattle.std.proofs.Common.{pos, ◌*ℤ◌}
use Rattle.std.proofs.lemmas.Cmp.{int_cmp_total}
use Rattle.split_frac.proofs.Order.{less_to, less_from, equal_to, equal_from, transitive}
use Rattle.split_frac.proofs.laws.order_law.Goals as goal

pub returns-clause-less : goal.returns-clause-less
returns-clause-less c a b = (less_to a b, less_from a b)

pub returns-clause-equal : goal.returns-clause-equal
returns-clause-equal c a b = (equal_to a b, equal_from a b)

pub returns-clause-reversed : goal.returns-clause-reversed
returns-clause-reversed c a b = int_cmp_total.antisymm (b.num *ℤ pos a.den) (a.num *ℤ pos b.den)

pub returns-clause-transitive : goal.returns-clause-transitive
returns-clause-transitive c x y z e f = transitive x y z e f
