use Rattle.std.proofs.Common.{arith, sym}
use Rattle.best_laws.proofs.CaseRiders.{riders_few, set_few}
use Rattle.best_laws.proofs.LowestRoutes.{full_set}
use Rattle.best_laws.proofs.SetLaws.{riders_in-rising, riders_in-bits, riders_in-number, riders_in-of_number, riders_in-within, riders_in-any_order, some_riders}
use Rattle.best_laws.proofs.SetNumbers.{riders_in-first}
use Rattle.best_laws.proofs.fares.coalition_law.Goals as goal

pub returns-clause-rising : goal.returns-clause-rising
returns-clause-rising c = riders_in-rising

pub returns-clause-bits : goal.returns-clause-bits
returns-clause-bits c = riders_in-bits

pub returns-clause-number : goal.returns-clause-number
returns-clause-number c = riders_in-number

pub returns-clause-riders : goal.returns-clause-riders
returns-clause-riders c = riders_in-of_number

pub returns-clause-within : goal.returns-clause-within
returns-clause-within c = riders_in-within

pub returns-clause-any_order : goal.returns-clause-any_order
returns-clause-any_order c = riders_in-any_order

pub returns-clause-first : goal.returns-clause-first
returns-clause-first c n set small = sym (riders_in-first n set small)

pub returns-clause-all : goal.returns-clause-all
returns-clause-all c = full_set

pub returns-clause-count : goal.returns-clause-count
returns-clause-count c = set_few

pub returns-clause-riders_count : goal.returns-clause-riders_count
returns-clause-riders_count c = riders_few

pub returns-clause-some : goal.returns-clause-some
returns-clause-some c set some = some_riders set (λ none. omega (arith, none, some))
