use Rattle.std.proofs.Common.{arith}
use Rattle.split_json.proofs.FreeFares.{free_fares-checked}
use Rattle.split_json.proofs.laws.field_fault_law.Goals as goal

pub returns-clause-rent : goal.returns-clause-rent
returns-clause-rent c = λ members. (λ checked. checked.0, λ within. (within, (omega arith, omega arith)))

pub returns-clause-goods : goal.returns-clause-goods
returns-clause-goods c = λ members goods. (λ checked. checked.counts, λ within. record { counts = within; steps = (omega arith, omega arith) })

pub returns-clause-fares : goal.returns-clause-fares
returns-clause-fares c = free_fares-checked
