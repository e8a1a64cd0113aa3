use Rattle.std.proofs.Common.{◌-◌, ◌^◌, ◌≤◌, subst}
use Rattle.best_laws.proofs.SetParts.{rider_bits}
use Rattle.best_laws.proofs.SetRiders.{not_without, without_is}
use Rattle.best_laws.proofs.fares.without_rider_law.Goals as goal

pub returns-clause-number : goal.returns-clause-number
returns-clause-number c set rider there = subst (λ r. 2 ^ (r - 1) ≤ set) there.2 (rider_bits set there.0 rider there.1)

pub returns-clause-others : goal.returns-clause-others
returns-clause-others c = without_is

pub returns-clause-apart : goal.returns-clause-apart
returns-clause-apart c set rider there = not_without set rider (without_is set rider there)
