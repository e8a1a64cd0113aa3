use Rattle.std.proofs.Common.{ℕ, ◌<◌}
use Rattle.rent_rules.specs.Rules.{IsLed}
use Rattle.rent_rules.proofs.walks.some_leads.Given as goal

abbrev pub invariant-loop-from : goal.invariant-loop-from
invariant-loop-from l = (k : ℕ) → k < l.from → IsLed l.case l.rooms l.walks l.ranks l.to k → ⊥
