use Rattle.std.proofs.Common.{ℕ, ◌<◌, ◌+ℤ◌, ◌≤ℤ◌}
use Rattle.bid_rules.specs.Maximin.{value_step}
use Rattle.bid_rules.specs.Walks.{weight_at}
use Rattle.rent_rules.proofs.walks.is_settled.Given as goal

abbrev pub invariant-loop-from : goal.invariant-loop-from
invariant-loop-from l = (k : ℕ) → k < l.from → (weight_at l.walks k +ℤ value_step l.case l.rooms k l.to) ≤ℤ weight_at l.walks l.to
