use Rattle.std.proofs.Common.{ℕ, pos, ◌<◌, ◌+ℤ◌, ◌≤ℤ◌}
use Rattle.bid_rules.specs.Maximin.{value_step}
use Rattle.bid_rules.specs.Rent.{room_count}
use Rattle.bid_rules.specs.Walks.{weight_at}
use Rattle.rent_rules.proofs.walks.are_settled.Given as goal

abbrev pub invariant-loop-to : goal.invariant-loop-to
invariant-loop-to l = record {
  low : (k : ℕ) → k < l.to → pos 0 ≤ℤ weight_at l.walks k;
  steps : (k : ℕ) → k < l.to → (from : ℕ) → from < room_count l.case → (weight_at l.walks from +ℤ value_step l.case l.rooms from k) ≤ℤ weight_at l.walks k;
}
