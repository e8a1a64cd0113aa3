use Rattle.std.proofs.Common.{◌≡◌, ℕ, pos, ◌-◌, ◌<◌, ◌≤ℤ◌, ◌⊎◌}
use Rattle.bid_rules.specs.Rent.{room_count}
use Rattle.bid_rules.specs.Walks.{weight_at}
use Rattle.rent_rules.specs.Rules.{IsLed}
use Rattle.rent_rules.proofs.walks.are_ranked.Given as goal

abbrev pub invariant-loop-to : goal.invariant-loop-to
invariant-loop-to l = (k : ℕ) → k < l.to → ((weight_at l.ranks k ≡ pos 0) × (weight_at l.walks k ≡ pos 0))
    ⊎ ((pos 1 ≤ℤ weight_at l.ranks k) × (weight_at l.ranks k ≤ℤ pos (room_count l.case - 1)) × ((from : ℕ) × (from < room_count l.case) × IsLed l.case l.rooms l.walks l.ranks k from))
