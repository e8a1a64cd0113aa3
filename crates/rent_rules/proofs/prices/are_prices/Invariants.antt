use Rattle.std.proofs.Common.{ℕ, pos, ◌-◌, ◌<◌, map, slice_index, slice_index_or}
use Rattle.bid_rules.specs.Fractions.{IsQuotient}
use Rattle.bid_rules.specs.Maximin.{price_in_parts}
use Rattle.bid_rules.specs.Rent.{room_count}
use Rattle.split_frac.specs.Frac.{fraction_of}
use Rattle.rent_rules.proofs.prices.are_prices.Given as goal

abbrev pub invariant-loop-member : goal.invariant-loop-member
invariant-loop-member l = (k : ℕ) → k < l.member
    → IsQuotient (slice_index_or (map fraction_of l.prices) (slice_index l.rooms k - 1) (pos 0, 1)) (price_in_parts l.case l.rooms l.walks k) (room_count l.case)
