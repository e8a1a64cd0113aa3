-- Coalitions of riders as numbers: a set is the sum of 2^(i-1) over its riders i.
use Rattle.std.specs.Prelude.{ℕ, zero, suc, ◌-◌, ◌^◌, List, Bool, ◌==◌}
use Rattle.std.specs.Int.{bit_at}
use Rattle.std.specs.List.{filter, range_with_len, sum_by}
use Rattle.bid_rules.specs.declared.cases.FareCase.{FareCase}
use Rattle.bid_rules.specs.Fares.{place_of}

-- rider i is in the set: bit i - 1 of the set's number is 1
abbrev pub has_rider : ℕ → ℕ → Bool
has_rider set rider = bit_at set (rider - 1) == 1

-- the riders of a set in rising order; none of them has a greater number than the set
-- itself
unfoldable pub riders_in : ℕ → List ℕ
riders_in set = filter (has_rider set) (range_with_len 1 set)

-- the number of a set: the sum of 2^(i-1) over its riders i
abbrev pub set_number : List ℕ → ℕ
set_number riders = sum_by (λ rider. 2 ^ (rider - 1)) riders

-- where a route starts: at the origin for 0, and otherwise at the place of that rider
abbrev pub start_of : FareCase → ℕ → ℕ
start_of case zero = 0
start_of case (suc rider) = place_of case (suc rider)
