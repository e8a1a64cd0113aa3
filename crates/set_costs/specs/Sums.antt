-- The sums of a rider's marginal costs over all orders of each set of riders.
use Rattle.std.specs.Prelude.{◌≡◌, ℕ, ℤ, pos, ◌<◌, List, length, Contains, slice_index_or}
use Rattle.bid_rules.specs.declared.cases.FareCase.{FareCase}
use Rattle.bid_rules.specs.Coalitions.{riders_in}
use Rattle.best_laws.specs.MarginalSums.{marginal_sum}

-- the list has, for each of the first sets with the rider in it, by the number of the set, the sum of what the rider adds over all orders of the set
abbrev pub ListsSums : FareCase → ℕ → List ℤ → Type 0
ListsSums case rider sums = (set : ℕ) → set < length sums → Contains (riders_in set) rider → slice_index_or sums set (pos 0) ≡ marginal_sum case rider (riders_in set)
