-- The pair of a list of utilities, by which allocations of goods are compared, and the order of pairs (Caragiannis and others 2016).
use Rattle.std.specs.Prelude.{◌≡◌, ℕ, ◌+◌, ◌*◌, ◌<◌, ◌≤◌, List, [], ◌∷◌, min, max, ◌⊎◌, Bool, true, ◌==◌, ◌&&◌, ◌||◌, nat_lt, nat_le, Option, Some, None}
use Rattle.bid_rules.specs.declared.pair.Pair.{Pair}

-- how many utilities are positive
abbrev pub positives : List ℕ → ℕ
positives [] = 0
positives (utility ∷ utilities) = min utility 1 + positives utilities

-- the product of the positive utilities, which is 1 if there are none
abbrev pub product : List ℕ → ℕ
product [] = 1
product (utility ∷ utilities) = max utility 1 * product utilities

-- the Nash welfare of utilities: how many are positive, and the product of these
abbrev pub nash_welfare : List ℕ → Pair
nash_welfare utilities = record { count = positives utilities; product = product utilities }

-- the first pair is smaller: its count is smaller, or the counts are equal and its product is
abbrev pub IsLess : Pair → Pair → Type 0
IsLess a b = (a.count < b.count) ⊎ ((a.count ≡ b.count) × (a.product < b.product))

-- the first pair is not greater than the second
abbrev pub IsAtMost : Pair → Pair → Type 0
IsAtMost a b = (a.count < b.count) ⊎ ((a.count ≡ b.count) × (a.product ≤ b.product))

-- a test of whether the first pair is smaller
abbrev pub is_less : Pair → Pair → Bool
is_less a b = nat_lt a.count b.count || (a.count == b.count && nat_lt a.product b.product)

-- a test of whether the first pair is not greater
abbrev pub is_at_most : Pair → Pair → Bool
is_at_most a b = nat_lt a.count b.count || (a.count == b.count && nat_le a.product b.product)

-- a test of whether the pair is greater than another, if there is another
abbrev pub is_above : Option Pair → Pair → Bool
is_above None b = true
is_above (Some a) b = is_less a b
