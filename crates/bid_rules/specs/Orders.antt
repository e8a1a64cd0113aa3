-- For the definition of the best fares: the list of all orders of a list, and their number.
use Rattle.std.specs.Prelude.{ℕ, ◌+◌, ◌*◌, suc, zero, List, [], ◌∷◌, length, map, flat_map, insert}
use Rattle.std.specs.List.{range_with_len}

-- an element inserted into a list at each place, from the first to the one past the last
abbrev pub insertions : {X : Type 0} → X → List X → List (List X)
insertions x xs = map (λ place. insert xs place x) (range_with_len 0 (length xs + 1))

-- all orders of a list: its first element, put at each place into each order of the others
abbrev pub orders : {X : Type 0} → List X → List (List X)
orders [] = [] ∷ []
orders (x ∷ xs) = flat_map (insertions x) (orders xs)

-- n!, the number of orders of n elements
abbrev pub factorial : ℕ → ℕ
factorial zero = 1
factorial (suc n) = suc n * factorial n
