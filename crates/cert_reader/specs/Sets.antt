-- The `set` lines in the text of a certificate of fares: which set of riders each is about, from where its routes start, and how many costs it has.
use Rattle.std.specs.Prelude.{ℕ, ◌-◌, ◌^◌, not, List, ◌∷◌, length, map}
use Rattle.std.specs.List.{filter, range_with_len}
use Rattle.bid_rules.specs.Coalitions.{has_rider}

-- from where the routes of a set of riders may start: the origin, which is 0, and each rider of 1 to n who is not in the set, in rising order
abbrev pub starts : ℕ → ℕ → List ℕ
starts n set = 0 ∷ filter (λ rider. not (has_rider set rider)) (range_with_len 1 n)

-- all sets of n riders except the empty one
abbrev pub sets_of : ℕ → List ℕ
sets_of n = range_with_len 1 (2 ^ n - 1)

-- how many costs the line of each set has
abbrev pub set_sizes : ℕ → List ℕ
set_sizes n = map (λ set. length (starts n set)) (sets_of n)
