-- The table of a certificate of fares: a line for each set of riders, with a cost for each start.
use Rattle.std.specs.Prelude.{◌≡◌, ℕ, zero, suc, ℤ, pos, ◌-◌, ◌^◌, ◌<◌, ◌==◌, List, [], map, slice_index_or, unsigned_abs}
use Rattle.std.specs.List.{position_or_len}
use Rattle.bid_rules.specs.declared.cases.FareCase.{FareCase}
use Rattle.bid_rules.specs.Coalitions.{riders_in}
use Rattle.bid_rules.specs.Fares.{least}
use Rattle.cert_reader.specs.Sets.{starts}
use Rattle.best_laws.specs.Entries.{entry_by}

-- the cost in the printed lines of sets for this start and this set, which is 0 for the empty set
abbrev pub entry_of : ℕ → List (List ℤ) → ℕ → ℕ → ℕ
entry_of n lines at zero = 0
entry_of n lines at (suc before) = unsigned_abs (slice_index_or (slice_index_or lines before []) (position_or_len (λ start. start == at) (starts n (suc before))) (pos 0))

-- what the line of a set must say, by the entries of smaller sets: for each start the least, over the riders of the set, of the leg to the rider and the entry
-- of the other riders from there
abbrev pub line_of : FareCase → ℕ → List (List ℤ) → ℕ → List ℤ
line_of case n lines set = map (λ at. pos (least (map (entry_by case (entry_of n lines) at set) (riders_in set)))) (starts n set)

-- rule 2: the line of each set says what it must
abbrev pub HasLines : FareCase → ℕ → List (List ℤ) → Type 0
HasLines case n lines = (set : ℕ) → 0 < set → set < 2 ^ n → slice_index_or lines (set - 1) [] ≡ line_of case n lines set
