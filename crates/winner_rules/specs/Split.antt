-- For the rules on a text of adjusted winner: whether exactly one of the first few printed shares is that of a split good, or none.
use Rattle.std.specs.Prelude.{◌≡◌, ℕ, pos, ◌<◌, List, length, slice_index_or, Bool, true, false, ◌⊎◌}
use Rattle.bid_rules.specs.Fractions.{Fraction}
use Rattle.winner_definition.specs.Parts.{is_split}

-- whether the share at this place, counted from 0, is that of a split good
abbrev pub split_at : List Fraction → ℕ → Bool
split_at shares place = is_split (slice_index_or shares place (pos 0, 1))

-- no share among the first few is that of a split good; or exactly one is
abbrev pub HasSplitUpTo : List Fraction → ℕ → Bool → Type 0
HasSplitUpTo shares count false = (place : ℕ) → place < count → split_at shares place ≡ false
HasSplitUpTo shares count true = (one : ℕ) × (one < count) × (split_at shares one ≡ true) × ((place : ℕ) → place < count → split_at shares place ≡ true → place ≡ one)
