-- How the cases of a trial are drawn: a whole is spread by weights.
use Rattle.std.specs.Prelude.{ℕ, ◌+◌, ◌-◌, ◌*◌, ◌/◌, List, map, length, sum, take}
use Rattle.std.specs.List.{range_with_len}

-- what the first few weights together get of the whole, rounded down
unfoldable pub share_upto : ℕ → List ℕ → ℕ → ℕ
share_upto whole weights n = whole * sum (take n weights) / sum weights

-- what each of the first few weights gets of the whole
unfoldable pub shares : ℕ → List ℕ → ℕ → List ℕ
shares whole weights n = map (λ j. share_upto whole weights (j + 1) - share_upto whole weights j) (range_with_len 0 n)

-- what each weight gets of the whole
abbrev pub spread : ℕ → List ℕ → List ℕ
spread whole weights = shares whole weights (length weights)
