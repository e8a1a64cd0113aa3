-- The lines that reports of several kinds share.
use Rattle.std.specs.Prelude.{ℕ, List, [], ◌∷◌, codes}
use Rattle.std.specs.Fmt.{decimal}
use Rattle.split_frac.specs.Texts.{line_of, with_spaces}

-- the line that says how many of the members take part
abbrev pub count_line : List ℕ → ℕ → ℕ → List ℕ
count_line word part members = line_of (word ∷ decimal part ∷ codes " of " ∷ decimal members ∷ [])

-- a line of a table of envy: the number of the member, and the entries
abbrev pub envy_line : ℕ → List (List ℕ) → List ℕ
envy_line member entries = line_of (codes "envy " ∷ decimal member ∷ codes ":" ∷ with_spaces entries ∷ [])
