-- How the cases of a trial are drawn: numbers, one after the other, from a multiplicative generator (Park, Miller and Stockmeyer 1993), and weights made of them.
use Rattle.std.specs.Prelude.{ℕ, zero, suc, ◌+◌, ◌*◌, ◌%◌, List, map}
use Rattle.std.specs.List.{range_with_len}
use Rattle.split_reports.specs.declared.limits.TheConstants.{DRAW_FACTOR, DRAW_MODULUS, WEIGHTS}

-- the number from which the draws of a trial begin
abbrev pub seed : ℕ → ℕ
seed number = number % DRAW_MODULUS

-- the draw that comes after a draw
abbrev pub next : ℕ → ℕ
next draw = draw * DRAW_FACTOR % DRAW_MODULUS

-- the draw that comes this many draws after one
unfoldable pub after : ℕ → ℕ → ℕ
after zero draw = draw
after (suc n) draw = next (after n draw)

-- this many weights, from one draw each
unfoldable pub weights_behind : ℕ → ℕ → List ℕ
weights_behind draw n = map (λ j. 1 + after (j + 1) draw % WEIGHTS) (range_with_len 0 n)
