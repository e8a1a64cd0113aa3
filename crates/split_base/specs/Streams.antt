-- What a call does to the bytes that a source has left or a sink holds, if the object reveals them.
use Rattle.std.specs.Prelude.{◌≡◌, ℕ, ◌+◌, ◌<◌, ◌≤◌, List, length, take, Option, Result, MatchResult}
use Rattle.std.specs.Io.KnownBytes.{Consumes, Appends, Keeps, IsAtEnd}

-- this many bytes were taken; a buffer with room gets none only at the end of the input, and a failed read takes
-- none
abbrev pub Reads : {E : Type 0} → Option (List ℕ) → Option (List ℕ) → Result ℕ E → List ℕ → Type 0
Reads old new result into =
    MatchResult result
    (λ count. (count ≤ length into) × Consumes old new (take count into) × (count ≡ 0 → 0 < length into → IsAtEnd new))
    (λ _. Keeps old new)

-- a read that gives nothing is counted at most once, and no other call is counted
abbrev pub CountsEmpty : {E : Type 0} → ℕ → ℕ → Result ℕ E → Type 0
CountsEmpty before now result = MatchResult result (λ count. (now ≤ before + 1) × (0 < count → now ≤ before)) (λ _. now ≤ before)

-- the end was met at most once, and not at all if the answer is a failure
abbrev pub EndsOnce : {T E : Type 0} → ℕ → ℕ → Result T E → Type 0
EndsOnce before now result = MatchResult result (λ _. now ≤ before + 1) (λ _. now ≤ before)

-- this many bytes were written, at least one of a piece that isn't empty; a failed write writes none
abbrev pub Writes : {E : Type 0} → Option (List ℕ) → Option (List ℕ) → Result ℕ E → List ℕ → Type 0
Writes old new result piece =
    MatchResult result
    (λ count. (count ≤ length piece) × Appends old new (take count piece) × (0 < length piece → 0 < count))
    (λ _. Keeps old new)
