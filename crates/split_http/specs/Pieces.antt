-- How much of an HTTP reply was written: a first part of its bytes, or one that lacks at least the last byte.
use Rattle.std.specs.Prelude.{◌≡◌, ◌<◌, ℕ, List, length, ◌++◌, Option}
use Rattle.std.specs.Io.KnownBytes.{Appends}

-- a first part of the bytes was written
abbrev pub AppendsPart : Option (List ℕ) → Option (List ℕ) → List ℕ → Type 0
AppendsPart old new bytes = (part : List ℕ) × (rest : List ℕ) × (bytes ≡ part ++ rest) × Appends old new part

-- a first part of the bytes was written, and at least one of them is missing
abbrev pub AppendsProperPart : Option (List ℕ) → Option (List ℕ) → List ℕ → Type 0
AppendsProperPart old new bytes = (part : List ℕ) × (rest : List ℕ) × (bytes ≡ part ++ rest) × (0 < length rest) × Appends old new part
