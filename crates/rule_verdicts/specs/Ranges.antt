-- The range in which printed whole numbers have to lie for rules to read them as small ones.
use Rattle.std.specs.Prelude.{ℕ, ℤ, pos, ◌≤ℤ◌, List, All}

-- each number is between the least and the most, both included
abbrev pub AreBetween : ℕ → ℕ → List ℤ → Type 0
AreBetween least most numbers = All (λ number. (pos least ≤ℤ number) × (number ≤ℤ pos most)) numbers
