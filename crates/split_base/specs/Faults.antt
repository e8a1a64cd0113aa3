-- What an object's count of faults shows of its calls.
use Rattle.std.specs.Prelude.{◌≡◌, ◌⊎◌, ℕ, ◌+◌, ◌-◌, ◌^◌, ◌<◌, ◌≤◌, min, Result, IsErr, MatchResult}

-- the count went up, or it is at its greatest value and can't
abbrev pub HasRisen : ℕ → ℕ → Type 0
HasRisen before now = (before < now) ⊎ (now ≡ 2 ^ 64 - 1)

-- the count never falls, and a call fails only if it has risen
pub record HasCause {T E : Type 0} (before now : ℕ) (result : Result T E) : Type 0 where
  pub never_falls : before ≤ now
  pub failed : IsErr result → HasRisen before now

-- one more, up to the greatest number that is kept
abbrev pub counted : ℕ → ℕ
counted n = min (n + 1) (2 ^ 64 - 1)

-- the count goes up by one if the call fails, and only then
abbrev pub IsCounted : {T E : Type 0} → ℕ → ℕ → Result T E → Type 0
IsCounted before now result = MatchResult result (λ _. now ≡ before) (λ _. now ≡ counted before)
