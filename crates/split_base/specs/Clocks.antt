-- What the calls of a clock answer, and how they change its count of faults.
use Rattle.std.specs.Prelude.{◌≡◌, ℕ, ◌≤◌, List, [], ◌∷◌, Option, None, Some, Result, Ok, Err}
use Rattle.split_base.specs.Faults.{counted}

-- a clock's answer: the moment, or none if the call failed
abbrev pub answer_of : {E : Type 0} → Result ℕ E → Option ℕ
answer_of (Ok moment) = Some moment
answer_of (Err e) = None

-- the count of faults after an answer: one more if the call failed, otherwise the same
abbrev pub faults_with : ℕ → Option ℕ → ℕ
faults_with before (Some moment) = before
faults_with before None = counted before

-- the calls of a clock from one state of it to another, with their answers
abbrev pub ClockRun : {C : Type 0} → (C → Option ℕ → C → Type 0) → (C → ℕ) → (old new : C) → List (Option ℕ) → Type 0
ClockRun gives faults old new [] = new ≡ old
ClockRun {C} gives faults old new (answer ∷ answers) =
    (mid : C) × gives old answer mid × (faults old ≤ faults mid) × (faults mid ≡ faults_with (faults old) answer) × ClockRun gives faults mid new answers
