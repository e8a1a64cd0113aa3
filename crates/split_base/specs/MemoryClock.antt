-- The state of a clock in memory, and what each call does to it.
use Rattle.std.specs.Prelude.{◌≡◌, ℕ, List, [], ◌∷◌, Option, None, Some, Contains}
use Rattle.split_base.specs.Faults.{counted}

-- the moments that are left, the numbers of the calls that fail, and how many calls were made and have failed
pub record ClockState : Type 0 where
  pub moments : List ℕ
  pub fails : List ℕ
  pub calls : ℕ
  pub faults : ℕ

-- the first moment is gone, unless it is the last one
abbrev pub moved_on : List ℕ → List ℕ
moved_on [] = []
moved_on (m ∷ []) = m ∷ []
moved_on (m ∷ n ∷ ms) = n ∷ ms

-- the first moment, or none if none is left
abbrev pub first_of : List ℕ → Option ℕ
first_of [] = None
first_of (m ∷ ms) = Some m

-- after a call that gave a moment
abbrev pub after_moment : ClockState → ClockState
after_moment c = record { moments = moved_on c.moments; fails = c.fails; calls = counted c.calls; faults = c.faults }

-- after a call that failed: only the counts differ
abbrev pub after_no_moment : ClockState → ClockState
after_no_moment c = record { moments = c.moments; fails = c.fails; calls = counted c.calls; faults = counted c.faults }

-- one call: it fails if its number is listed, and otherwise gives the first moment
abbrev pub Ticked : ClockState → Option ℕ → ClockState → Type 0
Ticked old None new = Contains old.fails (counted old.calls) × (new ≡ after_no_moment old)
Ticked old (Some moment) new = (Contains old.fails (counted old.calls) → ⊥) × (first_of old.moments ≡ Some moment) × (new ≡ after_moment old)
