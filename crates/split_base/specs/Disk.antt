-- What the calls of a disk do to its file, and what a crash between two syncs may do to it.
use Rattle.std.specs.Prelude.{◌≡◌, ◌⊎◌, ℕ, ◌+◌, ◌-◌, ◌≤◌, List, [], ◌∷◌, ◌++◌, length, take, drop}

-- the new file has these bytes at this place, and elsewhere it is the old one; a gap between the old end and the place may hold anything
pub record IsOver (old : List ℕ) (place : ℕ) (bytes new : List ℕ) : Type 0 where
  pub gap : List ℕ
  pub gap_size : length gap ≡ place - length old
  pub is : new ≡ take place old ++ gap ++ bytes ++ drop (place + length bytes) old

-- the file after a whole write; a write of no bytes changes nothing
abbrev pub IsWritten : (old : List ℕ) (place : ℕ) (bytes new : List ℕ) → Type 0
IsWritten old place [] new = new ≡ old
IsWritten old place (b ∷ bytes) new = IsOver old place (b ∷ bytes) new

-- the file if a crash cuts a write of n bytes short: any bytes in the range and past the old end, and elsewhere the old ones
pub record IsTorn (place n : ℕ) (old new : List ℕ) : Type 0 where
  pub no_shorter : length old ≤ length new
  pub before : take place (take (length old) new) ≡ take place old
  pub after : drop (place + n) (take (length old) new) ≡ drop (place + n) old

-- up to this end, and outside a range of n bytes at the place, a read gives the same bytes
pub record IsSameOutside (place n end : ℕ) (old new : List ℕ) : Type 0 where
  pub no_shorter : end ≤ length new
  pub before : take place (take end new) ≡ take place (take end old)
  pub after : drop (place + n) (take end new) ≡ drop (place + n) (take end old)

-- each image of the new disk was already one of the old
abbrev pub AddsNone : (List ℕ → Type 0) → (List ℕ → Type 0) → Type 0
AddsNone old new = (c : List ℕ) → new c → old c

-- there is no image but this one
abbrev pub Only : List ℕ → (List ℕ → Type 0) → Type 0
Only file images = (c : List ℕ) → images c → c ≡ file

-- each image has P
abbrev pub Each : (List ℕ → Type 0) → (List ℕ → Type 0) → Type 0
Each images P = (c : List ℕ) → images c → P c

-- this place is not past the stable end: each image reaches it
abbrev pub IsStableTo : (List ℕ → Type 0) → ℕ → Type 0
IsStableTo images end = Each images (λ c. end ≤ length c)

-- an image from before, perhaps torn by a write of n bytes at the place
abbrev pub Tears : (List ℕ → Type 0) → ℕ → ℕ → List ℕ → Type 0
Tears old place n c = (d : List ℕ) × old d × IsTorn place n d c

-- time goes on: a crash since t might have left what it might have left before, or one of these images
pub record Elapses (before now : ℕ) (past since : ℕ → List ℕ → Type 0) (images : List ℕ → Type 0) : Type 0 where
  pub later : before ≤ now
  pub nothing_else : (t : ℕ) (c : List ℕ) → t ≤ before → since t c → past t c ⊎ images c
  pub keeps : (t : ℕ) (c : List ℕ) → t ≤ before → past t c → since t c

-- a crash at any moment since old leaves a file that has P
pub record LeavesOnly {D : Type 0} (moment : D → ℕ) (left_since : D → ℕ → List ℕ → Type 0) (old new : D) (P : List ℕ → Type 0) : Type 0 where
  pub later : moment old ≤ moment new
  pub each : (c : List ℕ) → left_since new (moment old) c → P c
  -- for a run that began earlier
  pub before : (t : ℕ) (c : List ℕ) → t ≤ moment old → left_since new t c → left_since old t c ⊎ P c
  -- and what might have been left then still counts
  pub keeps : (t : ℕ) (c : List ℕ) → t ≤ moment old → left_since old t c → left_since new t c

-- one or more calls that change no byte: a read gives the same, and a crash since then leaves what it might have left before
pub record Rests {D : Type 0} (seen : D → List ℕ) (images : D → List ℕ → Type 0) (moment : D → ℕ) (left_since : D → ℕ → List ℕ → Type 0) (old new : D) : Type 0 where
  pub same : seen new ≡ seen old
  pub adds_none : AddsNone (images old) (images new)
  pub time : Elapses (moment old) (moment new) (left_since old) (left_since new) (images old)

-- a write of n bytes at the place, whether it succeeded or failed: each image after it is one from before, perhaps torn
pub record MayTear {D : Type 0} (images : D → List ℕ → Type 0) (moment : D → ℕ) (left_since : D → ℕ → List ℕ → Type 0) (place n : ℕ) (old new : D) : Type 0 where
  pub crash : Each (images new) (Tears (images old) place n)
  pub time : Elapses (moment old) (moment new) (left_since old) (left_since new) (images new)
