-- The search for a head of a kind. `IsText` says which bytes are the whole text of a head with few enough fields, `AsksMore` for which bytes the
-- parser asks for more, and `IsFound` where a head is.
use Rattle.std.specs.Prelude.{◌≡◌, ◌≢◌, ℕ, ◌+◌, ◌<◌, ◌≤◌, List, [], ◌++◌, length, Option, IfSome, ⊤}
use Rattle.httparse.specs.declared.spans.HeaderSpan.{HeaderSpan}
use Rattle.split_base.specs.Faults.{counted}
use Rattle.http_heads.specs.declared.limits.TheConstants.{MAX_HEAD}
use Rattle.http_heads.specs.declared.search.Look.{Look}
use Rattle.http_heads.specs.declared.search.Look.TheVariants as looks
use Rattle.http_heads.specs.declared.search.Ahead.{Ahead}
use Rattle.http_heads.specs.declared.search.Ahead.TheVariants as ahead

-- no first part of the bytes, however long, is the text of a head
abbrev pub HasNone : (List ℕ → Type 0) → List ℕ → Type 0
HasNone IsText bytes = (text rest : List ℕ) → IsText text → bytes ≢ text ++ rest

-- no first part of the bytes is the text of a head, whatever bytes follow them
abbrev pub NeverHasOne : (List ℕ → Type 0) → List ℕ → Type 0
NeverHasOne IsText bytes = (more : List ℕ) → HasNone IsText (bytes ++ more)

-- there are bytes, and no first part of them is the text of a head of at most `MAX_HEAD` bytes
pub record IsBad (IsText : List ℕ → Type 0) (bytes : List ℕ) : Type 0 where
  pub some : 0 < length bytes
  pub none : (text rest : List ℕ) → IsText text → length text ≤ MAX_HEAD → bytes ≢ text ++ rest

-- no head is at the front of the bytes, the parser asks for more of them, and they are fewer than a head may have
pub record IsOpen (IsText AsksMore : List ℕ → Type 0) (bytes : List ℕ) : Type 0 where
  pub none : 0 < length bytes → HasNone IsText bytes
  pub asks : 0 < length bytes → AsksMore bytes
  pub few : length bytes < MAX_HEAD

-- what a look at the bytes answers: a head is there; none is, whatever follows; or none is yet, and the parser asks for more
abbrev pub LookSays : {T : Type 0} → (IsText AsksMore : List ℕ → Type 0) → (List ℕ → List HeaderSpan → T → Type 0) → List ℕ → List HeaderSpan → Look T → Type 0
LookSays IsText AsksMore IsFound bytes fields (looks.Found spans) = IsFound bytes fields spans
LookSays IsText AsksMore IsFound bytes fields looks.Never = NeverHasOne IsText bytes
LookSays IsText AsksMore IsFound bytes fields looks.NotYet = HasNone IsText bytes × AsksMore bytes

-- what the carry holds after a search: the head that was found; bytes that begin with no head; nothing; or, if a read failed, bytes after which the
-- parser asks for more
abbrev pub IsAhead : {T : Type 0} → (IsText AsksMore : List ℕ → Type 0) → (List ℕ → List HeaderSpan → T → Type 0) → List ℕ → List HeaderSpan → Ahead T → Type 0
IsAhead IsText AsksMore IsFound bytes fields (ahead.Found spans) = IsFound bytes fields spans
IsAhead IsText AsksMore IsFound bytes fields ahead.Bad = IsBad IsText bytes
IsAhead IsText AsksMore IsFound bytes fields ahead.End = bytes ≡ []
IsAhead IsText AsksMore IsFound bytes fields ahead.Fault = IsOpen IsText AsksMore bytes

-- what the bytes that are left begin with, if the source reveals them
abbrev pub SearchSays : {T : Type 0} → (List ℕ → Type 0) → Option (List ℕ) → Ahead T → Type 0
SearchSays IsText left (ahead.Found spans) = ⊤
SearchSays IsText left ahead.Bad = IfSome left (IsBad IsText)
SearchSays IsText left ahead.End = IfSome left (λ all. all ≡ [])
SearchSays IsText left ahead.Fault = ⊤

-- the source's count of faults after a search: one more if a read failed
abbrev pub faults_by : {T : Type 0} → ℕ → Ahead T → ℕ
faults_by before (ahead.Found spans) = before
faults_by before ahead.Bad = before
faults_by before ahead.End = before
faults_by before ahead.Fault = counted before

-- the most that the source's count of reads which gave nothing can be after a search: one more if the end was met, which rules out a head and a
-- failed read
abbrev pub ends_by : {T : Type 0} → ℕ → Ahead T → ℕ
ends_by before (ahead.Found spans) = before
ends_by before ahead.Bad = before + 1
ends_by before ahead.End = before + 1
ends_by before ahead.Fault = before
