-- The two writes of an append, and what a crash may leave of them.
use Rattle.std.proofs.Common.{◌≡◌, inl, inr, ℕ, ◌+◌, List, [], ◌∷◌, length, subst}
use Rattle.split_base.specs.Disk.{IsWritten, IsTorn, Tears, Only}
use Rattle.gate_log.specs.Records.{behind_gate, IsStaged, IsAppended, MayBeAppending}

module _ (p place : ℕ) (at : p ≡ place) (body piece : List ℕ) (is : piece ≡ behind_gate body) where
  -- the first write
  pub staged_by : (old staged : List ℕ) → IsWritten old (p + 1) piece staged → IsStaged place body old staged
  staged_by old staged written =
      subst (λ (k : ℕ). IsWritten old (k + 1) (behind_gate body) staged) at (subst (λ (l : List ℕ). IsWritten old (p + 1) l staged) is written)

  -- both writes
  pub appended_by : (old staged new : List ℕ) → IsWritten old (p + 1) piece staged → IsWritten staged p (1 ∷ []) new → IsAppended place body old new
  appended_by old staged new first second = (staged, staged_by old staged first, subst (λ (k : ℕ). IsWritten staged k (1 ∷ []) new) at second)

  -- what a crash may leave of the first write
  pub tears_first : (images : List ℕ → Type 0) (old c : List ℕ) → Tears images (p + 1) (length piece) c → MayBeAppending images place body old c
  tears_first images old c torn = inl (subst (λ (k : ℕ). Tears images (k + 1) (length (behind_gate body)) c) at (subst (λ (l : List ℕ). Tears images (p + 1) (length l) c) is torn))

  -- and of the second, where the first is stable
  pub tears_second : (images mid : List ℕ → Type 0) (old staged c : List ℕ) → IsWritten old (p + 1) piece staged → Only staged mid → Tears mid p 1 c → MayBeAppending images place body old c
  tears_second images mid old staged c first only (d, was, torn) =
      inr (staged, staged_by old staged first, subst (λ (k : ℕ). IsTorn k 1 staged c) at (subst (λ (l : List ℕ). IsTorn p 1 l c) (only d was) torn))
