-- A disk that goes on while one state becomes another.
use Rattle.std.proofs.Common.{◌≡◌, ◌⊎◌, ℕ, List, sym, subst, inl, inr, ⊎_elim, le_refl, le_trans}
use Rattle.split_base.specs.declared.disk.Disk.{Ghosts}
use Rattle.split_base.specs.Disk.{LeavesOnly}
use Rattle.split_lemmas.proofs.Moments.{joined, started}
use Rattle.host_journal.specs.States.{HasState, IsEither, IsFile, Passes, State}
use Rattle.host_journal.specs.declared.serving.Serving.{Serving}
use Rattle.host_journal.proofs.StateFiles.{files_of}

module _ {D : Type 0} (d : Ghosts D) where
  -- where the disk isn't called
  pub passes_none : ((disk : D) (file : List ℕ) → d.is_honest disk → d.left_since disk (d.moment disk) file → d.images disk file)
      → (serving : Serving) (disk after : D) (s : State) → HasState d serving disk s → after ≡ disk → Passes d disk s after s
  passes_none only serving disk after s stands same = subst (λ (x : D). Passes d disk s x s) (sym same) (record {
    count = le_refl (d.faults disk);
    honest = (λ h. h, λ h. h);
    any_moment = λ h. started d.moment d.left_since disk (IsEither s s) (λ file left. inl (files_of d serving disk s stands h file (only disk file h left)));
    left = files_of d serving disk s stands;
  })

  -- one call after another, as the opening of a file and then an append: a crash at any moment leaves a file of one of the three states
  pub three_states : (disk between after : D) (s settled new : State) → Passes d disk s between settled → Passes d between settled after new
      → d.is_honest disk → LeavesOnly d.moment d.left_since disk after (λ file. IsEither s settled file ⊎ IsFile new file)
  three_states disk between after s settled new one two h = joined d.moment d.left_since disk between after (IsEither s settled) (IsEither settled new) _
      (one.any_moment h) (two.any_moment (one.honest.0 h)) (λ file either. inl either) (λ file either. ⊎_elim (λ is. inl (inr is)) (λ is. inr is) either)

  -- where the files between are those of the state before, of one of two
  pub passes_then : (disk between after : D) (s settled new : State) → Passes d disk s between settled → Passes d between settled after new
      → (d.is_honest disk → (file : List ℕ) → IsFile settled file → IsFile s file) → Passes d disk s after new
  passes_then disk between after s settled new one two back = record {
    count = le_trans one.count two.count;
    honest = (λ h. two.honest.0 (one.honest.0 h), λ h. one.honest.1 (two.honest.1 h));
    any_moment = λ h. joined d.moment d.left_since disk between after (IsEither s settled) (IsEither settled new) (IsEither s new) (one.any_moment h) (two.any_moment (one.honest.0 h))
        (λ file either. ⊎_elim (λ is. inl is) (λ is. inl (back h file is)) either) (λ file either. ⊎_elim (λ is. inl (back h file is)) (λ is. inr is) either);
    left = two.left;
  }
