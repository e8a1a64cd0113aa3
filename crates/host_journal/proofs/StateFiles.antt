-- The files of a state.
use Rattle.std.proofs.Common.{◌≡◌, ◌⊎◌, ℕ, List, [], ◌∷◌, ◌++◌, Option, None, Some, sym, ◌∙◌, subst, inl, inr, ⊎_elim, Contains, not-suc-le-zero}
use Rattle.std.proofs.lemmas.List.Elements.{Contains-append_left, Contains-push, Contains-push_cases}
use Rattle.split_base.specs.declared.disk.Disk.{Ghosts}
use Rattle.split_base.specs.Disk.{Each}
use Rattle.gate_log.specs.Log.{LogView}
use Rattle.sealed_core.specs.Host.{EventView, HostView}
use Rattle.host_journal.specs.Journal.{HasEvents, HoldsOne, IsBeforeOrAfter}
use Rattle.host_journal.specs.States.{HasState, IsFile, IsFileOf, State, lists_of, ready_with}
use Rattle.host_journal.specs.declared.serving.Serving.{Serving}

first_among : (kept : List EventView) (waiting : Option EventView) → Contains (lists_of kept waiting) kept
first_among kept None = Contains-push [] kept
first_among kept (Some e) = Contains-append_left (kept ∷ []) ((kept ++ e ∷ []) ∷ []) kept (Contains-push [] kept)

second_among : (kept : List EventView) (e : EventView) → Contains (lists_of kept (Some e)) (kept ++ e ∷ [])
second_among kept e = Contains-push (kept ∷ []) (kept ++ e ∷ [])

-- a file of the events kept
pub holds_kept : (s : State) (version : ℕ) (file : List ℕ) → HasEvents version s.secret s.kept file → IsFile s file
holds_kept s version file has = (s.kept, first_among s.kept s.waiting, (version, has))

-- a file of the events kept, with the one more or without it
pub holds_either : (secret : List ℕ) (kept : List EventView) (e : EventView) (version : ℕ) (file : List ℕ) → IsBeforeOrAfter version secret kept e file
    → HoldsOne secret (lists_of kept (Some e)) file
holds_either secret kept e version file (inl has) = (kept, first_among kept (Some e), (version, has))
holds_either secret kept e version file (inr has) = (kept ++ e ∷ [], second_among kept e, (version, has))

-- each image is a file of the state
each_file : (images : List ℕ → Type 0) (log : LogView) (host : HostView) (secret : List ℕ) (kept : List EventView) (waiting : Option EventView) → IsFileOf images log host secret kept waiting
    → (file : List ℕ) → images file → HoldsOne secret (lists_of kept waiting) file
each_file images log host secret kept None j file now = (kept, first_among kept None, (log.version, record { stands = j.is_log.each file now; kept = j.kept }))
each_file images log host secret kept (Some e) each file now = each file now

pub files_of : {D : Type 0} (d : Ghosts D) (serving : Serving) (disk : D) (s : State) → HasState d serving disk s → d.is_honest disk → Each (d.images disk) (IsFile s)
files_of d serving disk s stands honest = each_file (d.images disk) serving.log serving.host.content s.secret s.kept s.waiting (stands.file honest)

-- the files of a host that was opened are those of the one that waited
pub opened_files : (s : State) (event : EventView) (secret : List ℕ) (kept : List EventView) → s.waiting ≡ Some event → secret ≡ s.secret → (kept ≡ s.kept) ⊎ (kept ≡ s.kept ++ event ∷ [])
    → (file : List ℕ) → IsFile (ready_with secret kept) file → IsFile s file
opened_files s event secret kept waits same two file (events, among, holds) =
    let one : events ≡ kept = only_one among in
    let is_kept : (events ≡ s.kept) ⊎ (events ≡ s.kept ++ event ∷ []) = ⊎_elim (λ (e : kept ≡ s.kept). inl (one ∙ e)) (λ (e : kept ≡ s.kept ++ event ∷ []). inr (one ∙ e)) two in
    subst (λ (o : Option EventView). HoldsOne s.secret (lists_of s.kept o) file) (sym waits) (
      events,
      ⊎_elim (λ (e : events ≡ s.kept). subst (λ (l : List EventView). Contains (lists_of s.kept (Some event)) l) (sym e) (first_among s.kept (Some event)))
          (λ (e : events ≡ s.kept ++ event ∷ []). subst (λ (l : List EventView). Contains (lists_of s.kept (Some event)) l) (sym e) (second_among s.kept event)) is_kept,
      (holds.0, subst (λ (x : List ℕ). HasEvents holds.0 x events file) same holds.1),
    )
  where
    only_one : Contains (kept ∷ []) events → events ≡ kept
    only_one among = ⊎_elim (λ none. absurd (not-suc-le-zero none.1)) (λ is. sym is) (Contains-push_cases [] kept events among)
