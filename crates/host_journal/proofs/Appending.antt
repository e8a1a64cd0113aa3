-- What an append of an event's body says of events.
use Rattle.std.proofs.Common.{◌≡◌, ◌∙◌, ap, sym, subst, ℕ, List, [], ◌∷◌, ◌++◌, map, inl, inr, refl}
use Rattle.gate_log.specs.Records.{Stands}
use Rattle.gate_log.specs.Records as records
use Rattle.gate_log.specs.Log.{LogView, IsLogOf}
use Rattle.sealed_core.specs.Host.{HostView, EventView, Created, BidKept, Closed, Withdrawn, CanApply, apply}
use Rattle.host_journal.specs.Spelling.{IsEvent, IsOfVersion, spelling}
use Rattle.host_journal.specs.Journal.{AreKept, IsBeforeOrAfter, IsJournalOf}
use Rattle.host_journal.proofs.Kept.{kept_push, after_push, bodies_push}

-- each event is of version 2
of_two : (e : EventView) → IsOfVersion 2 e
of_two (Created moment c) = tt
of_two (BidKept moment id member turn given) = tt
of_two (Closed moment id) = tt
of_two (Withdrawn moment id member turn) = refl

-- the events with the one that was appended
pub next_kept : (images : List ℕ → Type 0) (log : LogView) (h : HostView) (secret : List ℕ) (events : List EventView) (e : EventView) → IsJournalOf images log h secret events → log.version ≡ 2 → IsEvent e → CanApply h e
    → AreKept log.version secret (events ++ e ∷ [])
next_kept images log h secret events e j two is can =
    kept_push log.version secret events e j.kept is (subst (λ (v : ℕ). IsOfVersion v e) (sym two) (of_two e)) (subst (λ (g : HostView). CanApply g e) j.is_host can)

-- the bodies with one more are those of the events with one more
pub bodies_are : (events : List EventView) (e : EventView) (body : List ℕ) → body ≡ spelling e → map spelling events ++ body ∷ [] ≡ map spelling (events ++ e ∷ [])
bodies_are events e body is = ap (λ (b : List ℕ). map spelling events ++ b ∷ []) is ∙ sym (bodies_push events e)

-- what an append may leave holds the events, with the new one or without it
pub either_events : (images : List ℕ → Type 0) (log : LogView) (h : HostView) (secret : List ℕ) (events : List EventView) (e : EventView) (body : List ℕ) → IsJournalOf images log h secret events → log.version ≡ 2 → IsEvent e
    → CanApply h e → body ≡ spelling e → (c : List ℕ) → records.IsBeforeOrAfter log.version secret (map spelling events) body c → IsBeforeOrAfter log.version secret events e c
either_events images log h secret events e body j two is can same c (inl before) = inl (record { stands = before; kept = j.kept })
either_events images log h secret events e body j two is can same c (inr after) =
    inr (record { stands = subst (λ (bodies : List (List ℕ)). Stands log.version secret bodies c) (bodies_are events e body same) after; kept = next_kept images log h secret events e j two is can })

-- after an append log, host and images go with the events and the new one
pub next_journal : (images later : List ℕ → Type 0) (log after : LogView) (h g : HostView) (secret : List ℕ) (events : List EventView) (e : EventView) (body : List ℕ) → IsJournalOf images log h secret events → log.version ≡ 2 → IsEvent e
    → CanApply h e → body ≡ spelling e → after.version ≡ log.version → g ≡ apply h e → IsLogOf later after secret (map spelling events ++ body ∷ []) → IsJournalOf later after g secret (events ++ e ∷ [])
next_journal images later log after h g secret events e body j two is can same version applied kept = record {
  is_log = subst (IsLogOf later after secret) (bodies_are events e body same) kept;
  kept = subst (λ (v : ℕ). AreKept v secret (events ++ e ∷ [])) (sym version) (next_kept images log h secret events e j two is can);
  is_host = applied ∙ ap (λ (f : HostView). apply f e) j.is_host ∙ sym (after_push secret events e);
}
