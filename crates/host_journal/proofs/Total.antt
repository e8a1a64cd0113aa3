-- Each file holds events, or it has a first fault.
use Rattle.std.proofs.Common.{◌≡◌, ◌⊎◌, inl, inr, ⊎_elim, ℕ, zero, suc, ◌+◌, ◌≤◌, ◌<◌, ◌^◌, List, [], ◌∷◌, ◌++◌, length, map, get_or, All, refl, ap, subst, arith}
use Rattle.std.proofs.lemmas.Bool.{cases_lt}
use Rattle.std.proofs.lemmas.List.{get_or_past}
use Rattle.std.proofs.lemmas.List.Sums.{sum_by-append}
use Rattle.gate_log.specs.Records.{Begins, place_after}
use Rattle.gate_log.specs.Faults.{GoesOn, IsHeaderFault}
use Rattle.sealed_core.specs.Host.{EventView, CanApply}
use Rattle.sealed_core.specs.Runs.{host_of}
use Rattle.host_journal.specs.Spelling.{IsOfVersion, Spells, spelling}
use Rattle.host_journal.specs.Journal.{AreKept, HoldsSome, IsFirstFault, IsNoEvent}
use Rattle.host_journal.proofs.Appending.{bodies_are}
use Rattle.host_journal.proofs.Decisions.{event_or_none}
use Rattle.host_journal.proofs.Fields.{IsBytes}
use Rattle.host_journal.proofs.Kept.{kept_push}
use Rattle.host_journal.proofs.Replay.{none_kept}

-- what holds of the records of every file
pub record Steps : Type 0 where
  pub header_or_fault : (file : List ℕ) → ((place : ℕ) × IsHeaderFault place file) ⊎ ((v : ℕ) × (secret : List ℕ) × Begins v secret [] file)
  pub goes_on : (v : ℕ) (secret : List ℕ) (bodies : List (List ℕ)) (file : List ℕ) → All (λ b. b < 2 ^ 8) file → Begins v secret bodies file → GoesOn v secret bodies file
  pub within : (v : ℕ) (secret : List ℕ) (bodies : List (List ℕ)) (file : List ℕ) → Begins v secret bodies file → place_after bodies < length file

-- bytes are below 256
are_bytes : (body : List ℕ) → All (λ b. b < 2 ^ 8) body → IsBytes body
are_bytes body small i = by_place (cases_lt i (length body))
  where
    by_place : (i < length body) ⊎ (length body ≤ i) → get_or body i 0 < 256
    by_place (inl lt) = small i 0 lt
    by_place (inr past) = omega (arith, get_or_past body i 0 past)

-- a record more takes bytes
place_grows : (bodies : List (List ℕ)) (body : List ℕ) → place_after bodies + 5 ≤ place_after (bodies ++ body ∷ [])
place_grows bodies body = omega (arith, sum_by-append (λ (b : List ℕ). 5 + length b) bodies (body ∷ []))

module _ (file : List ℕ) (v : ℕ) (secret : List ℕ) (events : List EventView) (kept : AreKept v secret events) where
  -- a record more, of an event or not
  event_meaning : (body : List ℕ) → Begins v secret (map spelling events ++ body ∷ []) file
      → ((e : EventView) → AreKept v secret (events ++ e ∷ []) → map spelling events ++ body ∷ [] ≡ map spelling (events ++ e ∷ []) → HoldsSome file ⊎ ((place : ℕ) × IsFirstFault place file))
      → ((e : EventView) × Spells e body × IsOfVersion v e × CanApply (host_of secret events) e) ⊎ IsNoEvent v (host_of secret events) body → HoldsSome file ⊎ ((place : ℕ) × IsFirstFault place file)
  event_meaning body more later (inl (e, spells, of, can)) = later e (kept_push v secret events e kept spells.0 of can) (bodies_are events e body spells.1)
  event_meaning body more later (inr none) =
      inr (place_after (map spelling events), inr (record { version = v; secret = secret; events = events; kept = kept; fault = inr (record { body = body; begins = more; no_event = none; at = refl }) }))

  -- what follows some events
  next_meaning : ((body : List ℕ) → Begins v secret (map spelling events ++ body ∷ []) file → (e : EventView) → AreKept v secret (events ++ e ∷ []) → map spelling events ++ body ∷ [] ≡ map spelling (events ++ e ∷ [])
      → HoldsSome file ⊎ ((place : ℕ) × IsFirstFault place file)) → GoesOn v secret (map spelling events) file → HoldsSome file ⊎ ((place : ℕ) × IsFirstFault place file)
  next_meaning later (inl stands) = inl (v, secret, events, record { stands = stands; kept = kept })
  next_meaning later (inr (inl (place, fault))) = inr (place, inr (record { version = v; secret = secret; events = events; kept = kept; fault = inl fault }))
  next_meaning later (inr (inr (body, bytes, more))) = event_meaning body more (later body more) (event_or_none v (host_of secret events) body (are_bytes body bytes))

-- from some events on, with no more bytes after them than this
meaning_from : Steps → (file : List ℕ) → All (λ b. b < 2 ^ 8) file → (left v : ℕ) (secret : List ℕ) (events : List EventView) → AreKept v secret events → Begins v secret (map spelling events) file
    → length file ≤ place_after (map spelling events) + left → HoldsSome file ⊎ ((place : ℕ) × IsFirstFault place file)
meaning_from steps file small zero v secret events kept begins le = absurd (omega (arith, le, steps.within v secret (map spelling events) file begins))
meaning_from steps file small (suc left) v secret events kept begins le =
    next_meaning file v secret events kept
    (λ body more e also same. meaning_from steps file small left v secret (events ++ e ∷ []) also (subst (λ (l : List (List ℕ)). Begins v secret l file) same more)
    (omega (arith, le, place_grows (map spelling events) body, ap place_after same)))
    (steps.goes_on v secret (map spelling events) file small begins)

pub has_meaning : Steps → (file : List ℕ) → All (λ b. b < 2 ^ 8) file → HoldsSome file ⊎ ((place : ℕ) × IsFirstFault place file)
has_meaning steps file small =
    ⊎_elim (λ (place, fault). inr (place, inl fault)) (λ (v, secret, begins). meaning_from steps file small (length file) v secret [] (none_kept v secret) begins (omega arith)) (steps.header_or_fault file)
