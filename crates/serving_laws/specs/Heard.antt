-- What a caller of an instance gets in a run of requests, before the instance is closed.
use Rattle.std.specs.Prelude.{◌≡◌, ◌⊎◌, ℕ, ◌==◌, ◌&&◌, Bool, false, List, [], ◌∷◌, ◌++◌, map, is_some, Option, None, Some, Ok, if◌then◌else◌}
use Rattle.std.specs.Option.{option_map, option_to_list}
use Rattle.host_journal.specs.States.{State, host_in}
use Rattle.serving.specs.Exchanges.{Exchange}
use Rattle.reply_texts.specs.Contents.{ContentView, method_told, refusal_told}
use Rattle.reply_texts.specs.declared.refusals.ServiceRefusal.TheVariants as service
use Rattle.reply_texts.specs.Sealing.{Told}
use Rattle.requests.specs.Commands.{command_of}
use Rattle.requests.specs.Replies.{Replies}
use Rattle.requests.specs.Sent.{status_and_text}
use Rattle.sealed_core.specs.Host.{EventView, HostView}
use Rattle.sealed_core.specs.Sealed.{Asked, Caller, caller_number, is_closed, next, same_caller}
use Rattle.sealed_core.specs.Step.{CommandView, Create, To, step}
use Rattle.split_http.specs.declared.replies.Allow.{Allow}
use Rattle.split_http.specs.declared.routes.Route.{Route}
use Rattle.split_http.specs.Places.{IsRouted}
use Rattle.serving_laws.specs.Sealing.{TellsNoStep}

-- the request takes this step of the machine from a state: it has the step's reply, and the step's event, if it makes one, was kept after those before
pub record IsStepAt {D : Type 0} (x : Exchange (D × State)) (s : State) (a : Asked) : Type 0 where
  pub route : Route
  pub told : ContentView
  pub routed : IsRouted x.head.verb x.head.path (Ok route)
  pub moment : a.moment ≡ x.moment
  pub command : a.command ≡ command_of route.place route.id x.head.key x.body
  pub replies : Replies (host_in s) a.moment a.command told
  pub said : x.due.said ≡ told
  pub secret : x.after.1.secret ≡ s.secret
  pub kept : x.after.1.kept ≡ s.kept ++ option_to_list (step (host_in s) a.moment a.command).event

-- the request takes this step from the state before it
abbrev pub IsStep : {D : Type 0} → Exchange (D × State) → Asked → Type 0
IsStep x a = IsStepAt x x.before.1 a

-- the path or the method of the request is refused, and nothing changes
abbrev pub IsUnrouted : {D : Type 0} → Exchange (D × State) → Type 0
IsUnrouted x = (x.after.1 ≡ x.before.1) × ((x.due.said ≡ refusal_told service.NoRoute) ⊎ ((allow : Allow) × (x.due.said ≡ method_told allow)))

-- a step that the machine took in a run, and what was said in reply to it: nothing if its append failed, which was told, and its event was in the
-- file when that was opened again
pub record Taken : Type 0 where
  pub asked : Asked
  pub said : Option ContentView

-- the event that waits is that of a step
abbrev pub WaitsByStep : State → Type 0
WaitsByStep s = (event : EventView) → s.waiting ≡ Some event → (a : Asked) × ((step (host_in s) a.moment a.command).event ≡ Some event)

-- the same secret, and these events
abbrev pub HasKept : State → List ℕ → List EventView → Type 0
HasKept s secret kept = (s.secret ≡ secret) × (s.kept ≡ kept)

-- the steps between the state before a request and the one at which it is answered: none, or that of the event that waited
pub data Finds (s settled : State) (steps : List Taken) : Type 0 where
  nothing : HasKept settled s.secret s.kept → steps ≡ [] → Finds s settled steps
  found : (a : Asked) (event : EventView) → s.waiting ≡ Some event → (step (host_in s) a.moment a.command).event ≡ Some event → HasKept settled s.secret (s.kept ++ event ∷ [])
      → steps ≡ record { asked = a; said = None } ∷ [] → Finds s settled steps

-- the steps of the request itself: none, if its reply is not that of a step, or says that the file isn't a journal, which never happens on an honest
-- disk (`IsSealedReply`); or the one step that it takes
pub data Takes {D : Type 0} (x : Exchange (D × State)) (settled : State) (steps : List Taken) : Type 0 where
  nothing : TellsNoStep x settled → HasKept x.after.1 settled.secret settled.kept → steps ≡ [] → Takes x settled steps
  damaged : (place : ℕ) → x.due.said ≡ refusal_told (service.StoreDamaged place) → HasKept x.after.1 settled.secret settled.kept → steps ≡ [] → Takes x settled steps
  one : (a : Asked) → IsStepAt x settled a → steps ≡ record { asked = a; said = Some x.due.said } ∷ [] → Takes x settled steps

-- in these requests, each answered at its state, the machine takes these steps, in order, and no others
abbrev pub TakesSteps : {D : Type 0} → List (Exchange (D × State)) → List State → List Taken → Type 0
TakesSteps [] [] steps = steps ≡ []
TakesSteps [] (settled ∷ states) steps = ⊥
TakesSteps (x ∷ run) [] steps = ⊥
TakesSteps (x ∷ run) (settled ∷ states) steps =
    (found own later : List Taken) × (steps ≡ found ++ (own ++ later)) × Finds x.before.1 settled found × Takes x settled own × TakesSteps run states later

-- what was asked, step by step
abbrev pub asked_of : List Taken → List Asked
asked_of steps = map (λ s. s.asked) steps

-- which of the steps have a reply
abbrev pub replied_of : List Taken → List Bool
replied_of steps = map (λ s. is_some s.said) steps

-- the command asks something of this instance, and comes from this caller
abbrev pub is_own : HostView → ℕ → Caller → CommandView → Bool
is_own h id caller (Create body) = false
is_own h id caller (To other key ask) = (other == id) && same_caller (caller_number h other key) caller

-- what the caller gets, step by step, before the step that closes the instance: the reply to their own command on it, otherwise nothing
abbrev pub got_all : HostView → ℕ → Caller → List Taken → List (Option Told)
got_all h id caller [] = []
got_all h id caller (s ∷ steps) =
    if is_closed (next h s.asked) id then []
    else (if is_own h id caller s.asked.command then option_map status_and_text s.said else None) ∷ got_all (next h s.asked) id caller steps
