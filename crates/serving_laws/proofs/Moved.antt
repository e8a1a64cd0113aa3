-- How a request changes the state.
use Rattle.std.proofs.Common.{◌≡◌, ℕ, List, [], ◌∷◌, ◌++◌, Option, refl, ap, ◌∙◌, inl, inr, ⊎_elim, Ok}
use Rattle.split_base.specs.declared.disk.Disk.{Ghosts}
use Rattle.host_journal.specs.States.{State, ready_with}
use Rattle.serving.specs.Exchanges.{Exchange}
use Rattle.requests.specs.Cases.{Settles, Steps}
use Rattle.requests.specs.Commands.{command_of}
use Rattle.split_http.specs.declared.routes.Route.{Route}
use Rattle.split_http.specs.Places.{IsRouted}
use Rattle.sealed_core.specs.Host.{EventView}
use Rattle.serving_laws.specs.Moving.{IsAnsweredAt, IsReadyFor, IsReopened, Moves}
use Rattle.reply_texts.specs.Contents.{ContentView}

pub settles_reopen : {D : Type 0} (d : Ghosts D) (disk after : D) (s new : State) (result : Option ContentView) → Settles d disk after s new result → IsReopened d disk s new
settles_reopen d disk after s new result (Settles.ready a b is c) = inl is
settles_reopen d disk after s new result (Settles.store_fault e a up torn is c) = inl is
settles_reopen d disk after s new result (Settles.damaged e place a same first never is c) = inl is
settles_reopen d disk after s new result (Settles.opened e secret kept a same told can is c) = inr (e, secret, kept, a, told.read, is)

settles_ready : {D : Type 0} (d : Ghosts D) (disk after : D) (s new : State) (result : Option ContentView) → d.is_honest disk → Settles d disk after s new result → IsReadyFor s new
settles_ready d disk after s new result honest (Settles.ready a b is c) = inl is
settles_ready d disk after s new result honest (Settles.store_fault e a up torn is c) = inl is
settles_ready d disk after s new result honest (Settles.damaged e place a same first never is c) = inl is
settles_ready d disk after s new result honest (Settles.opened e secret kept a same told can is c) =
    let found = told.settled honest in
    let is_ready : new ≡ ready_with s.secret kept = is ∙ ap (λ (x : List ℕ). ready_with x kept) found.secret_stays in
    ⊎_elim (λ (still : kept ≡ s.kept). inr (e, a, inl (is_ready ∙ ap (λ (l : List EventView). ready_with s.secret l) still)))
    (λ (grown : kept ≡ s.kept ++ e ∷ []). inr (e, a, inr (is_ready ∙ ap (λ (l : List EventView). ready_with s.secret l) grown))) found.either

module _ {D : Type 0} (d : Ghosts D) (x : Exchange (D × State)) where
  pub answered_before : IsAnsweredAt d x x.before.1
  answered_before = (inl refl, λ honest. inl refl)

  pub answered_at : (between : D) (settled : State) (result : Option ContentView) → Settles d x.before.0 between x.before.1 settled result → IsAnsweredAt d x settled
  answered_at between settled result settles =
      (settles_reopen d x.before.0 between x.before.1 settled result settles, λ honest. settles_ready d x.before.0 between x.before.1 settled result honest settles)

  pub steps_move : (route : Route) (between : D) (settled : State) → IsRouted x.head.verb x.head.path (Ok route)
      → Steps d between x.after.0 x.moment (command_of route.place route.id x.head.key x.body) settled x.after.1 x.due.said → Moves x settled
  steps_move route between settled routed (Steps.no_event told a b r is c) = inl is
  steps_move route between settled routed (Steps.kept told e a can same appended r is c) = inr (e, (route, routed, a), inl is)
  steps_move route between settled routed (Steps.failed e a up is c) = inr (e, (route, routed, a), inr (is, c))
  steps_move route between settled routed (Steps.memory id what p a is c) = inl is
