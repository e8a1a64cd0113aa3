-- The events grow.
use Rattle.std.proofs.Common.{◌≡◌, ℕ, List, [], ◌∷◌, ◌++◌, Option, Some, None, sym, ap, ◌∙◌, ⊎_elim, append_assoc, append-nil}
use Rattle.split_base.specs.declared.disk.Disk.{Ghosts}
use Rattle.host_journal.specs.States.{State}
use Rattle.serving.specs.Exchanges.{Answered, Exchange}
use Rattle.requests.specs.Cases.{Responds, Settles, Steps}
use Rattle.sealed_core.specs.Host.{EventView}
use Rattle.sealed_core.specs.Step.{CommandView}
use Rattle.split_http.specs.declared.head.Head.{Head}
use Rattle.serving.specs.Serving.{host_service}
use Rattle.serving_laws.proofs.Chains.{passes_first, responds_first}
use Rattle.reply_texts.specs.Contents.{ContentView}

-- the events of the later state are those of the earlier one, and others after them
pub record Grows (s new : State) : Type 0 where
  pub secret : new.secret ≡ s.secret
  pub more : List EventView
  pub kept : new.kept ≡ s.kept ++ more

grows_none : (s new : State) → new ≡ s → Grows s new
grows_none s new is = record { secret = ap (λ (x : State). x.secret) is; more = []; kept = ap (λ (x : State). x.kept) is ∙ sym (append-nil s.kept) }

grows_join : (a b c : State) → Grows a b → Grows b c → Grows a c
grows_join a b c p q = record {
  secret = q.secret ∙ p.secret;
  more = p.more ++ q.more;
  kept = q.kept ∙ ap (λ (l : List EventView). l ++ q.more) p.kept ∙ append_assoc a.kept p.more q.more;
}

settles_grows : {D : Type 0} (d : Ghosts D) (disk after : D) (s new : State) (result : Option ContentView) → d.is_honest disk → Settles d disk after s new result → Grows s new
settles_grows d disk after s new result honest (Settles.ready a b is c) = grows_none s new is
settles_grows d disk after s new result honest (Settles.store_fault e a up torn is c) = grows_none s new is
settles_grows d disk after s new result honest (Settles.damaged e place a same first never is c) = grows_none s new is
settles_grows d disk after s new result honest (Settles.opened e secret kept a same told can is c) =
    let settled = told.settled honest in
    let one : new.secret ≡ s.secret = ap (λ (x : State). x.secret) is ∙ settled.secret_stays in
    ⊎_elim
    (λ (still : kept ≡ s.kept). record { secret = one; more = []; kept = ap (λ (x : State). x.kept) is ∙ still ∙ sym (append-nil s.kept) })
    (λ (grown : kept ≡ s.kept ++ e ∷ []). record { secret = one; more = e ∷ []; kept = ap (λ (x : State). x.kept) is ∙ grown })
    settled.either

steps_grow : {D : Type 0} (d : Ghosts D) (disk after : D) (moment : ℕ) (command : CommandView) (s new : State) (said : ContentView) → Steps d disk after moment command s new said → Grows s new
steps_grow d disk after moment command s new said (Steps.no_event told a b r is c) = grows_none s new is
steps_grow d disk after moment command s new said (Steps.kept told e a can same appended r is c) =
    record { secret = ap (λ (x : State). x.secret) is; more = e ∷ []; kept = ap (λ (x : State). x.kept) is }
steps_grow d disk after moment command s new said (Steps.failed e a up is c) =
    record { secret = ap (λ (x : State). x.secret) is; more = []; kept = ap (λ (x : State). x.kept) is ∙ sym (append-nil s.kept) }
steps_grow d disk after moment command s new said (Steps.memory id what p a is b) = grows_none s new is

pub responds_grows : {D : Type 0} (d : Ghosts D) (disk after : D) (head : Head) (body : List ℕ) (moment : ℕ) (s new : State) (said : ContentView) → d.is_honest disk
    → Responds d disk after head body moment s new said → Grows s new
responds_grows d disk after head body moment s new said honest (Responds.no_route a b is c) = grows_none s new is
responds_grows d disk after head body moment s new said honest (Responds.method allow a b is c) = grows_none s new is
responds_grows d disk after head body moment s new said honest (Responds.at_once route a settles) = settles_grows d disk after s new (Some said) honest settles
responds_grows d disk after head body moment s new said honest (Responds.stepped route between settled a settles one steps two) =
    grows_join s settled new (settles_grows d disk between s settled None honest settles) (steps_grow d between after moment _ settled new said steps)
responds_grows d disk after head body moment s new said honest (Responds.memory way led reads a is b) = grows_none s new is

pub grows : {D : Type 0} (d : Ghosts D) (w : D × State) (run : List (Exchange (D × State))) (new : D × State) → Answered (host_service d) w run new → d.is_honest w.0 → Grows w.1 new.1
grows {D} d w [] new same honest = grows_none w.1 new.1 (ap (λ (x : D × State). x.1) same)
grows d w (e ∷ later) new run honest =
    grows_join w.1 e.after.1 new.1 (responds_grows d w.0 e.after.0 e.head e.body e.moment w.1 e.after.1 e.due.said honest (responds_first d w e later new run))
    (grows d e.after later new run.2 ((passes_first d w e later new run).honest.0 honest))
