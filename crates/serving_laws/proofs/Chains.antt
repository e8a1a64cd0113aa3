-- The first request of a run.
use Rattle.std.proofs.Common.{List, ◌∷◌, subst}
use Rattle.split_base.specs.declared.disk.Disk.{Ghosts}
use Rattle.host_journal.specs.States.{Passes, State}
use Rattle.serving.specs.Exchanges.{Answered, Exchange}
use Rattle.requests.specs.Cases.{Responds}
use Rattle.serving.specs.Serving.{host_service}

module _ {D : Type 0} (d : Ghosts D) (w : D × State) (e : Exchange (D × State)) (later : List (Exchange (D × State))) (new : D × State) (run : Answered (host_service d) w (e ∷ later) new) where
  -- the disk goes on in the first of them
  pub passes_first : Passes d w.0 w.1 e.after.0 e.after.1
  passes_first = subst (λ (x : D × State). Passes d x.0 x.1 e.after.0 e.after.1) run.0 run.1.responds.1

  pub responds_first : Responds d w.0 e.after.0 e.head e.body e.moment w.1 e.after.1 e.due.said
  responds_first = subst (λ (x : D × State). Responds d x.0 e.after.0 e.head e.body e.moment x.1 e.after.1 e.due.said) run.0 run.1.responds.0
