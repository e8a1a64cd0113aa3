-- What becomes of each request of a run, whatever the disk.
use Rattle.std.specs.Prelude.{List, [], ◌∷◌}
use Rattle.split_base.specs.declared.disk.Disk.{Ghosts}
use Rattle.host_journal.specs.States.{State}
use Rattle.serving.specs.Exchanges.{Exchange}
use Rattle.sealed_core.specs.Host.{EventView}
use Rattle.serving_laws.specs.Accepting.{Makes}
use Rattle.serving_laws.specs.Answering.{HasAnswer}
use Rattle.serving_laws.specs.Integrity.{IsSentBy}
use Rattle.serving_laws.specs.Moving.{IsAnsweredAt, Moves}
use Rattle.serving_laws.specs.Refusing.{RefusesQuietly}
use Rattle.serving_laws.specs.Sealing.{IsSealedReply}

-- A request is answered at this state, and all of this holds of that one state: how the request changes it; which reply it has; that without success
-- it changes nothing, except by the Close of a passed deadline; that its reply keeps bids sealed; and that a bid or a withdrawal that it makes was
-- sent under its member's key.
pub record IsHandled {D : Type 0} (d : Ghosts D) (x : Exchange (D × State)) (settled : State) : Type 0 where
  pub at : IsAnsweredAt d x settled
  pub moved : Moves x settled
  pub replied : HasAnswer d x settled
  pub refused : RefusesQuietly x settled
  pub sealed : IsSealedReply d x settled
  pub keyed : (event : EventView) → Makes x settled.secret settled.kept event → IsSentBy x settled.secret settled.kept event

-- each of these requests is handled in this way at its state
abbrev pub AreHandled : {D : Type 0} → Ghosts D → List (Exchange (D × State)) → List State → Type 0
AreHandled d [] [] = Unit {0}
AreHandled d [] (settled ∷ states) = ⊥
AreHandled d (x ∷ run) [] = ⊥
AreHandled d (x ∷ run) (settled ∷ states) = IsHandled d x settled × AreHandled d run states
