-- How what calls lead to goes on.
use Rattle.split_base.specs.declared.disk.Disk.{Ghosts}
use Rattle.host_journal.specs.Calls.{ReachesState}
use Rattle.host_journal.specs.States.{HasState, Passes, State}
use Rattle.host_journal.specs.declared.serving.Serving.{Serving}

module _ {D : Type 0} (d : Ghosts D) where
  -- nothing is called, and nothing changes
  pub leads_still : ((serving : Serving) (disk : D) (s : State) → HasState d serving disk s → Passes d disk s disk s)
      → (serving : Serving) (disk : D) (s : State) (P : State → Type 0) → HasState d serving disk s → P s → ReachesState d serving disk disk s P
  leads_still still serving disk s P stands is = record { new = s; stands = stands; passes = still serving disk s stands; is = is }

  -- the same, said in another way
  pub leads_as : (serving : Serving) (disk after : D) (s : State) (P Q : State → Type 0) → ReachesState d serving disk after s P → ((new : State) → P new → Q new) → ReachesState d serving disk after s Q
  leads_as serving disk after s P Q leads f = record { new = leads.new; stands = leads.stands; passes = leads.passes; is = f leads.new leads.is }
