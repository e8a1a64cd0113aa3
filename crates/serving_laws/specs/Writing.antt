-- For laws about whole runs: a host that answers each request in exactly one way, and when two hosts of one state answer alike.
use Rattle.std.specs.Prelude.{◌≡◌, ℕ, false, List, None}
use Rattle.split_base.specs.declared.disk.Disk.{Ghosts}
use Rattle.split_base.specs.Faults.{HasRisen}
use Rattle.host_journal.specs.States.{State}
use Rattle.serving.specs.Ends.{Ending}
use Rattle.serving.specs.Runs.{Service}
use Rattle.serving.specs.Serving.{host_service, refusal_said}
use Rattle.sealed_core.specs.Runs.{CanApplyAll}
use Rattle.sealed_core.specs.Sealed.{empty}
use Rattle.split_http.specs.declared.head.Head.{Head}
use Rattle.requests.specs.Cases.{Responds}
use Rattle.reply_texts.specs.Contents.{ContentView}

-- how the machine, with its disk and its memory, answers a request with this head and body at a moment: the world after it, and what is said
abbrev pub Answering : Type 0 → Type 0
Answering D = Head → List ℕ → ℕ → D × State → (D × State) × ContentView

-- the host that answers each request in this way
abbrev pub answering_so : {D : Type 0} → Ghosts D → Answering D → Service (D × State)
answering_so {D} d answer = record {
  refuses = refusal_said;
  responds = λ head body moment w new said. (host_service d).responds head body moment w new said × (answer head body moment w ≡ (new, said));
}

-- the link ended with no failed call, and memory sufficed
abbrev pub IsDone : Ending → Type 0
IsDone Ending.ended = Unit {0}
IsDone Ending.cut = Unit {0}
IsDone Ending.read_fault = ⊥
IsDone Ending.write_fault = ⊥
IsDone Ending.memory = ⊥

-- the host answers a request, no call of its disk fails in it, and memory suffices
pub record IsUnfailing {D : Type 0} (d : Ghosts D) (head : Head) (body : List ℕ) (moment : ℕ) (w new : D × State) (said : ContentView) : Type 0 where
  pub responds : Responds d w.0 new.0 head body moment w.1 new.1 said
  pub still : HasRisen (d.faults w.0) (d.faults new.0) → ⊥
  pub plain : said.memory ≡ false

-- two hosts of one state, in which no event waits, and whose events may be applied in turn
abbrev pub OneState : {D : Type 0} → D × State → D × State → Type 0
OneState w v = (w.1 ≡ v.1) × (w.1.waiting ≡ None) × CanApplyAll (empty w.1.secret) w.1.kept

-- hosts of one state say the same to a request, and come to one state, if no call of their disks fails in it and there is enough memory
abbrev pub AnswerAlike : {D : Type 0} → Ghosts D → Type 0
AnswerAlike {D} d = (head : Head) (body : List ℕ) (moment : ℕ) (w v new other : D × State) (said told : ContentView) → OneState w v
    → IsUnfailing d head body moment w new said → IsUnfailing d head body moment v other told → OneState new other × (said ≡ told)
