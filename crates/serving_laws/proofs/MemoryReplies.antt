-- A reply of the host that says that memory ran out is the memory reply.
use Rattle.std.proofs.Common.{◌≡◌, ℕ, true, false, List, Option, Some, refl, sym, ap, ◌∙◌, true≢false}
use Rattle.split_base.specs.declared.disk.Disk.{Ghosts}
use Rattle.host_journal.specs.States.{State, host_in}
use Rattle.serving.specs.declared.refusals.HeadRefusal.{HeadRefusal}
use Rattle.serving.specs.declared.refusals.HeadRefusal.TheVariants as refusals
use Rattle.serving.specs.Dues.{DueView}
use Rattle.requests.specs.Cases.{Responds, Settles, Steps}
use Rattle.requests.specs.Replies.{Replies}
use Rattle.reply_texts.specs.Contents.{ContentView, memory_told, told_as}
use Rattle.sealed_core.specs.Host.{HostView}
use Rattle.sealed_core.specs.Step.{CommandView}
use Rattle.serving.specs.Serving.{host_service, refusal_said}
use Rattle.split_http.specs.declared.head.Head.{Head}
use Rattle.serving_laws.specs.Last.{IsWritten}

some_same : (said other : ContentView) → Some said ≡ Some other → said ≡ other
some_same said other is = cc

-- what doesn't say that memory ran out
never_says : (said other : ContentView) → said.memory ≡ true → said ≡ other → other.memory ≡ false → said ≡ memory_told
never_says said other is same plain = absurd (true≢false (sym is ∙ ap (λ (s : ContentView). s.memory) same ∙ plain))

settles_memory : {D : Type 0} (d : Ghosts D) (disk after : D) (s new : State) (said : ContentView) → said.memory ≡ true → Settles d disk after s new (Some said) → said ≡ memory_told
settles_memory d disk after s new said says (Settles.ready a b is c) = absurd (cc)
settles_memory d disk after s new said says (Settles.store_fault e a up torn is c) = never_says said _ says (some_same said _ c) refl
settles_memory d disk after s new said says (Settles.damaged e place a same first never is c) = never_says said _ says (some_same said _ c) refl
settles_memory d disk after s new said says (Settles.opened e secret kept a same told can is c) = absurd (cc)

-- what is told in reply to a step is a text with its status, and nothing besides
abbrev pub StepsTell : Type 0
StepsTell = (h : HostView) (t : ℕ) (command : CommandView) (told : ContentView) → Replies h t command told → told ≡ told_as told.status told.content_type told.text

steps_memory : StepsTell → {D : Type 0} (d : Ghosts D) (disk after : D) (moment : ℕ) (command : CommandView) (s new : State) (said : ContentView) → said.memory ≡ true → Steps d disk after moment command s new said → said ≡ memory_told
steps_memory alone d disk after moment command s new said says (Steps.no_event told a b r is c) = never_says said _ says (c ∙ alone (host_in s) moment command told r) refl
steps_memory alone d disk after moment command s new said says (Steps.kept told e a can same appended r is c) = never_says said _ says (c ∙ alone (host_in s) moment command told r) refl
steps_memory alone d disk after moment command s new said says (Steps.failed e a up is c) = never_says said _ says c refl
steps_memory alone d disk after moment command s new said says (Steps.memory id what p a is c) = c

responds_memory : StepsTell → {D : Type 0} (d : Ghosts D) (disk after : D) (head : Head) (body : List ℕ) (moment : ℕ) (s new : State) (said : ContentView) → said.memory ≡ true
    → Responds d disk after head body moment s new said → said ≡ memory_told
responds_memory alone d disk after head body moment s new said says (Responds.no_route a b is c) = never_says said _ says c refl
responds_memory alone d disk after head body moment s new said says (Responds.method allow a b is c) = never_says said _ says c refl
responds_memory alone d disk after head body moment s new said says (Responds.at_once route a settles) = settles_memory d disk after s new said says settles
responds_memory alone d disk after head body moment s new said says (Responds.stepped route between settled a settles one steps two) = steps_memory alone d between after moment _ settled new said says steps
responds_memory alone d disk after head body moment s new said says (Responds.memory way led reads a is c) = c

refusal_memory : (refusal : HeadRefusal) → (refusal_said refusal).memory ≡ true → refusal_said refusal ≡ memory_told
refusal_memory refusals.BadHead is = absurd (cc)
refusal_memory refusals.ClockFault is = absurd (cc)
refusal_memory (refusals.Stated row) is = absurd (cc)
refusal_memory refusals.Memory is = refl

pub memory_written : StepsTell → {D : Type 0} (d : Ghosts D) (due : DueView) (w : D × State) (all : List ℕ) (answers : List (Option ℕ)) (out : List ℕ) (new : D × State)
    → IsWritten (host_service d) due w all answers out new → due.said.memory ≡ true → due.said ≡ memory_told
memory_written alone d due w all answers out new (IsWritten.replied e first whole is) says =
    let same : due.said ≡ e.due.said = ap (λ (x : DueView). x.said) is in
    same ∙ responds_memory alone d e.before.0 e.after.0 e.head e.body e.moment e.before.1 e.after.1 e.due.said (sym (ap (λ (s : ContentView). s.memory) same) ∙ says) first.is.responds.0
memory_written alone d due w all answers out new (IsWritten.refused first) says =
    let same : due.said ≡ refusal_said first.refusal = ap (λ (x : DueView). x.said) first.is in
    same ∙ refusal_memory first.refusal (sym (ap (λ (s : ContentView). s.memory) same) ∙ says)
