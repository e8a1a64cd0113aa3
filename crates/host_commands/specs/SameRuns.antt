-- Two runs of the command `serve` over links that bring the same bytes.
use Rattle.std.specs.Prelude.{◌≡◌, ℕ, List, [], ◌∷◌, Option, Some, Result}
use Rattle.command_results.specs.declared.stop.Stop.{Stop}
use Rattle.split_base.specs.declared.clock.Clock.{Ghosts as ClockSide}
use Rattle.split_base.specs.declared.disk.Disk.{Ghosts}
use Rattle.split_base.specs.declared.port.Port.{Ghosts as PortSide}
use Rattle.split_base.specs.Faults.{HasRisen}
use Rattle.host_journal.specs.States.{State}
use Rattle.serving.specs.Exchanges.{Exchange}
use Rattle.serving.specs.Ports.{PortRun}
use Rattle.serving.specs.Runs.{Service}
use Rattle.serving.specs.Served.{LinkTells}
use Rattle.serving.specs.Serving.{host_service}
use Rattle.serving_laws.specs.Writing.{IsDone}
use Rattle.host_commands.specs.Files.{state_of}
use Rattle.host_commands.specs.Links.{LinksAnswered}
use Rattle.host_commands.specs.Serves.{RunEnds, Serves, ServesOpened}

-- two links that reveal the same bytes to come, and the same bytes that were written to them
pub record StartAlike {L : Type 0} (tells : LinkTells L) (one other : L) : Type 0 where
  pub ahead : List ℕ
  pub behind : List ℕ
  pub left : tells.left one ≡ Some ahead
  pub left_other : tells.left other ≡ Some ahead
  pub written : tells.written one ≡ Some behind
  pub written_other : tells.written other ≡ Some behind

-- as many links as others, and pair by pair they are alike as they were handed out
abbrev pub AllStartAlike : {L : Type 0} → LinkTells L → List (L × L) → List (L × L) → Type 0
AllStartAlike tells [] [] = Unit {0}
AllStartAlike tells [] (m ∷ others) = ⊥
AllStartAlike tells (l ∷ links) [] = ⊥
AllStartAlike tells (l ∷ links) (m ∷ others) = StartAlike tells l.0 m.0 × AllStartAlike tells links others

-- pair by pair, the same bytes were written to the links when they were done with
abbrev pub AllGotAlike : {L : Type 0} → LinkTells L → List (L × L) → List (L × L) → Type 0
AllGotAlike tells [] [] = Unit {0}
AllGotAlike tells [] (m ∷ others) = ⊥
AllGotAlike tells (l ∷ links) [] = ⊥
AllGotAlike tells (l ∷ links) (m ∷ others) = (tells.written l.1 ≡ tells.written m.1) × AllGotAlike tells links others

-- no call failed on any of the links, and memory sufficed on each
abbrev pub AllDone : {L W : Type 0} (service : Service W) (tells : LinkTells L) (links : List (L × L)) (answers : List (Option ℕ)) (w : W) (requests : List (Exchange W)) (new : W)
    → LinksAnswered service tells links answers w requests new → Type 0
AllDone service tells [] answers w requests new run = Unit {0}
AllDone service tells (l ∷ links) answers w requests new (now, later, here, behind, mid, is, all, first, others) = IsDone first.ending × AllDone service tells links later mid behind new others

-- a run in which no call of the disk or of a link failed, and memory sufficed
pub record IsUndisturbed {D L : Type 0} (d : Ghosts D) (tells : LinkTells L) (links : List (L × L)) (answers : List (Option ℕ)) (begun : D × State) (run : List (Exchange (D × State))) (ended : D × State)
    (written : LinksAnswered (host_service d) tells links answers begun run ended) : Type 0 where
  pub disk : HasRisen (d.faults begun.0) (d.faults ended.0) → ⊥
  pub done : AllDone (host_service d) tells links answers begun run ended written

-- on each of these links no call failed, and memory sufficed
abbrev pub AreDone : {L W : Type 0} (service : Service W) (tells : LinkTells L) (links : List (L × L)) (answers : List (Option ℕ)) (w new : W) → PortRun service tells links answers w new → Type 0
AreDone service tells [] answers w new run = Unit {0}
AreDone service tells (l ∷ links) answers w new (now, later, mid, is, served, others) = IsDone served.ending × AreDone service tells links later mid new others

-- These links were served, each as it was handed out and as it was given back, at these answers of the clock, and their number is reported. No call of the
-- disk, the port or a link failed, and memory sufficed.
abbrev pub HasServed : {D P L C : Type 0} {d : Ghosts D} {p : PortSide P L} {tells : LinkTells L} {c : ClockSide C} {disk after : D} {port port_after : P} {clock clock_after : C} {port_number count : ℕ}
    {ending : Result (List ℕ) Stop} → Serves d p tells c disk after port port_after clock clock_after port_number count ending → List (L × L) → List (Option ℕ) → Type 0
HasServed {D} {P} {L} {C} {d} {p} {tells} {c} {disk} {after} (Serves.opened serving between opens asked (ServesOpened.ran heard listens number runs (RunEnds.told is still most few))) links answers =
    (links ≡ runs.served.links) × (answers ≡ runs.served.answers) × (HasRisen (d.faults disk) (d.faults after) → ⊥)
    × AreDone (host_service d) tells runs.served.links runs.served.answers (between, state_of opens.opened) runs.served.new runs.served.run
HasServed other links answers = ⊥
