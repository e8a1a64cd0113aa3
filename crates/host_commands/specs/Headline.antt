-- The main theorem, the law over a whole run of `serve`: what holds of it, whatever its port, its links and its clock gave.
use Rattle.std.specs.Prelude.{◌≡◌, ◌⊎◌, ℕ, List, Option, None, IfSome, length, map, take, Contains}
use Rattle.host_journal.specs.Calls.{IsFound}
use Rattle.host_journal.specs.Journal.{HasEvents, HoldsEvents}
use Rattle.host_journal.specs.declared.serving.Serving.{Serving}
use Rattle.host_journal.specs.States.{IsFile, State, host_in, lists_of}
use Rattle.serving.specs.Exchanges.{Answered, Exchange}
use Rattle.serving.specs.Ports.{GivesBack, HandsOut}
use Rattle.serving.specs.Served.{LinkTells}
use Rattle.sealed_core.specs.declared.commands.What.{What}
use Rattle.sealed_core.specs.Host.{CanApply}
use Rattle.sealed_core.specs.Runs.{CanApplyAll}
use Rattle.sealed_core.specs.Sealed.{empty}
use Rattle.serving.specs.Serving.{StandsAt, host_service}
use Rattle.serving_laws.specs.Accepting.{Accepts}
use Rattle.serving_laws.specs.Crashes.{Acknowledges, IsFileOfOne, Since}
use Rattle.serving_laws.specs.Handling.{AreHandled}
use Rattle.serving_laws.specs.Heard.{Taken, TakesSteps}
use Rattle.serving_laws.specs.Integrity.{KeepsIntegrity}
use Rattle.split_base.specs.Clocks.{ClockRun}
use Rattle.split_base.specs.declared.clock.Clock.{Ghosts as ClockSide}
use Rattle.split_base.specs.declared.disk.Disk.{Ghosts}
use Rattle.split_base.specs.declared.port.Port.{Ghosts as PortSide}
use Rattle.split_base.specs.Disk.{Each}
use Rattle.host_commands.specs.Links.{Every, LinksAnswered}
use Rattle.host_commands.specs.Publishing.{AsksFor, Publishes}

-- The events of a state may be applied one after another, and the one that waits, if one does, after them. On an honest disk each image is a file of
-- the state, and of version 2 if none waits.
pub record HoldsState {D : Type 0} (d : Ghosts D) (disk : D) (s : State) : Type 0 where
  pub may_apply : CanApplyAll (empty s.secret) s.kept
  pub next : IfSome s.waiting (CanApply (host_in s))
  pub file : d.is_honest disk → Each (d.images disk) (IsFile s)
  pub ready : d.is_honest disk → s.waiting ≡ None → Each (d.images disk) (HasEvents 2 s.secret s.kept)

-- For every list of connections, bytes and clock moments, the host writes the bytes of one machine of accepted commands: each published division
-- is best for its rule among all divisions of the bids kept, least among equals and the same for every number of workers, its printed certificate
-- passes the checker, and a crash at any moment leaves a prefix of the commands holding each acknowledged one.
--
-- `disk` is the file before it was opened, `begun` the file as it was opened, with the state that it holds. What is said without the premise
-- that the disk is honest holds of every disk.
pub record Headline {D P L C : Type 0} (d : Ghosts D) (p : PortSide P L) (tells : LinkTells L) (c : ClockSide C) (disk : D) (begun : D × State) (after : D)
    (port port_after : P) (clock clock_after : C) (number : ℕ) : Type 0 where
  -- for every list of connections, bytes and clock moments: this many links, the first that were to come, each as it was handed out and as it was given
  -- back where there was a place for it, and the answers of the clock
  pub links : List (L × L)
  pub answers : List (Option ℕ)
  pub count : length links ≡ number
  pub handed : HandsOut (p.to_come port) (map (λ l. l.0) links) (p.to_come port_after)
  pub given : GivesBack (p.given_back port) (take (p.places port) (map (λ l. l.1) links)) (p.given_back port_after)
  pub moments : ClockRun c.gives c.faults clock clock_after answers
  -- the host writes the bytes of one machine: requests that were answered one after the other, each a step from the disk and the state that the one
  -- before it left; on each link its own, whose replies are what the link got, or a first part of it where a call of the link failed
  pub run : List (Exchange (D × State))
  pub ended : D × State
  pub machine : Answered (host_service d) begun run ended
  pub written : LinksAnswered (host_service d) tells links answers begun run ended
  -- the machine begins with the events of the file and no other, and none waits: where the file was one of a state, with those that this state keeps, or
  -- with the one more for which it waits; and the host that serves stands for its last state, whose file the disk is left with, and has its log at the
  -- end of that file if no event waits
  pub ready : begun.1.waiting ≡ None
  pub read : d.tells disk → HoldsEvents begun.1.secret begun.1.kept (d.seen disk)
  pub found : d.is_honest disk → IsFound d disk begun.0 begun.1.secret begun.1.kept
  pub begins : d.is_honest disk → (s : State) → Each (d.images disk) (IsFile s) → (begun.1.secret ≡ s.secret) × Contains (lists_of s.kept s.waiting) begun.1.kept
  pub serving : Serving
  pub stands : StandsAt d serving after ended
  pub holds : HoldsState d after ended.1
  -- Each request is answered at one state: the one before it, or the one that the file of a waiting host gives when it is opened. All that `IsHandled`
  -- says of the request is said of that state. The request changes it by at most one event, which one step of the machine makes. It has the reply of that
  -- step, or a refusal of its path or method; or it is told that memory ran out, for a body that is read or a result that is published; or that a call of
  -- the disk failed in it; or that its file isn't a journal, which is never so on an honest disk. One that is refused changes nothing, except by the
  -- Close of an instance whose deadline has passed, or its own event waits. Bids are sealed: of a status, an own bid and a close, on an instance that
  -- isn't closed, the reply says no more than what its caller may know, or a fault of the store. A bid or a withdrawal that is made was sent under its
  -- member's key. In all the machine takes these steps in order, from these same states, and no others
  pub states : List State
  pub handled : AreHandled d run states
  pub taken : d.is_honest disk → (steps : List Taken) × TakesSteps run states steps
  -- of accepted commands: each event that is kept was made by a command of this run, in one step
  pub accepted : d.is_honest disk → Accepts run begun.1 ended.1
  -- and of nobody else's: each bid and each withdrawal that is kept came from a request under that member's key, in this run, or was in the file before
  pub integrity : d.is_honest disk → KeepsIntegrity run begun.1 ended.1
  -- each published division is best for its rule among all divisions of the bids kept, least among equals and the same for every number of workers,
  -- and its printed certificate passes the checker: this is so of each request for what is published whose reply has status 200, whatever the disk
  pub published : Every (λ x. (asked : What) → AsksFor x asked → x.due.said.status ≡ 200 → Publishes x asked) run
  -- a crash at any moment leaves a prefix of the commands: since each request a file of the state that it left or of a later one, with or without the
  -- event that is being appended; and since before the opening, where the file was one of a state, a file of that state or of one of these
  pub crash : d.is_honest disk → Since d ended.0 begun run
  pub any_moment : d.is_honest disk → (s : State) → Each (d.images disk) (IsFile s) → (file : List ℕ) → d.left_since ended.0 (d.moment disk) file → IsFile s file ⊎ IsFileOfOne begun.1 run file
  -- holding each acknowledged one: since each request all events that were kept when it was answered, at their places
  pub acknowledged : d.is_honest disk → Acknowledges d ended.0 begun run

-- the same, from whatever state the file held when it was opened
abbrev pub HasHeadline : {D P L C : Type 0} → Ghosts D → PortSide P L → LinkTells L → ClockSide C → (disk after : D) (port port_after : P) (clock clock_after : C) (number : ℕ) → Type 0
HasHeadline {D} d p tells c disk after port port_after clock clock_after number = (begun : D × State) × Headline d p tells c disk begun after port port_after clock clock_after number

-- neither the port nor the clock was called
abbrev pub HasNoRun : {P C : Type 0} → (port port_after : P) (clock clock_after : C) → Type 0
HasNoRun port port_after clock clock_after = (port_after ≡ port) × (clock_after ≡ clock)
