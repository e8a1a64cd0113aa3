-- What the serving of a port does with file, port and clock.
use Rattle.std.specs.Prelude.{◌≡◌, ◌↔◌, ℕ, ◌<◌, ◌≤◌, List, [], ◌∷◌, Result, Ok, Err, codes}
use Rattle.std.specs.Fmt.{decimal}
use Rattle.command_results.specs.declared.stop.Stop.{Stop}
use Rattle.command_results.specs.declared.stop.Stop.TheVariants as stop
use Rattle.gate_log.specs.declared.fault.LogFault.{LogFault}
use Rattle.host_journal.specs.declared.serving.Serving.{Serving}
use Rattle.host_journal.specs.States.{State}
use Rattle.serving.specs.Ports.{PortServed}
use Rattle.serving.specs.Served.{LinkTells}
use Rattle.serving.specs.Serving.{StandsAt, host_service}
use Rattle.split_base.specs.Asked.{asked_again}
use Rattle.split_base.specs.Clocks.{ClockRun}
use Rattle.split_base.specs.declared.clock.Clock.{Ghosts as ClockSide}
use Rattle.split_base.specs.declared.disk.Disk.{Ghosts}
use Rattle.split_base.specs.declared.port.Port.{Ghosts as PortSide}
use Rattle.split_frac.specs.Texts.{word_line}
use Rattle.host_commands.specs.Files.{FailedOnce, Opens, state_of, stop_of}

-- the port handed out no link and took none back
pub record HasNoLink {P L : Type 0} (p : PortSide P L) (port after : P) : Type 0 where
  pub come : p.to_come after ≡ p.to_come port
  pub back : p.given_back after ≡ p.given_back port
  pub places : p.places after ≡ p.places port
  pub ended : p.has_ended port ↔ p.has_ended after

-- The port listens: it was asked to, once, at this number, and the call did not fail. No link was handed out by then.
pub record Listens {P L : Type 0} (p : PortSide P L) (number : ℕ) (port heard : P) : Type 0 where
  pub asked : p.asked heard ≡ asked_again number (p.asked port)
  pub still : p.faults heard ≡ p.faults port
  pub none : HasNoLink p port heard

-- this many links were served
abbrev pub served_line : ℕ → List ℕ
served_line number = word_line (codes "served") (decimal number ∷ [])

-- The run of the host over this many links of the port, in order, starting from this disk and state, with these answers of the clock. Each link is given
-- back, and the serving is then in the state that the last one left.
pub record Runs {D P L C : Type 0} (d : Ghosts D) (p : PortSide P L) (tells : LinkTells L) (c : ClockSide C) (w : D × State) (after : D) (port port_after : P) (clock clock_after : C) (number : ℕ) : Type 0 where
  pub serving : Serving
  pub served : PortServed (host_service d) tells (p.to_come port) (p.to_come port_after) (p.given_back port) (p.given_back port_after) (p.places port)
      (ClockRun c.gives c.faults clock clock_after) (StandsAt d serving after) w number

-- How the run ends: as many links as asked were served, or fewer, but only if no more links come, and their number is reported; or the port failed to
-- hand out one more of as many as were asked.
pub data RunEnds {P L : Type 0} (p : PortSide P L) (port port_after : P) (count number : ℕ) (ending : Result (List ℕ) Stop) : Type 0 where
  told : ending ≡ Ok (served_line number) → p.faults port_after ≡ p.faults port → number ≤ count → (number < count → p.has_ended port_after) → RunEnds p port port_after count number ending
  cut : ending ≡ Err stop.PortFault → FailedOnce (p.faults port) (p.faults port_after) → number < count → RunEnds p port port_after count number ending

-- From a file that was opened, and holds this state: the port fails to listen, and neither disk nor clock is called; or it listens, and then its
-- links are served.
pub data ServesOpened {D P L C : Type 0} (d : Ghosts D) (p : PortSide P L) (tells : LinkTells L) (c : ClockSide C) (w : D × State) (after : D) (port port_after : P) (clock clock_after : C)
    (port_number count : ℕ) (ending : Result (List ℕ) Stop) : Type 0 where
  deaf : after ≡ w.0 → clock_after ≡ clock → HasNoLink p port port_after → FailedOnce (p.faults port) (p.faults port_after) → ending ≡ Err stop.PortFault
      → ServesOpened d p tells c w after port port_after clock clock_after port_number count ending
  ran : (heard : P) → Listens p port_number port heard → (number : ℕ) → Runs d p tells c w after heard port_after clock clock_after number → RunEnds p heard port_after count number ending
      → ServesOpened d p tells c w after port port_after clock clock_after port_number count ending

-- In this order: the routes, for which there may be no memory; the file, which may not be opened; and then the port, which is asked once to
-- listen, at this number, and at no other. Nothing is called that comes later.
pub data Serves {D P L C : Type 0} (d : Ghosts D) (p : PortSide P L) (tells : LinkTells L) (c : ClockSide C) (disk after : D) (port port_after : P) (clock clock_after : C) (port_number count : ℕ)
    (ending : Result (List ℕ) Stop) : Type 0 where
  no_routes : after ≡ disk → port_after ≡ port → clock_after ≡ clock → ending ≡ Err stop.NoMemory → Serves d p tells c disk after port port_after clock clock_after port_number count ending
  not_opened : (why : LogFault) → Opens d disk after (Err why) → port_after ≡ port → clock_after ≡ clock → ending ≡ Err (stop_of why)
      → Serves d p tells c disk after port port_after clock clock_after port_number count ending
  opened : (serving : Serving) (between : D) (opens : Opens d disk between (Ok serving)) → p.asked port_after ≡ asked_again port_number (p.asked port)
      → ServesOpened d p tells c (between, state_of opens.opened) after port port_after clock clock_after port_number count ending
      → Serves d p tells c disk after port port_after clock clock_after port_number count ending

-- the file was not opened: its disk failed, it is not a journal, or there was no memory
abbrev pub IsUnopened : Result (List ℕ) Stop → Type 0
IsUnopened ending = (why : LogFault) × (ending ≡ Err (stop_of why))

-- The file was opened, and this many links were served: the port listened, and then the run ended as `RunEnds` says; or it failed to listen, handed out
-- no link, and the number is 0.
pub data IsOpened {P L : Type 0} (p : PortSide P L) (port_number : ℕ) (port port_after : P) (count number : ℕ) (ending : Result (List ℕ) Stop) : Type 0 where
  ran : (heard : P) → Listens p port_number port heard → RunEnds p heard port_after count number ending → IsOpened p port_number port port_after count number ending
  deaf : ending ≡ Err stop.PortFault → FailedOnce (p.faults port) (p.faults port_after) → HasNoLink p port port_after → number ≡ 0
      → IsOpened p port_number port port_after count number ending
