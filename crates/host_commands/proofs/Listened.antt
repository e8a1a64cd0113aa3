-- A port that is listened on, and its links that are served.
use Rattle.std.proofs.Common.{◌≡◌, ◌⊎◌, ℕ, ◌<◌, ◌≤◌, List, Result, Ok, Err, IsErr, is_err, inl, inr, refl, ap, subst}
use Rattle.command_results.specs.declared.stop.Stop.TheVariants as stop
use Rattle.host_journal.specs.declared.serving.Serving.{Serving}
use Rattle.host_journal.specs.States.{State}
use Rattle.serving.specs.Ports.{PortServed}
use Rattle.serving.specs.Served.{LinkTells}
use Rattle.serving.specs.Serving.{StandsAt, host_service}
use Rattle.split_base.specs.Clocks.{ClockRun}
use Rattle.split_base.specs.declared.clock.Clock.{Ghosts as ClockSide}
use Rattle.split_base.specs.declared.disk.Disk.{Ghosts}
use Rattle.split_base.specs.declared.port.Port.{Ghosts as PortSide}
use Rattle.split_base.specs.Faults.{HasCause, IsCounted}
use Rattle.host_commands.specs.Files.{FailedOnce}
use Rattle.host_commands.specs.Serves.{Listens, RunEnds, Runs, ServesOpened, served_line}

-- a call that failed is counted once
failed_by : {T E : Type 0} (before now : ℕ) (result : Result T E) (e : E) → result ≡ Err e → HasCause before now result → IsCounted before now result → FailedOnce before now
failed_by before now result e is cause count = (cause.failed (ap is_err is), subst (λ r. IsCounted before now r) is count)

module _ {D P L C : Type 0} (d : Ghosts D) (p : PortSide P L) (tells : LinkTells L) (c : ClockSide C) (w : D × State) (port_number : ℕ) (port heard : P) (listens : Listens p port_number port heard) where
  module _ {E : Type 0} (after : D) (port_after : P) (clock clock_after : C) (count : ℕ) (serving : Serving) (result : Result ℕ E) where
    abbrev Ran : ℕ → Type 0
    Ran number = PortServed (host_service d) tells (p.to_come heard) (p.to_come port_after) (p.given_back heard) (p.given_back port_after) (p.places heard)
        (ClockRun c.gives c.faults clock clock_after) (StandsAt d serving after) w number

    runs : (number : ℕ) → Ran number → Runs d p tells c w after heard port_after clock clock_after number
    runs number ran = record { serving = serving; served = ran }

    -- no link more could be handed out
    pub was_cut : (e : E) → result ≡ Err e → HasCause (p.faults heard) (p.faults port_after) result → IsCounted (p.faults heard) (p.faults port_after) result
        → (number : ℕ) × (number ≤ count) × (result ≡ Ok number ⊎ (IsErr result × (number < count))) × Ran number
        → ServesOpened d p tells c w after port port_after clock clock_after port_number count (Err stop.PortFault)
    was_cut e is cause counts (number, most, inl same, ran) = absurd (cc)
    was_cut e is cause counts (number, most, inr (failed, fewer), ran) =
        ServesOpened.ran heard listens number (runs number ran) (RunEnds.cut refl (failed_by (p.faults heard) (p.faults port_after) result e is cause counts) fewer)

    one_number : (served number : ℕ) → result ≡ Ok served → result ≡ Ok number ⊎ (IsErr result × (number < count)) → number ≡ served
    one_number served number is (inl same) = cc
    one_number served number is (inr (failed, fewer)) = absurd (cc)

    -- links were served, as many as are told
    pub was_served : (served : ℕ) (text : List ℕ) → result ≡ Ok served → text ≡ served_line served → IsCounted (p.faults heard) (p.faults port_after) result → served ≤ count → (served < count → p.has_ended port_after)
        → (number : ℕ) × (number ≤ count) × (result ≡ Ok number ⊎ (IsErr result × (number < count))) × Ran number
        → ServesOpened d p tells c w after port port_after clock clock_after port_number count (Ok text)
    was_served served text is told counts most few (number, within, how, ran) =
        ServesOpened.ran heard listens served (runs served (subst Ran (one_number served number is how) ran))
        (RunEnds.told (ap Ok told) (subst (λ r. IsCounted (p.faults heard) (p.faults port_after) r) is counts) most few)
