-- What each step on a desk shows to the seat that takes it.
use Rattle.std.specs.Prelude.{◌≡◌, ℕ, ◌+◌, ◌*◌, ◌<◌, ◌≤◌, All}
use Rattle.std.specs.List.{range_with_len, sum_by}
use Rattle.atomic_table.specs.Table.{Me, Step}
use Rattle.search_workers.specs.declared.limits.TheConstants.{LONGEST_PIECE, MOST_REPORTED}
use Rattle.search_workers.specs.declared.view.DeskView.{DeskView}
use Rattle.search_workers.specs.Views.{with_ticket, with_report}

-- what a seat is to its desk: its view, and no slots
abbrev pub SeatState : Type 0
SeatState = Me (Unit {0}) DeskView

-- a draw: the old ticket word joins the seat's tickets, and is above all the tickets that it had
abbrev pub Draws : Step (Unit {0}) → SeatState → ℕ → SeatState → Type 0
Draws step seat found after = (after ≡ (with_ticket seat.0 found, seat.1)) × All (λ ticket. ticket < found) seat.0.tickets

-- after a report of this many prefixes, the view has counted them, and all reports together are within what is left, or exceed it by at most one
-- piece for each worker
pub record IsReported (view : DeskView) (count found : ℕ) (after : DeskView) : Type 0 where
  pub told : after ≡ with_report view count found
  pub within : found + count ≤ view.left → after.reported ≤ view.left
  pub most : after.reported ≤ view.left + LONGEST_PIECE * view.workers
  pub small : after.reported ≤ MOST_REPORTED
  pub found_small : found ≤ MOST_REPORTED

-- a report: the prefixes that the step names are added to what the seat has reported
abbrev pub Reports : Step (Unit {0}) → SeatState → ℕ → SeatState → Type 0
Reports step seat found after = IsReported seat.0 step.first found after.0 × (after.1 ≡ seat.1)

-- one view that accounts for all workers: it has every ticket drawn, and has more reported than is left exactly when one of them stopped
pub record HasAll (view : DeskView) (tickets_drawn : ℕ) : Type 0 where
  pub all_tickets : (weight : ℕ → ℕ) → sum_by weight view.tickets ≡ sum_by weight (range_with_len 0 tickets_drawn)
  pub over : 1 ≤ view.stops → view.left < view.reported
  pub under : view.stops ≡ 0 → view.reported ≤ view.left
  pub most : view.reported ≤ view.left + LONGEST_PIECE * view.stops
  pub few : view.stops ≤ view.allot

-- the seat that accounts for all workers sees the ticket word
abbrev pub Learns : Step (Unit {0}) → SeatState → ℕ → SeatState → Type 0
Learns step seat found after = (after ≡ seat) × HasAll seat.0 found
