-- The rule of a desk.
use Rattle.std.specs.Prelude.{◌≡◌, ℕ, ◌+◌, ◌*◌, ◌<◌, ◌≤◌, List, length, slice_index, ◌⊎◌}
use Rattle.std.specs.List.{range_with_len, sum_by}
use mathlib.Core.Option.{some}
use lib.ListN.{get_elem?}
use Rattle.atomic_table.specs.Seated.{TableId}
use Rattle.atomic_table.specs.Table.{State}
use Rattle.bid_rules.specs.declared.limits.TheConstants.{MOST_STEPS}
use Rattle.search_workers.specs.declared.limits.TheConstants.{LONGEST_PIECE, MOST_TICKETS, MOST_WORKERS}
use Rattle.search_workers.specs.declared.view.DeskView.{DeskView}
use Rattle.search_workers.specs.declared.view.DeskSize.{DeskSize}
use Rattle.search_workers.specs.Views.{no_worker}

-- the two words of a desk, and the views of all its seats, including those that were given back
abbrev pub DeskState : Type 0
DeskState = State (Unit {0}) DeskView

-- the seat is one of this desk, which has two words
abbrev pub IsAt : TableId → TableId → Type 0
IsAt seat desk = (seat ≡ desk) × (desk.words ≡ 2)

-- the ticket word: how many tickets are drawn
abbrev pub ticket_word : DeskState → ℕ
ticket_word state = slice_index state.words 0

-- the node word: how many prefixes are reported
abbrev pub node_word : DeskState → ℕ
node_word state = slice_index state.words 1

-- the sum of a weight over all tickets of all views
abbrev pub all_tickets : (ℕ → ℕ) → List DeskView → ℕ
all_tickets weight views = sum_by (λ (view : DeskView). sum_by weight view.tickets) views

-- how many prefixes all views together have reported
abbrev pub all_reported : List DeskView → ℕ
all_reported views = sum_by (λ (view : DeskView). view.reported) views

-- how many stops all views together have
abbrev pub all_stops : List DeskView → ℕ
all_stops views = sum_by (λ (view : DeskView). view.stops) views

-- how many workers all views together account for
abbrev pub all_allots : List DeskView → ℕ
all_allots views = sum_by (λ (view : DeskView). view.allot) views

-- a view accounts for no worker, or for some at this desk, with few tickets and few stops for each of them
pub record IsViewOf (left workers : ℕ) (view : DeskView) : Type 0 where
  pub stands : (view ≡ no_worker) ⊎ ((0 < view.allot) × (view.left ≡ left) × (view.workers ≡ workers))
  pub few_tickets : length view.tickets ≤ MOST_TICKETS * view.allot
  pub few_stops : view.stops ≤ view.allot

-- the rule of a desk: all views together hold each ticket drawn once, the node word is what they reported, and it exceeds what is left only after a
-- stop, by at most one piece for each stop
pub record IsDesk (left workers : ℕ) (state : DeskState) : Type 0 where
  pub two_words : length state.words ≡ 2
  pub small : left ≤ MOST_STEPS
  pub one_worker : 1 ≤ workers
  pub few : workers ≤ MOST_WORKERS
  -- the tickets of all views are the numbers below the ticket word, each once: for any weight, the sum over them is the sum over these numbers
  pub tickets : (weight : ℕ → ℕ) → all_tickets weight state.views ≡ sum_by weight (range_with_len 0 (ticket_word state))
  -- the node word is what all views together have reported
  pub nodes : all_reported state.views ≡ node_word state
  -- it is above what is left exactly when a view has a stop, and then by at most one piece for each stop
  pub over : left < node_word state → 1 ≤ all_stops state.views
  pub under : node_word state ≤ left → all_stops state.views ≡ 0
  pub most : node_word state ≤ left + LONGEST_PIECE * all_stops state.views
  pub allots : all_allots state.views ≡ workers
  pub views : (place : ℕ) (view : DeskView) → get_elem? state.views place ≡ some view → IsViewOf left workers view

-- the desk keeps its rule for the numbers it was made with
abbrev pub Kept : DeskSize → DeskState → Type 0
Kept size state = IsDesk size.left size.workers state
