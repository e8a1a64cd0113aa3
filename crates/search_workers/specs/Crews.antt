-- The workers of a block before and after, and a worker between two draws.
use Rattle.std.specs.Prelude.{◌≡◌, ℕ, ◌*◌, ◌<◌, ◌≤◌, List, [], Option, true, false, length, slice_index_or}
use Rattle.atomic_table.specs.Seated.{TableId}
use Rattle.bid_rules.specs.declared.goods.GoodsCase.{GoodsCase}
use Rattle.nash_bounds.specs.Blocks.{tasks_in}
use Rattle.nash_search.specs.Best.{IsFoundBest}
use Rattle.nash_search.specs.declared.found.Found.{Found}
use Rattle.search_workers.specs.declared.crew.Worker.{Worker}
use Rattle.search_workers.specs.declared.limits.TheConstants.{MOST_REPORTED}
use Rattle.search_workers.specs.declared.view.DeskView.{DeskView}
use Rattle.search_workers.specs.declared.worker.BlockRule.{BlockRule}
use Rattle.search_workers.specs.Views.{desk_view}
use Rattle.search_workers.specs.Works.{HasWhole, count_of_tickets, counted_of_tickets}

-- a worker who has drawn and counted nothing yet
abbrev pub IsReady : TableId → ℕ → ℕ → Worker → Type 0
IsReady desk left workers worker = (worker.seat.table_id ≡ desk) × (worker.seat.me.1 ≡ []) × (worker.seat.me.0 ≡ desk_view [] 0 1 0 left workers)

-- what some workers have left together, and the best that they found: unless one stopped, they have walked all tasks of their tickets
pub record AccountsFor (case : GoodsCase) (rule : BlockRule) (workers allot : ℕ) (view : DeskView) (best : Option Found) : Type 0 where
  pub allot_is : view.allot ≡ allot
  pub left_is : view.left ≡ rule.left
  pub workers_is : view.workers ≡ workers
  pub whole : view.stops ≡ 0 → HasWhole case rule.floor rule.above rule.block view.tickets view.reported best
  pub part : view.reported ≤ count_of_tickets case rule.floor rule.above rule.block view.tickets

-- workers who have ended, with one seat for all of them
pub record HasEnded (case : GoodsCase) (rule : BlockRule) (desk : TableId) (workers allot : ℕ) (worker : Worker) : Type 0 where
  pub seat : worker.seat.table_id ≡ desk
  pub slots : worker.seat.me.1 ≡ []
  pub stands : AccountsFor case rule workers allot worker.seat.me.0 worker.walked.best
  pub reported : worker.seat.me.0.reported ≡ worker.walked.nodes
  pub few : worker.walked.nodes ≤ MOST_REPORTED * allot
  pub going : worker.walked.stopped ≡ false → worker.seat.me.0.stops ≡ 0
  pub stopped : worker.walked.stopped ≡ true → 1 ≤ worker.seat.me.0.stops

-- the number at each place is at least the place
abbrev pub IsSteep : List ℕ → Type 0
IsSteep xs = (place : ℕ) → place < length xs → place ≤ slice_index_or xs place 0

-- a worker between two draws: the tickets rise, each is of a task, and every task drawn is counted whole
pub record AtWork (case : GoodsCase) (rule : BlockRule) (tickets : List ℕ) (nodes : ℕ) (best : Option Found) : Type 0 where
  pub steep : IsSteep tickets
  pub of_tasks : (place : ℕ) → place < length tickets → slice_index_or tickets place 0 < tasks_in case rule.block
  pub count : nodes ≡ count_of_tickets case rule.floor rule.above rule.block tickets
  pub found : IsFoundBest case (counted_of_tickets case rule.floor rule.above rule.block tickets) best
