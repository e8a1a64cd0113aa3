-- What the workers of a block count and find.
use Rattle.std.specs.Prelude.{◌≡◌, ℕ, ◌+◌, ◌*◌, ◌≤◌, Bool, List, [], Contains, Option, cond, flat_map, nat_lt}
use Rattle.std.specs.List.{sum_by}
use Rattle.bid_rules.specs.declared.goods.GoodsCase.{GoodsCase}
use Rattle.bid_rules.specs.declared.pair.Pair.{Pair}
use Rattle.nash_bounds.specs.declared.limits.TheConstants.{BLOCK_TASKS}
use Rattle.nash_bounds.specs.Blocks.{tasks_in}
use Rattle.nash_bounds.specs.Counted.{count_task, counted_leaves}
use Rattle.nash_search.specs.Best.{IsFoundBest}
use Rattle.nash_search.specs.declared.found.Found.{Found}
use Rattle.search_workers.specs.declared.view.DeskView.{DeskView}
use Rattle.search_workers.specs.Views.{desk_view}

-- how many prefixes of a ticket's task are counted, which is 0 past the last task of the block
abbrev pub count_at : GoodsCase → Pair → Option Pair → ℕ → ℕ → ℕ
count_at case floor above block ticket = cond (nat_lt ticket (tasks_in case block)) (count_task case (BLOCK_TASKS * block + ticket) floor above) 0

-- the counted allocations of a ticket's task, of which there are none past the last task of the block
abbrev pub counted_at : GoodsCase → Pair → Option Pair → ℕ → ℕ → List (List ℕ)
counted_at case floor above block ticket = cond (nat_lt ticket (tasks_in case block)) (counted_leaves case (BLOCK_TASKS * block + ticket) floor above) []

-- how many prefixes of all the tickets' tasks are counted
abbrev pub count_of_tickets : GoodsCase → Pair → Option Pair → ℕ → List ℕ → ℕ
count_of_tickets case floor above block tickets = sum_by (count_at case floor above block) tickets

-- the counted allocations of all the tickets' tasks
abbrev pub counted_of_tickets : GoodsCase → Pair → Option Pair → ℕ → List ℕ → List (List ℕ)
counted_of_tickets case floor above block tickets = flat_map (counted_at case floor above block) tickets

-- every task of the tickets is counted whole and the best counted allocation is found, and a ticket past the last task was drawn
pub record HasWhole (case : GoodsCase) (floor : Pair) (above : Option Pair) (block : ℕ) (tickets : List ℕ) (nodes : ℕ) (best : Option Found) : Type 0 where
  pub past : (ticket : ℕ) × (tasks_in case block ≤ ticket) × Contains tickets ticket
  pub count : nodes ≡ count_of_tickets case floor above block tickets
  pub found : IsFoundBest case (counted_of_tickets case floor above block tickets) best

-- 1 for a worker who has stopped, and otherwise 0
abbrev pub stop_count : Bool → ℕ
stop_count stopped = cond stopped 1 0

-- a view after this many more prefixes were reported, with one more stop if the walk has stopped
abbrev pub walked_on : DeskView → ℕ → Bool → DeskView
walked_on view nodes stopped = desk_view view.tickets (view.reported + nodes) view.allot (view.stops + stop_count stopped) view.left view.workers
