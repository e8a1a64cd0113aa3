-- How the search of a block by several workers ends.
use Rattle.std.specs.Prelude.{◌≡◌, ℕ, ◌+◌, ◌*◌, ◌<◌, ◌≤◌, List, Option, min}
use mathlib.Core.Option.{some}
use lib.ListN.{get_elem?}
use Rattle.bid_rules.specs.declared.goods.GoodsCase.{GoodsCase}
use Rattle.bid_rules.specs.declared.pair.Pair.{Pair}
use Rattle.nash_bounds.specs.Blocks.{count_block, counted_of_block, tasks_in}
use Rattle.nash_search.specs.Best.{IsFoundBest}
use Rattle.nash_search.specs.declared.found.Found.{Found}
use Rattle.search_workers.specs.declared.limits.TheConstants.{LONGEST_PIECE}
use Rattle.search_workers.specs.declared.block.BlockEnd.{BlockEnd}
use Rattle.search_workers.specs.declared.block.BlockEnd.TheVariants.{Done, Over}
use Rattle.search_workers.specs.declared.view.DeskView.{DeskView}
use Rattle.search_workers.specs.Works.{HasWhole}

-- how many workers a block takes: those asked for, but no more than it has tasks
abbrev pub crew_of : GoodsCase → ℕ → ℕ → ℕ
crew_of case block workers = min workers (tasks_in case block)

-- a block ends with all its counted prefixes counted, which are no more than are left, and the best counted allocation found; or with more counted
-- than are left, by at most one piece for each worker
abbrev pub EndsBlock : GoodsCase → Pair → Option Pair → ℕ → ℕ → ℕ → BlockEnd → Type 0
EndsBlock case floor above block left workers (Done nodes best) =
    (nodes ≤ left) × (nodes ≡ count_block case floor above block) × IsFoundBest case (counted_of_block case floor above block) best
EndsBlock case floor above block left workers (Over nodes) = (left < nodes) × (nodes ≤ left + LONGEST_PIECE * workers) × (nodes ≤ count_block case floor above block)

-- each worker has walked every task of its tickets whole, and has drawn a ticket past the last task
abbrev pub AreWalkedWhole : GoodsCase → Pair → Option Pair → ℕ → List DeskView → Type 0
AreWalkedWhole case floor above block views = (place : ℕ) (view : DeskView) → get_elem? views place ≡ some view → 0 < view.allot
    → (best : Option Found) × HasWhole case floor above block view.tickets view.reported best
