-- Tasks one after another, and blocks of them.
use Rattle.std.proofs.Common.{◌≡◌, ℕ, ◌+◌, ◌-◌, ◌*◌, ◌<◌, ◌≤◌, List, [], ◌++◌, true, false, Option, None, arith, refl, sym, ap, ◌∙◌, subst}
use Rattle.std.specs.Option.{option_to_list}
use Rattle.bid_rules.specs.declared.goods.GoodsCase.{GoodsCase}
use Rattle.bid_rules.specs.declared.pair.Pair.{Pair}
use Rattle.bid_rules.specs.Goods.{IsValidGoodsCase}
use Rattle.nash_bounds.specs.Allocations.{IsBestOf}
use Rattle.nash_bounds.specs.Blocks.{count_block, counted_of_block, tasks_before, tasks_in}
use Rattle.nash_bounds.specs.Counted.{count_task, count_tasks, counted_leaves, counted_of_tasks}
use Rattle.nash_bounds.specs.Serving.{Serves}
use Rattle.nash_bounds.specs.Start.{IsStartValue}
use Rattle.nash_bounds.specs.Steps.{best_before, pair_kept, steps_before}
use Rattle.nash_bounds.specs.Tasks.{tasks_of}
use Rattle.nash_bounds.specs.declared.limits.TheConstants.{BLOCK_TASKS}
use Rattle.nash_search.specs.Best.{IsFoundBest, IsKept, list_of}
use Rattle.nash_search.specs.Ends.{EndsTask, nodes_in}
use Rattle.nash_search.specs.Progress.{AfterTask, IsProgress, IsTallied, pair_so_far}
use Rattle.nash_search.specs.declared.found.Found.{Found}
use Rattle.nash_search.specs.declared.progress.Progress.{Progress}
use Rattle.nash_search.specs.declared.task.TaskEnd.{TaskEnd}
use Rattle.nash_search.specs.declared.task.TaskEnd.TheVariants.{Done, Stopped}
use Rattle.nash_search.specs.declared.tally.Tally.{Tally}
use Rattle.nash_search.proofs.BetterFound.{own_best}

-- an end counts at most one more than was allowed
pub ends_small : (case : GoodsCase) (count : ℕ) (xs : List (List ℕ)) (allowance : ℕ) (end : TaskEnd) → EndsTask case count xs allowance end → nodes_in end ≤ allowance + 1
ends_small case count xs allowance (Done nodes best) h = (let l = h.0 in omega arith)
ends_small case count xs allowance (Stopped nodes) h = (let l = h.0 in omega arith)

-- what one task more counts and has, laws of nash_bounds
abbrev pub MoreCount : Type 0
MoreCount = (case : GoodsCase) (floor : Pair) (above : Option Pair) (from n : ℕ) → count_tasks case floor above from (n + 1) ≡ count_tasks case floor above from n + count_task case (from + n) floor above

-- and its counted allocations
abbrev pub MoreCounted : Type 0
MoreCounted = (case : GoodsCase) (floor : Pair) (above : Option Pair) (from n : ℕ) → counted_of_tasks case floor above from (n + 1) ≡ counted_of_tasks case floor above from n ++ counted_leaves case (from + n) floor above

-- before the first task of a row
pub row_start : (case : GoodsCase) (floor : Pair) (above : Option Pair) (from : ℕ) (tally : Tally) → count_tasks case floor above from 0 ≡ 0 → counted_of_tasks case floor above from 0 ≡ []
    → tally.nodes ≡ 0 → tally.best ≡ None → IsTallied case floor above from 0 tally
row_start case floor above from tally none counted n b =
    let empty : IsFoundBest case [] None = record { best = refl; pair = tt } in record {
      count = n ∙ sym none;
      found = subst (λ (o : Option Found). IsFoundBest case (counted_of_tasks case floor above from 0) o) (sym b) (subst (λ xs. IsFoundBest case xs None) (sym counted) empty);
    }

-- a task that is done is added to those before it in the row
pub task_added : MoreCount → MoreCounted → (case : GoodsCase) (floor : Pair) (above : Option Pair) (from n allowance nodes : ℕ) (old new : Tally) → old.nodes ≤ allowance → IsTallied case floor above from n old
    → nodes ≤ allowance - old.nodes → nodes ≡ count_task case (from + n) floor above → new.nodes ≡ old.nodes + nodes
    → IsFoundBest case (counted_of_tasks case floor above from n ++ counted_leaves case (from + n) floor above) new.best
    → AfterTask case floor above from n allowance new true
task_added more counted case floor above from n allowance nodes old new few row within is sum best =
    let count = row.count in
    let one = more case floor above from n in (
      omega (arith, few, within, sum),
      record { count = omega (arith, count, one, is, sum); found = subst (λ xs. IsFoundBest case xs new.best) (sym (counted case floor above from n)) best },
    )

-- a task that is stopped ends the row above the allowance
pub task_over : MoreCount → (case : GoodsCase) (floor : Pair) (above : Option Pair) (from n allowance nodes : ℕ) (old new : Tally) → old.nodes ≤ allowance → IsTallied case floor above from n old
    → nodes ≡ allowance - old.nodes + 1 → nodes ≤ count_task case (from + n) floor above → new.nodes ≡ old.nodes + nodes → AfterTask case floor above from n allowance new false
task_over more case floor above from n allowance nodes old new few row over within sum =
    let count = row.count in
    let one = more case floor above from n in
    (omega (arith, few, over, sum), omega (arith, count, one, within, sum))

-- by what serves, as many prefixes of a block are counted as the step count has, a law of nash_bounds
abbrev pub Counts : Type 0
Counts = (case : GoodsCase) (floor : Pair) (found : Option (List ℕ)) (block n : ℕ) → n ≤ BLOCK_TASKS → Serves case floor found (best_before case (BLOCK_TASKS * block))
    → steps_before case floor (BLOCK_TASKS * block + n) ≡ steps_before case floor (BLOCK_TASKS * block) + count_tasks case floor (pair_kept case found) (BLOCK_TASKS * block) n

-- what serves goes on to serve, as the law has it
abbrev pub GoesOn : Type 0
GoesOn = (case : GoodsCase) (floor : Pair) (found next : Option (List ℕ)) (from n : ℕ) → IsValidGoodsCase case → from + n ≤ tasks_of case
    → Serves case floor found (best_before case from) → IsBestOf case (option_to_list found ++ counted_of_tasks case floor (pair_kept case found) from n) next
    → Serves case floor next (best_before case (from + n))

-- the steps rise from task to task, as the law has it
abbrev pub Rises : Type 0
Rises = (case : GoodsCase) (floor : Pair) (task more : ℕ) → steps_before case floor task ≤ steps_before case floor (task + more)

-- before the first block
pub progress_start : (case : GoodsCase) (progress : Progress) → ((floor : Pair) → Serves case floor None (best_before case 0)) → ((floor : Pair) → steps_before case floor 0 ≡ 0)
    → IsStartValue case progress.floor → progress.block ≡ 0 → progress.nodes ≡ 0 → progress.best ≡ None → IsProgress case progress
progress_start case progress serves none start block nodes best =
    let at : tasks_before case progress.block ≡ 0 = omega (arith, block) in record {
      near = omega (arith, block);
      start = start;
      steps = nodes ∙ sym (none progress.floor) ∙ ap (steps_before case progress.floor) (sym at);
      within = omega (arith, nodes);
      serves = subst (λ (o : Option Found). Serves case progress.floor (list_of o) (best_before case (tasks_before case progress.block))) (sym best)
          (subst (λ n. Serves case progress.floor None (best_before case n)) (sym at) (serves progress.floor));
      kept = subst (IsKept case) (sym best) tt;
    }

-- what is found is the best of itself
pub earlier_best : (case : GoodsCase) (progress : Progress) → IsProgress case progress → IsFoundBest case (option_to_list (list_of progress.best)) progress.best
earlier_best case progress is = own_best case progress.best is.kept

-- a block that lies within the tasks begins past those before it
block_begins : (case : GoodsCase) (block : ℕ) → BLOCK_TASKS * block < tasks_of case → tasks_before case block ≡ BLOCK_TASKS * block
block_begins case block l = omega (arith, l)

-- the steps up to the end of a block
steps_after : Counts → (case : GoodsCase) (progress : Progress) → IsProgress case progress → BLOCK_TASKS * progress.block < tasks_of case
    → steps_before case progress.floor (BLOCK_TASKS * progress.block + tasks_in case progress.block) ≡ progress.nodes + count_block case progress.floor (pair_so_far case progress) progress.block
steps_after counts case progress is less =
    let at = block_begins case progress.block less in
    let serves = subst (λ n. Serves case progress.floor (list_of progress.best) (best_before case n)) at is.serves in
    let steps : progress.nodes ≡ steps_before case progress.floor (BLOCK_TASKS * progress.block) = is.steps ∙ ap (steps_before case progress.floor) at in
    let more = counts case progress.floor (list_of progress.best) progress.block (tasks_in case progress.block) (omega arith) serves in
    omega (arith, steps, more)

-- a block that is done is added to those before it
pub block_added : Counts → GoesOn → (case : GoodsCase) (nodes : ℕ) (old new : Progress) → IsValidGoodsCase case → IsProgress case old → BLOCK_TASKS * old.block < tasks_of case
    → nodes ≤ case.facts.limit - old.nodes → nodes ≡ count_block case old.floor (pair_so_far case old) old.block
    → new.floor ≡ old.floor → new.block ≡ old.block + 1 → new.nodes ≡ old.nodes + nodes
    → IsFoundBest case (option_to_list (list_of old.best) ++ counted_of_block case old.floor (pair_so_far case old) old.block) new.best → IsProgress case new
block_added counts goes case nodes old new valid is less within count floor block sum best =
    let begin = block_begins case old.block less in
    let end : tasks_before case new.block ≡ BLOCK_TASKS * old.block + tasks_in case old.block = omega (arith, block, less) in
    let steps = steps_after counts case old is less in
    let few = is.within in
    let served : Serves case old.floor (list_of old.best) (best_before case (BLOCK_TASKS * old.block)) = subst (λ n. Serves case old.floor (list_of old.best) (best_before case n)) begin is.serves in
    let next : Serves case old.floor (list_of new.best) (best_before case (BLOCK_TASKS * old.block + tasks_in case old.block)) =
    goes case old.floor (list_of old.best) (list_of new.best) (BLOCK_TASKS * old.block) (tasks_in case old.block) valid (omega (arith, less)) served best.best in
    let all : new.nodes ≡ steps_before case old.floor (tasks_before case new.block) = rw end (omega (arith, steps, count, sum)) in record {
      near = omega (arith, block, less);
      start = subst (IsStartValue case) (sym floor) is.start;
      steps = subst (λ (f : Pair). new.nodes ≡ steps_before case f (tasks_before case new.block)) (sym floor) all;
      within = omega (arith, few, within, sum);
      serves = subst (λ (f : Pair). Serves case f (list_of new.best) (best_before case (tasks_before case new.block))) (sym floor)
          (subst (λ n. Serves case old.floor (list_of new.best) (best_before case n)) (sym end) next);
      kept = best.pair;
    }

-- a block with more than were left is above the limit
pub block_over : Counts → Rises → (case : GoodsCase) (progress : Progress) → IsProgress case progress → BLOCK_TASKS * progress.block < tasks_of case
    → case.facts.limit - progress.nodes < count_block case progress.floor (pair_so_far case progress) progress.block
    → case.facts.limit < steps_before case progress.floor (tasks_of case)
block_over counts rises case progress is less over =
    let to : ℕ = BLOCK_TASKS * progress.block + tasks_in case progress.block in
    let steps = steps_after counts case progress is less in
    let few = is.within in
    let rest : to + (tasks_of case - to) ≡ tasks_of case = omega (arith, less) in
    let le : steps_before case progress.floor to ≤ steps_before case progress.floor (tasks_of case) =
    subst (λ t. steps_before case progress.floor to ≤ steps_before case progress.floor t) rest (rises case progress.floor to (tasks_of case - to)) in
    omega (arith, steps, few, over, le)

-- past the last block no task is left
pub no_task_left : (case : GoodsCase) (block : ℕ) → tasks_of case ≤ BLOCK_TASKS * block → tasks_before case block ≡ tasks_of case
no_task_left case block done = omega (arith, done)

-- so what is found serves for the best of all allocations
pub serves_all : (case : GoodsCase) (progress : Progress) → IsProgress case progress → tasks_of case ≤ BLOCK_TASKS * progress.block
    → Serves case progress.floor (list_of progress.best) (best_before case (tasks_of case))
serves_all case progress is done = subst (λ n. Serves case progress.floor (list_of progress.best) (best_before case n)) (no_task_left case progress.block done) is.serves
