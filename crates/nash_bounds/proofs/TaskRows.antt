-- Tasks one after another.
use Rattle.std.proofs.Common.{◌≡◌, ℕ, zero, suc, ◌+◌, ◌≤◌, [], ◌++◌, Option, flat_map, arith, refl, ap, ◌∙◌}
use Rattle.std.specs.List.{filter, range_with_len}
use Rattle.std.proofs.lemmas.List.Elements.{filter-append}
use Rattle.split_lemmas.proofs.RangeSteps.{flat_more, sum_more}
use Rattle.bid_rules.specs.declared.goods.GoodsCase.{GoodsCase}
use Rattle.bid_rules.specs.declared.pair.Pair.{Pair}
use Rattle.nash_bounds.specs.Counted.{is_counted, count_task, count_tasks, counted_leaves, counted_of_tasks}
use Rattle.nash_bounds.specs.Tasks.{task_leaves}

-- no task has no counted prefixes
pub count_none : (case : GoodsCase) (floor : Pair) (above : Option Pair) (from : ℕ) → count_tasks case floor above from 0 ≡ 0
unfolding count_tasks
count_none case floor above from = refl

-- no task has no counted allocations
pub counted_none : (case : GoodsCase) (floor : Pair) (above : Option Pair) (from : ℕ) → counted_of_tasks case floor above from 0 ≡ []
unfolding counted_of_tasks
counted_none case floor above from = refl

-- one task more adds its counted prefixes
pub count_one_more : (case : GoodsCase) (floor : Pair) (above : Option Pair) (from n : ℕ) → count_tasks case floor above from (n + 1) ≡ count_tasks case floor above from n + count_task case (from + n) floor above
unfolding count_tasks
count_one_more case floor above from n = sum_more (λ task. count_task case task floor above) from n

-- one task more adds its counted allocations
pub counted_one_more : (case : GoodsCase) (floor : Pair) (above : Option Pair) (from n : ℕ) → counted_of_tasks case floor above from (n + 1) ≡ counted_of_tasks case floor above from n ++ counted_leaves case (from + n) floor above
unfolding counted_of_tasks
counted_one_more case floor above from n =
    ap (filter (is_counted case floor above)) (flat_more (task_leaves case) from n) ∙ filter-append (is_counted case floor above) (flat_map (task_leaves case) (range_with_len from n)) (task_leaves case (from + n))

-- more tasks have no fewer counted prefixes
pub count_rises : (case : GoodsCase) (floor : Pair) (above : Option Pair) (from n more : ℕ) → count_tasks case floor above from n ≤ count_tasks case floor above from (n + more)
count_rises case floor above from n zero = let e : n + zero ≡ n = omega arith in rw e (omega arith)
count_rises case floor above from n (suc d) =
    let e : n + suc d ≡ n + d + 1 = omega arith in
    let rest = count_rises case floor above from n d in
    let more = count_one_more case floor above from (n + d) in
    rw e (omega arith)
