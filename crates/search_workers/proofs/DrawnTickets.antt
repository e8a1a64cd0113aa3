-- What a worker has after a draw.
use Rattle.std.proofs.Common.{◌≡◌, ℕ, zero, suc, ◌+◌, ◌-◌, ◌*◌, ◌<◌, ◌≤◌, List, [], ◌∷◌, ◌++◌, Option, append-nil, length, get_or, sym, refl, ap, ◌∙◌, subst, arith, All}
use Rattle.std.proofs.lemmas.List.{flat_map_more, length-append, get_or_append_left}
use Rattle.std.proofs.lemmas.List.Elements.{Contains-push}
use mathlib.Core.Logic.{dite}
use native.Mathlib.Decide.{dec_le}
use Rattle.bid_rules.specs.declared.goods.GoodsCase.{GoodsCase}
use Rattle.nash_bounds.specs.declared.limits.TheConstants.{BLOCK_TASKS}
use Rattle.nash_bounds.specs.Blocks.{tasks_in}
use Rattle.nash_bounds.specs.Counted.{count_task, counted_leaves}
use Rattle.nash_search.specs.Best.{IsFoundBest}
use Rattle.nash_search.specs.declared.found.Found.{Found}
use Rattle.search_workers.specs.declared.worker.BlockRule.{BlockRule}
use Rattle.search_workers.specs.Crews.{AtWork, IsSteep}
use Rattle.search_workers.specs.Works.{HasWhole, count_at, count_of_tickets, counted_at, counted_of_tickets}
use Rattle.search_workers.proofs.Sums.{sum_last}
use Rattle.search_workers.proofs.TicketTasks.{count_inside, count_past, counted_inside, counted_past}

-- a worker has at most as many tickets as the block has tasks
pub few_drawn : (case : GoodsCase) (rule : BlockRule) (tickets : List ℕ) (nodes : ℕ) (best : Option Found) → AtWork case rule tickets nodes best → length tickets ≤ BLOCK_TASKS
few_drawn case rule tickets nodes best w =
    dite (dec_le (length tickets) BLOCK_TASKS) (λ h. h) (λ no.
    let long : BLOCK_TASKS < length tickets = omega (arith, no) in
    let a = w.steep BLOCK_TASKS long in
    let b = w.of_tasks BLOCK_TASKS long in
    absurd (omega (arith, a, b)))

-- the entry at the end of a list one longer
last_is : (xs : List ℕ) (t k : ℕ) → length xs ≡ k → get_or (xs ++ t ∷ []) k 0 ≡ t
last_is [] t zero e = refl
last_is [] t (suc k) e = absurd (omega (arith, e))
last_is (x ∷ xs) t zero e = absurd (omega (arith, e))
last_is (x ∷ xs) t (suc k) e = last_is xs t k (omega (arith, e))

-- a number above all of a list that rises is at least its length
at_least : (xs : List ℕ) (t : ℕ) → IsSteep xs → All (λ x. x < t) xs → length xs ≤ t
at_least xs t steep above =
    dite (dec_le (length xs) 0) (λ none_there. omega (arith, none_there)) (λ some_there.
    let j : ℕ = length xs - 1 in
    let inside : j < length xs = omega (arith, some_there) in
    let a = steep j inside in
    let b = above j 0 inside in
    omega (arith, a, b, inside))

-- so the list with it rises
steep_more : (xs : List ℕ) (t : ℕ) → IsSteep xs → All (λ x. x < t) xs → IsSteep (xs ++ t ∷ [])
steep_more xs t steep above k h =
    let long = length-append xs (t ∷ []) in
    dite (dec_le (length xs) k)
    (λ end.
    let here : length xs ≡ k = omega (arith, end, h, long) in
    let a = last_is xs t k here in
    let b = at_least xs t steep above in
    omega (arith, a, b, here))
    (λ no. let inside : k < length xs = omega (arith, no) in let a = get_or_append_left xs (t ∷ []) 0 k inside in let b = steep k inside in omega (arith, a, b))

-- numbers below a limit, and one more
all_more : (tasks : ℕ) (xs : List ℕ) (t : ℕ) → ((k : ℕ) → k < length xs → get_or xs k 0 < tasks) → t < tasks → (k : ℕ) → k < length (xs ++ t ∷ []) → get_or (xs ++ t ∷ []) k 0 < tasks
all_more tasks xs t each here k h =
    let long = length-append xs (t ∷ []) in
    dite (dec_le (length xs) k)
    (λ end. let a = last_is xs t k (omega (arith, end, h, long)) in omega (arith, a, here))
    (λ no. let inside : k < length xs = omega (arith, no) in let a = get_or_append_left xs (t ∷ []) 0 k inside in let b = each k inside in omega (arith, a, b))

-- one ticket more adds its task's counted prefixes
count_more : (case : GoodsCase) (rule : BlockRule) (xs : List ℕ) (t : ℕ) → t < tasks_in case rule.block
    → count_of_tickets case rule.floor rule.above rule.block (xs ++ t ∷ []) ≡ count_of_tickets case rule.floor rule.above rule.block xs + count_task case (BLOCK_TASKS * rule.block + t) rule.floor rule.above
count_more case rule xs t here =
    let a = sum_last (count_at case rule.floor rule.above rule.block) xs t in
    let b = count_inside case rule.floor rule.above rule.block t here in
    omega (arith, a, b)

-- and its counted allocations
counted_more : (case : GoodsCase) (rule : BlockRule) (xs : List ℕ) (t : ℕ) → t < tasks_in case rule.block
    → counted_of_tickets case rule.floor rule.above rule.block xs ++ counted_leaves case (BLOCK_TASKS * rule.block + t) rule.floor rule.above ≡ counted_of_tickets case rule.floor rule.above rule.block (xs ++ t ∷ [])
counted_more case rule xs t here =
    ap (λ ys. counted_of_tickets case rule.floor rule.above rule.block xs ++ ys) (sym (counted_inside case rule.floor rule.above rule.block t here))
    ∙ flat_map_more (counted_at case rule.floor rule.above rule.block) [] xs t

-- after a task that is walked whole
pub work_more : (case : GoodsCase) (rule : BlockRule) (t nodes piece : ℕ) (best more : Option Found) (xs : List ℕ) → AtWork case rule xs nodes best → All (λ x. x < t) xs → t < tasks_in case rule.block
    → piece ≡ count_task case (BLOCK_TASKS * rule.block + t) rule.floor rule.above
    → IsFoundBest case (counted_of_tickets case rule.floor rule.above rule.block xs ++ counted_leaves case (BLOCK_TASKS * rule.block + t) rule.floor rule.above) more
    → AtWork case rule (xs ++ t ∷ []) (nodes + piece) more
work_more case rule t nodes piece best more xs w above here count found = record {
  steep = steep_more xs t w.steep above;
  of_tasks = all_more (tasks_in case rule.block) xs t w.of_tasks here;
  count = let a = w.count in let b = count_more case rule xs t here in omega (arith, a, b, count);
  found = subst (λ ys. IsFoundBest case ys more) (counted_more case rule xs t here) found;
}

-- after a ticket past the last task
pub work_ended : (case : GoodsCase) (rule : BlockRule) (t nodes : ℕ) (best : Option Found) (xs : List ℕ) → AtWork case rule xs nodes best → tasks_in case rule.block ≤ t
    → HasWhole case rule.floor rule.above rule.block (xs ++ t ∷ []) nodes best
work_ended case rule t nodes best xs w past =
    let same : counted_of_tickets case rule.floor rule.above rule.block xs ≡ counted_of_tickets case rule.floor rule.above rule.block (xs ++ t ∷ []) =
    sym (append-nil (counted_of_tickets case rule.floor rule.above rule.block xs)) ∙ ap (λ ys. counted_of_tickets case rule.floor rule.above rule.block xs ++ ys) (sym (counted_past case rule.floor rule.above rule.block t past))
    ∙ flat_map_more (counted_at case rule.floor rule.above rule.block) [] xs t in record {
      past = (t, past, Contains-push xs t);
      count = let a = w.count in let b = sum_last (count_at case rule.floor rule.above rule.block) xs t in let c = count_past case rule.floor rule.above rule.block t past in omega (arith, a, b, c);
      found = subst (λ ys. IsFoundBest case ys best) same w.found;
    }
