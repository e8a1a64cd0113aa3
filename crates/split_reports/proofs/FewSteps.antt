-- A step count is at most the number of all prefixes.
use Rattle.std.proofs.Common.{◌≡◌, ℕ, zero, suc, ◌-◌, ◌*◌, ◌/◌, ◌^◌, ◌≤◌, List, [], ◌∷◌, ◌++◌, All, flat_map, length, nat_le, refl, ap, ◌∙◌, arith}
use Rattle.std.specs.Prelude.{Option}
use Rattle.std.specs.List.{position_or_len, range_with_len, sum_by}
use Rattle.std.proofs.lemmas.List.Concat.{length-flat_map}
use Rattle.std.proofs.lemmas.List.Elements.{All-cons, All-nil}
use Rattle.std.proofs.lemmas.List.FromFn.{length-range_with_len}
use Rattle.std.proofs.lemmas.List.Sums.{count_by-le-length, sum_by-cons, sum_by-le}
use Rattle.bid_rules.specs.declared.goods.GoodsCase.{GoodsCase}
use Rattle.bid_rules.specs.declared.pair.Pair.{Pair}
use Rattle.bid_rules.specs.Goods.{player_count}
use Rattle.nash_bounds.specs.Counted.{count, count_task, is_counted}
use Rattle.nash_bounds.specs.OwnerLists.{below}
use Rattle.nash_bounds.specs.Steps.{HasSteps, earlier, steps_before}
use Rattle.nash_bounds.specs.Tasks.{depth_of, task_list, tasks_of}
use Rattle.nash_bounds.specs.declared.limits.TheConstants.{BLOCK_TASKS, FEWEST_LISTS}
use Rattle.split_reports.specs.TrialPrefixes.{list_count}
use Rattle.split_reports.specs.Trials.{goods_behind}
use Rattle.split_reports.proofs.ValidCases.{goods_players}

-- a sum of equals
sum_same : (f : ℕ → ℕ) (each : ℕ) → ((x : ℕ) → f x ≡ each) → (xs : List ℕ) → sum_by f xs ≡ length xs * each
sum_same f each same [] = omega arith
sum_same f each same (x ∷ xs) =
    let first = sum_by-cons f x xs in
    let rest = sum_same f each same xs in
    let one = same x in
    grind (arith, first, rest, one)

-- the lists that begin with some owners and have up to k more
below_length : (n k : ℕ) (owners : List ℕ) → length (below n k owners) ≡ list_count n k
unfolding list_count
below_length n zero owners = refl
below_length n (suc k) owners =
    let rest = length-flat_map (λ owner. below n k (owners ++ owner ∷ [])) (range_with_len 1 n) in
    let each = sum_same (λ owner. length (below n k (owners ++ owner ∷ []))) (list_count n k) (λ owner. below_length n k (owners ++ owner ∷ [])) (range_with_len 1 n) in
    let long = length-range_with_len 1 n in
    let all : length (flat_map (λ owner. below n k (owners ++ owner ∷ [])) (range_with_len 1 n)) ≡ n * list_count n k = rest ∙ each ∙ ap (λ m. m * list_count n k) long in
    omega (arith, all)

-- a task counts at most those that begin with its owners
task_few : (case : GoodsCase) (task : ℕ) (floor : Pair) (above : Option Pair) → count_task case task floor above ≤ list_count (player_count case) (case.facts.goods - depth_of case)
unfolding count
task_few case task floor above =
    let few = count_by-le-length (is_counted case floor above) (below (player_count case) (case.facts.goods - depth_of case) (task_list case task)) in
    let long = below_length (player_count case) (case.facts.goods - depth_of case) (task_list case task) in
    omega (arith, few, long)

-- and so do all tasks
all_of : {P : ℕ → Type 0} → ((x : ℕ) → P x) → (xs : List ℕ) → All P xs
all_of {P} each [] = All-nil P
all_of {P} each (x ∷ xs) = All-cons P x xs (each x) (all_of each xs)

pub few_steps : (case : GoodsCase) (steps : ℕ) → HasSteps case steps → steps ≤ tasks_of case * list_count (player_count case) (case.facts.goods - depth_of case)
unfolding steps_before
few_steps case steps has =
    let floor = has.0 in
    let most = list_count (player_count case) (case.facts.goods - depth_of case) in
    let f : ℕ → ℕ = λ t. count_task case t floor (earlier case (t / BLOCK_TASKS)) in
    let few = sum_by-le f most (range_with_len 0 (tasks_of case)) (all_of (λ t. task_few case t floor (earlier case (t / BLOCK_TASKS))) (range_with_len 0 (tasks_of case))) in
    let long = ap (λ n. n * most) (length-range_with_len 0 (tasks_of case)) in
    omega (arith, has.2, few, long)

-- the goods of a trial have 64 tasks, of three goods each
trial_depth : (draw : ℕ) → depth_of (goods_behind draw) ≡ 3
unfolding depth_of goods_behind
trial_depth draw = ap (λ n. position_or_len (λ depth. nat_le FEWEST_LISTS (n ^ depth)) (range_with_len 0 8)) (goods_players draw)

pub trial_few : (draw steps : ℕ) → HasSteps (goods_behind draw) steps → steps ≤ 87360
unfolding list_count goods_behind
trial_few draw steps has =
    let few = few_steps (goods_behind draw) steps has in
    let same : tasks_of (goods_behind draw) * list_count (player_count (goods_behind draw)) (8 - depth_of (goods_behind draw)) ≡ 87360 =
    ap (λ n. n ^ depth_of (goods_behind draw) * list_count n (8 - depth_of (goods_behind draw))) (goods_players draw) ∙ ap (λ d. 4 ^ d * list_count 4 (8 - d)) (trial_depth draw) in
    omega (arith, few, same)
