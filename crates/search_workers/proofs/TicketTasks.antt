-- What the tasks of tickets count and have, against the tasks of a block.
use Rattle.std.proofs.Common.{◌≡◌, ℕ, zero, suc, ◌+◌, ◌-◌, ◌*◌, ◌<◌, ◌≤◌, ◌⊎◌, List, [], ◌∷◌, ◌++◌, Contains, Option, None, Some, cond, flat_map, sym, refl, ap, ◌∙◌, subst, ⊎_elim, inl, inr, arith, lt-ltb, le-ltb}
use Rattle.std.specs.List.{range_with_len, sum_by}
use Rattle.std.proofs.lemmas.List.Concat.{flat_map-cons}
use Rattle.std.proofs.lemmas.List.Elements.{All-contains, All-contains_itself, All-weaker, Contains-append_cases, Contains-append_left, Contains-append_right}
use mathlib.Core.Logic.{dite}
use native.Mathlib.Decide.{dec_le}
use Rattle.bid_rules.specs.declared.goods.GoodsCase.{GoodsCase}
use Rattle.bid_rules.specs.declared.pair.Pair.{Pair}
use Rattle.bid_rules.specs.Goods.{IsBehind}
use Rattle.nash_bounds.specs.declared.limits.TheConstants.{BLOCK_TASKS}
use Rattle.nash_bounds.specs.Allocations.{IsBestOf}
use Rattle.nash_bounds.specs.Blocks.{count_block, counted_of_block, tasks_in}
use Rattle.nash_bounds.specs.Counted.{count_task, count_tasks, counted_leaves, counted_of_tasks}
use Rattle.nash_search.specs.Best.{IsFoundBest, list_of}
use Rattle.nash_search.specs.declared.found.Found.{Found}
use Rattle.search_workers.specs.Works.{count_at, counted_at}
use Rattle.search_workers.proofs.Sums.{below_more}

-- what tasks in a row count and have, as the laws have it
pub record RowLaws : Type 0 where
  pub none : (case : GoodsCase) (floor : Pair) (above : Option Pair) (from : ℕ) → count_tasks case floor above from 0 ≡ 0
  pub more : (case : GoodsCase) (floor : Pair) (above : Option Pair) (from n : ℕ) → count_tasks case floor above from (n + 1) ≡ count_tasks case floor above from n + count_task case (from + n) floor above
  pub rises : (case : GoodsCase) (floor : Pair) (above : Option Pair) (from n more : ℕ) → count_tasks case floor above from n ≤ count_tasks case floor above from (n + more)
  pub none_counted : (case : GoodsCase) (floor : Pair) (above : Option Pair) (from : ℕ) → counted_of_tasks case floor above from 0 ≡ []
  pub more_counted : (case : GoodsCase) (floor : Pair) (above : Option Pair) (from n : ℕ) → counted_of_tasks case floor above from (n + 1) ≡ counted_of_tasks case floor above from n ++ counted_leaves case (from + n) floor above

module _ (case : GoodsCase) (floor : Pair) (above : Option Pair) (block : ℕ) where
  -- a ticket of a task has that task
  pub count_inside : (t : ℕ) → t < tasks_in case block → count_at case floor above block t ≡ count_task case (BLOCK_TASKS * block + t) floor above
  count_inside t h = ap (λ b. cond b (count_task case (BLOCK_TASKS * block + t) floor above) 0) (lt-ltb t (tasks_in case block) h)

  -- one past the last task has none
  pub count_past : (t : ℕ) → tasks_in case block ≤ t → count_at case floor above block t ≡ 0
  count_past t h = ap (λ b. cond b (count_task case (BLOCK_TASKS * block + t) floor above) 0) (le-ltb t (tasks_in case block) h)

  -- the same of the counted allocations
  pub counted_inside : (t : ℕ) → t < tasks_in case block → counted_at case floor above block t ≡ counted_leaves case (BLOCK_TASKS * block + t) floor above
  counted_inside t h = ap (λ b. cond b (counted_leaves case (BLOCK_TASKS * block + t) floor above) []) (lt-ltb t (tasks_in case block) h)

  -- and past the last task
  pub counted_past : (t : ℕ) → tasks_in case block ≤ t → counted_at case floor above block t ≡ []
  counted_past t h = ap (λ b. cond b (counted_leaves case (BLOCK_TASKS * block + t) floor above) []) (le-ltb t (tasks_in case block) h)

  -- the tickets of the first few tasks count what these count
  count_first : RowLaws → (n : ℕ) → n ≤ tasks_in case block → sum_by (count_at case floor above block) (range_with_len 0 n) ≡ count_tasks case floor above (BLOCK_TASKS * block) n
  count_first laws zero h = sym (laws.none case floor above (BLOCK_TASKS * block))
  count_first laws (suc n) h =
      let e : suc n ≡ n + 1 = omega arith in
      let a : sum_by (count_at case floor above block) (range_with_len 0 (suc n)) ≡ sum_by (count_at case floor above block) (range_with_len 0 n) + count_at case floor above block n =
      ap (λ m. sum_by (count_at case floor above block) (range_with_len 0 m)) e ∙ below_more (count_at case floor above block) n in
      let b : count_tasks case floor above (BLOCK_TASKS * block) (suc n) ≡ count_tasks case floor above (BLOCK_TASKS * block) n + count_task case (BLOCK_TASKS * block + n) floor above =
      ap (count_tasks case floor above (BLOCK_TASKS * block)) e ∙ laws.more case floor above (BLOCK_TASKS * block) n in
      let here = count_inside n (omega (arith, h)) in
      let rest = count_first laws n (omega (arith, h)) in
      omega (arith, a, b, here, rest)

  -- tickets past the last task add nothing
  count_on : (k : ℕ) → sum_by (count_at case floor above block) (range_with_len 0 (tasks_in case block + k)) ≡ sum_by (count_at case floor above block) (range_with_len 0 (tasks_in case block))
  count_on zero = let e : tasks_in case block + 0 ≡ tasks_in case block = omega arith in ap (λ m. sum_by (count_at case floor above block) (range_with_len 0 m)) e
  count_on (suc k) =
      let e : tasks_in case block + suc k ≡ tasks_in case block + k + 1 = omega arith in
      let a : sum_by (count_at case floor above block) (range_with_len 0 (tasks_in case block + suc k))
      ≡ sum_by (count_at case floor above block) (range_with_len 0 (tasks_in case block + k)) + count_at case floor above block (tasks_in case block + k) =
      ap (λ m. sum_by (count_at case floor above block) (range_with_len 0 m)) e ∙ below_more (count_at case floor above block) (tasks_in case block + k) in
      let past = count_past (tasks_in case block + k) (omega arith) in
      let rest = count_on k in
      omega (arith, a, past, rest)

  -- so all tickets below one past the last task count what the block counts
  pub count_all : RowLaws → (n : ℕ) → tasks_in case block ≤ n → sum_by (count_at case floor above block) (range_with_len 0 n) ≡ count_block case floor above block
  count_all laws n h =
      let e : tasks_in case block + (n - tasks_in case block) ≡ n = omega (arith, h) in
      ap (λ m. sum_by (count_at case floor above block) (range_with_len 0 m)) (sym e) ∙ count_on (n - tasks_in case block) ∙ count_first laws (tasks_in case block) (omega arith)

  -- and fewer tickets count no more
  pub count_most : RowLaws → (n : ℕ) → sum_by (count_at case floor above block) (range_with_len 0 n) ≤ count_block case floor above block
  count_most laws n =
      dite (dec_le (tasks_in case block) n) (λ h. let all = count_all laws n h in omega (arith, all)) (λ no.
      let h : n ≤ tasks_in case block = omega (arith, no) in
      let e : n + (tasks_in case block - n) ≡ tasks_in case block = omega (arith, h) in
      let first = count_first laws n h in
      let le : count_tasks case floor above (BLOCK_TASKS * block) n ≤ count_block case floor above block =
      subst (λ m. count_tasks case floor above (BLOCK_TASKS * block) n ≤ count_tasks case floor above (BLOCK_TASKS * block) m) e (laws.rises case floor above (BLOCK_TASKS * block) n (tasks_in case block - n)) in
      omega (arith, first, le))

  -- what a task of a row has, the row has
  into_row : RowLaws → (n t : ℕ) (x : List ℕ) → t < n → Contains (counted_leaves case (BLOCK_TASKS * block + t) floor above) x → Contains (counted_of_tasks case floor above (BLOCK_TASKS * block) n) x
  into_row laws zero t x h there = absurd (omega (arith, h))
  into_row laws (suc n) t x h there =
      let e : n + 1 ≡ suc n = omega arith in
      let parts = counted_of_tasks case floor above (BLOCK_TASKS * block) n in
      let last = counted_leaves case (BLOCK_TASKS * block + n) floor above in
      let all : Contains (parts ++ last) x = dite (dec_le n t)
      (λ le. let same : t ≡ n = omega (arith, le, h) in Contains-append_right parts last x (subst (λ (m : ℕ). Contains (counted_leaves case (BLOCK_TASKS * block + m) floor above) x) same there))
      (λ no. Contains-append_left parts last x (into_row laws n t x (omega (arith, no)) there)) in
      subst (λ (m : ℕ). Contains (counted_of_tasks case floor above (BLOCK_TASKS * block) m) x) e (subst (λ xs. Contains xs x) (sym (laws.more_counted case floor above (BLOCK_TASKS * block) n)) all)

  -- what a row has, one of its tasks has
  from_row : RowLaws → (n : ℕ) (x : List ℕ) → Contains (counted_of_tasks case floor above (BLOCK_TASKS * block) n) x
      → (t : ℕ) × (t < n) × Contains (counted_leaves case (BLOCK_TASKS * block + t) floor above) x
  from_row laws zero x there =
      let nothing : Contains [] x = subst (λ xs. Contains xs x) (laws.none_counted case floor above (BLOCK_TASKS * block)) there in
      let l = nothing.1 in
      absurd (omega (arith, l))
  from_row laws (suc n) x there =
      let e : suc n ≡ n + 1 = omega arith in
      let parts = counted_of_tasks case floor above (BLOCK_TASKS * block) n in
      let last = counted_leaves case (BLOCK_TASKS * block + n) floor above in
      let all : Contains (parts ++ last) x = subst (λ xs. Contains xs x) (laws.more_counted case floor above (BLOCK_TASKS * block) n) (subst (λ (m : ℕ). Contains (counted_of_tasks case floor above (BLOCK_TASKS * block) m) x) e there) in
      ⊎_elim (λ old. let rest = from_row laws n x old in (rest.0, (let l = rest.1 in omega (arith, l)), rest.2)) (λ new. (n, omega arith, new)) (Contains-append_cases parts last x all)

-- what a part has, all parts have
into_parts : (f : ℕ → List (List ℕ)) (ts : List ℕ) (t : ℕ) (x : List ℕ) → Contains ts t → Contains (f t) x → Contains (flat_map f ts) x
into_parts f [] t x there within = absurd (let l = there.1 in omega (arith, l))
into_parts f (u ∷ us) t x there within = subst (λ xs. Contains xs x) (sym (flat_map-cons f u us)) (⊎_elim
    (λ first. Contains-append_left (f u) (flat_map f us) x (subst (λ (m : ℕ). Contains (f m) x) (sym first) within))
    (λ rest. Contains-append_right (f u) (flat_map f us) x (into_parts f us t x rest within))
    (first_or_rest u us t there))
  where
    first_or_rest : (u : ℕ) (us : List ℕ) (t : ℕ) → Contains (u ∷ us) t → (u ≡ t) ⊎ Contains us t
    first_or_rest u us t (zero, l, e) = inl e
    first_or_rest u us t (suc k, l, e) = inr (k, omega (arith, l), e)

-- what all parts have, one part has
from_parts : (f : ℕ → List (List ℕ)) (ts : List ℕ) (x : List ℕ) → Contains (flat_map f ts) x → (t : ℕ) × Contains ts t × Contains (f t) x
from_parts f [] x there = absurd (let l = there.1 in omega (arith, l))
from_parts f (u ∷ us) x there =
    ⊎_elim
    (λ here. (u, (0, omega arith, refl), here))
    (λ later. let rest = from_parts f us x later in let at = rest.1 in (rest.0, (suc at.0, (let l = at.1 in omega (arith, l)), at.2), rest.2))
    (Contains-append_cases (f u) (flat_map f us) x (subst (λ xs. Contains xs x) (flat_map-cons f u us) there))

-- the best of some allocations is that of others which are the same, in whatever order and however often
same_best : (case : GoodsCase) (xs ys : List (List ℕ)) (found : Option Found) → ((x : List ℕ) → Contains xs x → Contains ys x) → ((x : List ℕ) → Contains ys x → Contains xs x)
    → IsFoundBest case xs found → IsFoundBest case ys found
same_best case xs ys found into back is = record { best = go (list_of found) is.best; pair = is.pair }
  where
    empty : (ys : List (List ℕ)) → ((x : List ℕ) → Contains ys x → Contains [] x) → ys ≡ []
    empty [] h = refl
    empty (y ∷ ys) h = let l = (h y (0, omega arith, refl)).1 in absurd (omega (arith, l))

    go : (best : Option (List ℕ)) → IsBestOf case xs best → IsBestOf case ys best
    go None none = empty ys (λ x there. subst (λ zs. Contains zs x) none (back x there))
    go (Some best) h =
        (into best h.0, All-weaker (Contains ys) (λ x. IsBehind case x best) (λ x there. All-contains (λ y. IsBehind case y best) xs x h.1 (back x there)) ys (All-contains_itself ys))

-- where each task of the block has its ticket, the best of the tickets' tasks is that of the block
pub block_best : RowLaws → (case : GoodsCase) (floor : Pair) (above : Option Pair) (block : ℕ) (tickets : List ℕ) (found : Option Found) → ((t : ℕ) → t < tasks_in case block → Contains tickets t)
    → IsFoundBest case (flat_map (counted_at case floor above block) tickets) found → IsFoundBest case (counted_of_block case floor above block) found
block_best laws case floor above block tickets found each is =
    same_best case (flat_map (counted_at case floor above block) tickets) (counted_of_block case floor above block) found
    (λ x there.
    let part = from_parts (counted_at case floor above block) tickets x there in
    let t = part.0 in
    dite (dec_le (tasks_in case block) t)
    (λ past. let nothing : Contains [] x = subst (λ xs. Contains xs x) (counted_past case floor above block t past) part.2 in let l = nothing.1 in absurd (omega (arith, l)))
    (λ no.
    let inside : t < tasks_in case block = omega (arith, no) in
    into_row case floor above block laws (tasks_in case block) t x inside (subst (λ xs. Contains xs x) (counted_inside case floor above block t inside) part.2)))
    (λ x there.
    let part = from_row case floor above block laws (tasks_in case block) x there in
    into_parts (counted_at case floor above block) tickets part.0 x (each part.0 part.1) (subst (λ xs. Contains xs x) (sym (counted_inside case floor above block part.0 part.1)) part.2))
    is
