-- What is found among the counted allocations serves for the best of all: by it the same is counted, and so it goes on to serve.
use Rattle.std.proofs.Common.{◌≡◌, ℕ, suc, zero, ◌+◌, ◌-◌, ◌*◌, ◌/◌, ◌<◌, ◌≤◌, List, [], ◌∷◌, ◌++◌, fold, cond, Bool, true, false, ◌&&◌, Option, Some, None, flat_map, arith, refl, sym, ap, ◌∙◌, subst, length, All, Contains, inl, inr}
use Rattle.std.specs.List.{filter, range_with_len, sum_by, count_by}
use Rattle.std.specs.Option.{option_to_list}
use Rattle.std.proofs.lemmas.List.Elements.{All-head, All-tail, All-weaker, All-contains, Contains-get_or}
use Rattle.std.proofs.lemmas.List.Sums.{sum_by-cons, sum_by-append, fold-append}
use Rattle.std.proofs.lemmas.List.Concat.{flat_map-append}
use Rattle.std.specs.Cmp.Lexicographic.{slice_cmp}
use Rattle.std.specs.Ordering.{nat_cmp}
use Rattle.std.specs.declared.cmp.Ordering.TheVariants.{Less}
use Rattle.bid_rules.specs.declared.goods.GoodsCase.{GoodsCase}
use Rattle.bid_rules.specs.declared.pair.Pair.{Pair}
use Rattle.bid_rules.specs.Pairs.{IsAtMost, IsLess, is_at_most, is_less, is_above}
use Rattle.bid_rules.specs.Goods.{IsValidGoodsCase, GoodsBest, IsBehind, pair_of, player_count}
use Rattle.split_lemmas.proofs.ListOrder.{same_from_neither}
use Rattle.split_lemmas.proofs.PairOrder.{at_most-from, at_most-to, at_most_less, at_most_itself, less-from, less-to, less_at_most, less_not, less_through, not_at_most}
use Rattle.split_lemmas.proofs.RangeSteps.{range_more, range_split}
use Rattle.nash_bounds.specs.Allocations.{keep, IsBestOf}
use Rattle.nash_bounds.specs.Counted.{is_counted, best, count, count_task, count_tasks, counted_leaves, counted_of_tasks}
use Rattle.nash_bounds.specs.OwnerLists.{below, lists}
use Rattle.nash_bounds.specs.Prefixes.{prefix_bound}
use Rattle.nash_bounds.specs.Serving.{Serves}
use Rattle.nash_bounds.specs.Start.{IsStartValue}
use Rattle.nash_bounds.specs.Steps.{best_before, earlier, pair_kept, steps_before}
use Rattle.nash_bounds.specs.Tasks.{depth_of, tasks_of, task_list, task_leaves}
use Rattle.nash_bounds.proofs.BestOfRising.{Rising, best_is, best_of_rising, first_of}
use Rattle.nash_bounds.proofs.TaskRows.{count_none, count_one_more}
use Rattle.nash_bounds.proofs.BestAllocation.{goods_best, some_best}
use Rattle.nash_bounds.proofs.EarlierBlocks.{best_before_found, tasks_rise}
use Rattle.nash_bounds.proofs.OwnerCounts.{length_lists, power_less}
use Rattle.nash_bounds.proofs.OwnerLists.{lists_rising}
use Rattle.nash_bounds.proofs.RisingLists.{All_filter, leaves_rising, rising_across, rising_filter, rising_rest}
use Rattle.nash_bounds.proofs.TaskLists.{all_leaves, depth_short, task_leaves_long}
use Rattle.nash_bounds.proofs.WholeLists.{whole_pair}
use Rattle.nash_bounds.specs.declared.limits.TheConstants.{BLOCK_TASKS}

-- the pair that bounds must exceed is not above the best
abbrev pub Allows : GoodsCase → Option Pair → Option (List ℕ) → Type 0
Allows case None best = Unit {0}
Allows case (Some p) None = ⊥
Allows case (Some p) (Some b) = IsAtMost p (pair_of case b)

-- the test by its parts
pass_floor : (floor : Pair) (above : Option Pair) (x : Pair) → (is_at_most floor x && is_above above x) ≡ true → IsAtMost floor x
pass_floor floor above x h = at_most-from floor x (left (is_at_most floor x) (is_above above x) h)
  where
    left : (a b : Bool) → (a && b) ≡ true → a ≡ true
    left true b h = refl
    left false b h = absurd (cc)

-- a pair that fails where nothing is above is below the floor
fail_none : (floor x : Pair) → (is_at_most floor x && is_above None x) ≡ false → IsLess x floor
fail_none floor x h = not_at_most floor x (left (is_at_most floor x) h)
  where
    left : (a : Bool) → (a && true) ≡ false → a ≡ false
    left true h = absurd (cc)
    left false h = refl

-- a pair above one that is allowed is above the rule's pair
allowed_above : (case : GoodsCase) (above : Option Pair) (b : List ℕ) (x : Pair) → Allows case above (Some b) → IsLess (pair_of case b) x → is_above above x ≡ true
allowed_above case None b x h l = refl
allowed_above case (Some p) b x h l = less-to p x (at_most_less p (pair_of case b) x h l)

-- so an allocation with a greater pair is allowed
allows_more : (case : GoodsCase) (above : Option Pair) (b x : List ℕ) → Allows case above (Some b) → IsLess (pair_of case b) (pair_of case x) → Allows case above (Some x)
allows_more case None b x h l = tt
allows_more case (Some p) b x h l = less_at_most p (pair_of case x) (at_most_less p (pair_of case b) (pair_of case x) h l)

-- where nothing is found, the rule has no pair, and allows all
allows_first : (case : GoodsCase) (above : Option Pair) (x : List ℕ) → Allows case above None → Allows case above (Some x)
allows_first case None x h = tt
allows_first case (Some p) x h = absurd h

-- keeping one more of equals
both_keep : (case : GoodsCase) (floor : Pair) (above : Option Pair) (a b x : List ℕ) (t : Bool) → is_less (pair_of case b) (pair_of case x) ≡ t → a ≡ b → IsAtMost floor (pair_of case b) → Allows case above (Some b)
    → Serves case floor (cond t (Some x) (Some b)) (cond t (Some x) (Some a)) × Allows case above (cond t (Some x) (Some b))
both_keep case floor above a b x true h e f al =
    let l = less-from (pair_of case b) (pair_of case x) h in
    ((refl, less_at_most floor (pair_of case x) (at_most_less floor (pair_of case b) (pair_of case x) f l)), allows_more case above b x al l)
both_keep case floor above a b x false h e f al = ((e, f), al)

-- where the next allocation is counted, what is kept of both goes on to serve
sim_true : (case : GoodsCase) (floor : Pair) (above : Option Pair) (x : List ℕ) (old all : Option (List ℕ)) → (is_at_most floor (pair_of case x) && is_above above (pair_of case x)) ≡ true
    → Serves case floor old all → Allows case above old → Serves case floor (keep case old x) (keep case all x) × Allows case above (keep case old x)
sim_true case floor above x None None t f al = ((refl, pass_floor floor above (pair_of case x) t), allows_first case above x al)
sim_true case floor above x None (Some a) t f al =
    let fl = pass_floor floor above (pair_of case x) t in
    let l : is_less (pair_of case a) (pair_of case x) ≡ true = less-to (pair_of case a) (pair_of case x) (less_through (pair_of case a) floor (pair_of case x) f fl) in
    (subst (λ b. Serves case floor (Some x) (cond b (Some x) (Some a))) (sym l) (refl, fl), allows_first case above x al)
sim_true case floor above x (Some b) None t f al = absurd f
sim_true case floor above x (Some b) (Some a) t f al =
    subst (λ (d : List ℕ). Serves case floor (keep case (Some b) x) (cond (is_less (pair_of case d) (pair_of case x)) (Some x) (Some a)) × Allows case above (keep case (Some b) x)) (sym f.0)
    (both_keep case floor above a b x (is_less (pair_of case b) (pair_of case x)) refl f.0 f.1 al)

-- of two below the floor the better is below it
below_keep : (case : GoodsCase) (floor : Pair) (a x : List ℕ) (t : Bool) → IsLess (pair_of case a) floor → IsLess (pair_of case x) floor → Serves case floor None (cond t (Some x) (Some a))
below_keep case floor a x true f g = g
below_keep case floor a x false f g = f

-- where the next allocation is not counted, what is found goes on to serve
sim_false : (case : GoodsCase) (floor : Pair) (above : Option Pair) (x : List ℕ) (old all : Option (List ℕ)) → (is_at_most floor (pair_of case x) && is_above above (pair_of case x)) ≡ false
    → Serves case floor old all → Allows case above old → Serves case floor old (keep case all x)
sim_false case floor None x None None t f al = fail_none floor (pair_of case x) t
sim_false case floor None x None (Some a) t f al = below_keep case floor a x (is_less (pair_of case a) (pair_of case x)) f (fail_none floor (pair_of case x) t)
sim_false case floor (Some p) x None all t f al = absurd al
sim_false case floor above x (Some b) None t f al = absurd f
sim_false case floor above x (Some b) (Some a) t f al =
    subst (λ (d : List ℕ). Serves case floor (Some b) (cond (is_less (pair_of case d) (pair_of case x)) (Some x) (Some a))) (sym f.0)
    (stays (is_less (pair_of case b) (pair_of case x)) refl)
  where
    stays : (s : Bool) → is_less (pair_of case b) (pair_of case x) ≡ s → Serves case floor (Some b) (cond s (Some x) (Some a))
    stays false h = f
    stays true h =
        let l = less-from (pair_of case b) (pair_of case x) h in
        let one : is_at_most floor (pair_of case x) ≡ true = at_most-to floor (pair_of case x) (less_at_most floor (pair_of case x) (at_most_less floor (pair_of case b) (pair_of case x) f.1 l)) in
        let two : is_above above (pair_of case x) ≡ true = allowed_above case above b (pair_of case x) al l in
        let three : (is_at_most floor (pair_of case x) && is_above above (pair_of case x)) ≡ true = rw (one, two) refl in
        absurd (cc)

-- an allocation is counted by its pair
abbrev pub passes : GoodsCase → Pair → Option Pair → List ℕ → Bool
passes case floor above owners = is_at_most floor (pair_of case owners) && is_above above (pair_of case owners)

-- two tests that are the same at each entry keep the same
filter_same : (p q : List ℕ → Bool) (xs : List (List ℕ)) → All (λ x. p x ≡ q x) xs → filter p xs ≡ filter q xs
filter_same p q [] h = refl
filter_same p q (x ∷ xs) h =
    let one : p x ≡ q x = All-head (λ x. p x ≡ q x) x xs h in
    let rest : filter p xs ≡ filter q xs = filter_same p q xs (All-tail (λ x. p x ≡ q x) x xs h) in
    ap (λ b. cond b (x ∷ filter p xs) (filter p xs)) one ∙ ap (λ ys. cond (q x) (x ∷ ys) ys) rest

-- the counted whole lists are those that pass
pub counted_whole : (case : GoodsCase) (floor : Pair) (above : Option Pair) (xs : List (List ℕ)) → IsValidGoodsCase case → All (λ x. length x ≡ case.facts.goods) xs
    → filter (is_counted case floor above) xs ≡ filter (passes case floor above) xs
counted_whole case floor above xs valid long =
    filter_same (is_counted case floor above) (passes case floor above) xs
    (All-weaker (λ x. length x ≡ case.facts.goods) (λ x. is_counted case floor above x ≡ passes case floor above x)
    (λ x l. ap (λ (p : Pair). is_at_most floor p && is_above above p) (whole_pair case x valid l)) xs long)

-- over any list of allocations, the best of the counted follows the best of all
pub follows : (case : GoodsCase) (floor : Pair) (above : Option Pair) (xs : List (List ℕ)) (old all : Option (List ℕ)) → Serves case floor old all → Allows case above old
    → Serves case floor (fold (keep case) old (filter (passes case floor above) xs)) (fold (keep case) all xs) × Allows case above (fold (keep case) old (filter (passes case floor above) xs))
follows case floor above [] old all f al = (f, al)
follows case floor above (x ∷ xs) old all f al =
    go (passes case floor above x) refl (λ old' all' f' al'. follows case floor above xs old' all' f' al')
  where
    go : (t : Bool) → passes case floor above x ≡ t
        → ((old' all' : Option (List ℕ)) → Serves case floor old' all' → Allows case above old'
        → Serves case floor (fold (keep case) old' (filter (passes case floor above) xs)) (fold (keep case) all' xs) × Allows case above (fold (keep case) old' (filter (passes case floor above) xs)))
        → Serves case floor (fold (keep case) old (cond t (x ∷ filter (passes case floor above) xs) (filter (passes case floor above) xs))) (fold (keep case) (keep case all x) xs)
        × Allows case above (fold (keep case) old (cond t (x ∷ filter (passes case floor above) xs) (filter (passes case floor above) xs)))
    go true t rest = let both = sim_true case floor above x old all t f al in rest (keep case old x) (keep case all x) both.0 both.1
    go false t rest = rest old (keep case all x) (sim_false case floor above x old all t f al) al

-- the rule by the best so far counts what the rule by the best of all counts
pub same_counted : (case : GoodsCase) (floor : Pair) (old all : Option (List ℕ)) (owners : List ℕ) → Serves case floor old all
    → is_counted case floor (pair_kept case old) owners ≡ is_counted case floor (pair_kept case all) owners
same_counted case floor None None owners f = refl
same_counted case floor (Some b) None owners f = absurd f
same_counted case floor (Some b) (Some a) owners f = ap (λ (d : List ℕ). is_counted case floor (Some (pair_of case d)) owners) (sym f.0)
same_counted case floor None (Some a) owners f = go (is_at_most floor (prefix_bound case owners)) refl
  where
    go : (t : Bool) → is_at_most floor (prefix_bound case owners) ≡ t → (t && true) ≡ (t && is_less (pair_of case a) (prefix_bound case owners))
    go false h = refl
    go true h = sym (less-to (pair_of case a) (prefix_bound case owners) (less_through (pair_of case a) floor (prefix_bound case owners) f (at_most-from floor (prefix_bound case owners) h)))

-- two tests that are the same count the same
count_by_same : (p q : List ℕ → Bool) (xs : List (List ℕ)) → ((x : List ℕ) → p x ≡ q x) → count_by p xs ≡ count_by q xs
count_by_same p q [] h = refl
count_by_same p q (x ∷ xs) h =
    let one : count_by p (x ∷ xs) ≡ cond (p x) 1 0 + count_by p xs = sum_by-cons (λ y. cond (p y) 1 0) x xs in
    let two : count_by q (x ∷ xs) ≡ cond (q x) 1 0 + count_by q xs = sum_by-cons (λ y. cond (q y) 1 0) x xs in
    let three : count_by p xs ≡ count_by q xs = count_by_same p q xs h in
    let f : Bool → ℕ = λ b. cond b 1 0 in
    let four : f (p x) ≡ f (q x) = ap f (h x) in
    omega arith

-- by what serves for a best as many prefixes are counted as by the best
pub same_count : (case : GoodsCase) (floor : Pair) (old all : Option (List ℕ)) (k : ℕ) (owners : List ℕ) → Serves case floor old all
    → count case floor (pair_kept case old) k owners ≡ count case floor (pair_kept case all) k owners
unfolding count
same_count case floor old all k owners f = count_by_same (is_counted case floor (pair_kept case old)) (is_counted case floor (pair_kept case all)) (below (player_count case) k owners) (λ x. same_counted case floor old all x f)

-- no task has no steps
pub steps_before-none : (case : GoodsCase) (floor : Pair) → steps_before case floor 0 ≡ 0
unfolding steps_before
steps_before-none case floor = refl

-- one more task adds the prefixes that are counted by the best of the earlier blocks
pub steps_before-more : (case : GoodsCase) (floor : Pair) (task : ℕ) → steps_before case floor (task + 1) ≡ steps_before case floor task + count_task case task floor (earlier case (task / BLOCK_TASKS))
unfolding steps_before
steps_before-more case floor task =
    let f : ℕ → ℕ = λ t. count_task case t floor (earlier case (t / BLOCK_TASKS)) in
    let one : sum_by f (task ∷ []) ≡ f task + 0 = sum_by-cons f task [] in
    let two : sum_by f (range_with_len 0 task ++ task ∷ []) ≡ sum_by f (range_with_len 0 task) + sum_by f (task ∷ []) = sum_by-append f (range_with_len 0 task) (task ∷ []) in
    let e : 0 + task ≡ task = omega arith in
    ap (sum_by f) (range_more 0 task) ∙ ap (λ t. sum_by f (range_with_len 0 task ++ t ∷ [])) e ∙ two ∙ omega arith

-- a block's part of the step count
pub steps_block : (case : GoodsCase) (floor : Pair) (old : Option (List ℕ)) (block n : ℕ) → n ≤ BLOCK_TASKS → Serves case floor old (best_before case (BLOCK_TASKS * block))
    → steps_before case floor (BLOCK_TASKS * block + n) ≡ steps_before case floor (BLOCK_TASKS * block) + count_tasks case floor (pair_kept case old) (BLOCK_TASKS * block) n
steps_block case floor old block zero l f =
    let e : BLOCK_TASKS * block + zero ≡ BLOCK_TASKS * block = omega arith in
    let none : count_tasks case floor (pair_kept case old) (BLOCK_TASKS * block) 0 ≡ 0 = count_none case floor (pair_kept case old) (BLOCK_TASKS * block) in
    rw (e, none) (omega arith)
steps_block case floor old block (suc n) l f =
    let e : BLOCK_TASKS * block + suc n ≡ BLOCK_TASKS * block + n + 1 = omega arith in
    let s : suc n ≡ n + 1 = omega arith in
    let b : (BLOCK_TASKS * block + n) / BLOCK_TASKS ≡ block = omega arith in
    let rest = steps_block case floor old block n (omega arith) f in
    let more = steps_before-more case floor (BLOCK_TASKS * block + n) in
    let more' : steps_before case floor (BLOCK_TASKS * block + n + 1) ≡ steps_before case floor (BLOCK_TASKS * block + n) + count_task case (BLOCK_TASKS * block + n) floor (earlier case block) =
    subst (λ m. steps_before case floor (BLOCK_TASKS * block + n + 1) ≡ steps_before case floor (BLOCK_TASKS * block + n) + count_task case (BLOCK_TASKS * block + n) floor (earlier case m)) b more in
    let own = count_one_more case floor (pair_kept case old) (BLOCK_TASKS * block) n in
    let same = same_count case floor old (best_before case (BLOCK_TASKS * block)) (case.facts.goods - depth_of case) (task_list case (BLOCK_TASKS * block + n)) f in
    rw (e, s) (omega arith)

-- the rule by what is found allows what is found
allows_own : (case : GoodsCase) (old : Option (List ℕ)) → Allows case (pair_kept case old) old
allows_own case None = tt
allows_own case (Some b) = inr (refl, omega arith)

-- a block's part of the best
pub serves_block : (case : GoodsCase) (floor : Pair) (old : Option (List ℕ)) (from n : ℕ) → IsValidGoodsCase case → from + n ≤ tasks_of case → Serves case floor old (best_before case from)
    → Serves case floor (fold (keep case) old (counted_of_tasks case floor (pair_kept case old) from n)) (best_before case (from + n))
unfolding best_before counted_of_tasks
serves_block case floor old from n valid l f =
    let done = flat_map (task_leaves case) (range_with_len 0 from) in
    let now = flat_map (task_leaves case) (range_with_len from n) in
    let split : flat_map (task_leaves case) (range_with_len 0 (from + n)) ≡ done ++ now =
    (let e : 0 + from ≡ from = omega arith in ap (flat_map (task_leaves case)) (range_split 0 from n) ∙ flat_map-append (task_leaves case) (range_with_len 0 from) (range_with_len (0 + from) n)
    ∙ ap (λ a. done ++ flat_map (task_leaves case) (range_with_len a n)) e) in
    let all : fold (keep case) None (flat_map (task_leaves case) (range_with_len 0 (from + n))) ≡ fold (keep case) (fold (keep case) None done) now =
    ap (fold (keep case) None) split ∙ fold-append (keep case) None done now in
    let counted : filter (is_counted case floor (pair_kept case old)) now ≡ filter (passes case floor (pair_kept case old)) now =
    counted_whole case floor (pair_kept case old) now valid (task_leaves_long case from n l) in
    subst (λ xs. Serves case floor (fold (keep case) old xs) (fold (keep case) None (flat_map (task_leaves case) (range_with_len 0 (from + n))))) (sym counted)
    (subst (Serves case floor (fold (keep case) old (filter (passes case floor (pair_kept case old)) now))) (sym all)
    (follows case floor (pair_kept case old) now old (fold (keep case) None done) f (allows_own case old)).0)

-- the steps rise from task to task
pub steps-le : (case : GoodsCase) (floor : Pair) (t d : ℕ) → steps_before case floor t ≤ steps_before case floor (t + d)
steps-le case floor t zero = let e : t + zero ≡ t = omega arith in rw e (omega arith)
steps-le case floor t (suc d) =
    let e : t + suc d ≡ t + d + 1 = omega arith in
    let rest = steps-le case floor t d in
    let more = steps_before-more case floor (t + d) in
    rw e (omega arith)

-- no task has no best
pub best_before-none : (case : GoodsCase) → best_before case 0 ≡ None
unfolding best_before
best_before-none case = refl

-- of a rising list, what is kept in turn is the best
none_kept : (case : GoodsCase) (xs : List (List ℕ)) → Rising xs → fold (keep case) None xs ≡ None → xs ≡ []
none_kept case [] s h = refl
none_kept case (x ∷ xs) s h =
    let w = first_of case x xs s.0 s.1 in
    let e : fold (keep case) (Some x) xs ≡ Some w.0 = w.1.0 in
    let f : fold (keep case) (Some x) xs ≡ None = h in
    absurd (cc)

-- what is kept of a rising list is its best
pub kept_best : (case : GoodsCase) (xs : List (List ℕ)) → Rising xs → IsBestOf case xs (fold (keep case) None xs)
kept_best case xs rises = go (fold (keep case) None xs) refl
  where
    go : (best : Option (List ℕ)) → fold (keep case) None xs ≡ best → IsBestOf case xs best
    go None e = none_kept case xs rises e
    go (Some r) e = (best_is case (Contains xs) xs None r (λ j d l. Contains-get_or xs j d l) tt e, best_of_rising case xs r rises e)

-- two allocations that are no better than each other are the same
both_behind : (case : GoodsCase) (a b : List ℕ) → IsBehind case a b → IsBehind case b a → a ≡ b
both_behind case a b (inl l) (inl m) = absurd (less_not (pair_of case a) (pair_of case b) l (less_at_most (pair_of case b) (pair_of case a) m))
both_behind case a b (inl l) (inr e) = absurd (less_not (pair_of case a) (pair_of case b) l (subst (λ (p : Pair). IsAtMost p (pair_of case a)) (sym e.0) (at_most_itself (pair_of case a))))
both_behind case a b (inr e) (inl l) = absurd (less_not (pair_of case b) (pair_of case a) l (subst (λ (p : Pair). IsAtMost p (pair_of case b)) (sym e.0) (at_most_itself (pair_of case b))))
both_behind case a b (inr e) (inr f) = same_from_neither a b e.1 f.1

-- no list is in a list without entries
contains_none : (x : List ℕ) (xs : List (List ℕ)) → xs ≡ [] → Contains xs x → ⊥
contains_none x xs e h = let l = h.1 in let n : length xs ≡ 0 = ap length e in omega arith

-- so there is one best of some allocations
pub one_best : (case : GoodsCase) (xs : List (List ℕ)) (a b : Option (List ℕ)) → IsBestOf case xs a → IsBestOf case xs b → a ≡ b
one_best case xs None None h k = refl
one_best case xs None (Some b) h k = absurd (contains_none b xs h k.0)
one_best case xs (Some a) None h k = absurd (contains_none a xs k h.0)
one_best case xs (Some a) (Some b) h k =
    ap Some (both_behind case a b (All-contains (λ x. IsBehind case x b) xs a k.1 h.0) (All-contains (λ x. IsBehind case x a) xs b h.1 k.0))

-- the allocations of earlier tasks and of those after them rise together
parts_rise : (case : GoodsCase) (from n : ℕ) → from + n ≤ tasks_of case → Rising (flat_map (task_leaves case) (range_with_len 0 from) ++ flat_map (task_leaves case) (range_with_len from n))
parts_rise case from n l =
    let e : 0 + from ≡ from = omega arith in
    subst Rising (ap (flat_map (task_leaves case)) (range_split 0 from n) ∙ flat_map-append (task_leaves case) (range_with_len 0 from) (range_with_len (0 + from) n)
    ∙ ap (λ a. flat_map (task_leaves case) (range_with_len 0 from) ++ flat_map (task_leaves case) (range_with_len a n)) e) (tasks_rise case (from + n) l)

-- the counted allocations of tasks in a row rise
pub counted_rise : (case : GoodsCase) (floor : Pair) (above : Option Pair) (from n : ℕ) → from + n ≤ tasks_of case → Rising (counted_of_tasks case floor above from n)
unfolding counted_of_tasks
counted_rise case floor above from n l =
    rising_filter (is_counted case floor above) (flat_map (task_leaves case) (range_with_len from n))
    (rising_rest (flat_map (task_leaves case) (range_with_len 0 from)) (flat_map (task_leaves case) (range_with_len from n)) (parts_rise case from n l))

-- what was found is before them
found_first : (case : GoodsCase) (floor : Pair) (found : List ℕ) (from n : ℕ) → from + n ≤ tasks_of case → Serves case floor (Some found) (best_before case from)
    → All (λ y. slice_cmp nat_cmp found y ≡ Less) (counted_of_tasks case floor (Some (pair_of case found)) from n)
unfolding counted_of_tasks
found_first case floor found from n l serves = go (best_before case from) refl serves
  where
    go : (best : Option (List ℕ)) → best_before case from ≡ best → Serves case floor (Some found) best
        → All (λ y. slice_cmp nat_cmp found y ≡ Less) (filter (is_counted case floor (Some (pair_of case found))) (flat_map (task_leaves case) (range_with_len from n)))
    go None e f = absurd f
    go (Some best) e f =
        let done = flat_map (task_leaves case) (range_with_len 0 from) in
        let now = flat_map (task_leaves case) (range_with_len from n) in
        let after : All (λ y. slice_cmp nat_cmp best y ≡ Less) now = rising_across done now best (parts_rise case from n l) (best_before_found case from best e) in
        All_filter (λ y. slice_cmp nat_cmp found y ≡ Less) (is_counted case floor (Some (pair_of case found))) now
        (subst (λ (b : List ℕ). All (λ y. slice_cmp nat_cmp b y ≡ Less) now) f.0 after)

-- so the better of what was found and what is counted after it serves on
pub serves_next : (case : GoodsCase) (floor : Pair) (old next : Option (List ℕ)) (from n : ℕ) → IsValidGoodsCase case → from + n ≤ tasks_of case → Serves case floor old (best_before case from)
    → IsBestOf case (option_to_list old ++ counted_of_tasks case floor (pair_kept case old) from n) next → Serves case floor next (best_before case (from + n))
serves_next case floor None next from n valid l f is =
    let counted = counted_of_tasks case floor None from n in
    subst (λ (o : Option (List ℕ)). Serves case floor o (best_before case (from + n)))
    (one_best case counted (fold (keep case) None counted) next (kept_best case counted (counted_rise case floor None from n l)) is)
    (serves_block case floor None from n valid l f)
serves_next case floor (Some found) next from n valid l f is =
    let counted = counted_of_tasks case floor (Some (pair_of case found)) from n in
    subst (λ (o : Option (List ℕ)). Serves case floor o (best_before case (from + n)))
    (one_best case (found ∷ counted) (fold (keep case) None (found ∷ counted)) next
    (kept_best case (found ∷ counted) (found_first case floor found from n l f, counted_rise case floor (Some (pair_of case found)) from n l)) is)
    (serves_block case floor (Some found) from n valid l f)

-- before the first task nothing found serves
pub serves_none : (case : GoodsCase) (floor : Pair) → Serves case floor None (best_before case 0)
serves_none case floor = subst (Serves case floor None) (sym (best_before-none case)) tt

-- there is a best allocation, the best of all tasks
pub best_of_all : (case : GoodsCase) → IsValidGoodsCase case → (best : List ℕ) × (best_before case (tasks_of case) ≡ Some best) × GoodsBest case best
unfolding best_before
best_of_all case valid =
    let n = player_count case in
    let g = case.facts.goods in
    let some : 0 < n = (let a = valid.some in let b = valid.each in omega arith) in
    let long : 0 < length (lists n g) = (let a = length_lists n g in let b = power_less n g some in omega arith) in
    let found = some_best case (lists n g) (lists_rising n g) long in
    let all : best_before case (tasks_of case) ≡ Some found.0 = ap (fold (keep case) None) (all_leaves case (depth_short case)) ∙ found.1 in
    (found.0, all, goods_best case found.0 (depth_short case) all)

-- the best allocation's pair is at least the start value
floor_reached : (case : GoodsCase) (start best : List ℕ) (floor : Pair) → floor ≡ pair_of case start → IsBehind case start best → IsAtMost floor (pair_of case best)
floor_reached case start best floor e (inl l) = subst (λ (p : Pair). IsAtMost p (pair_of case best)) (sym e) (less_at_most (pair_of case start) (pair_of case best) l)
floor_reached case start best floor e (inr s) = subst (λ (p : Pair). IsAtMost p (pair_of case best)) (sym (e ∙ s.0)) (at_most_itself (pair_of case best))

-- which has at least the start value
pub start_reached : (case : GoodsCase) (floor : Pair) (best : List ℕ) → IsStartValue case floor → GoodsBest case best → IsAtMost floor (pair_of case best)
start_reached case floor best start is = floor_reached case start.0 best floor start.2 (is.best start.0 start.1.allocation)

-- so after all tasks what is found is the best allocation
pub serves_best : (case : GoodsCase) (floor : Pair) (found : Option (List ℕ)) → IsValidGoodsCase case → IsStartValue case floor → Serves case floor found (best_before case (tasks_of case))
    → (best : List ℕ) × (found ≡ Some best) × GoodsBest case best
serves_best case floor found valid start serves =
    let all = best_of_all case valid in
    go found all.0 (start_reached case floor all.0 start all.2) (subst (Serves case floor found) all.1 serves) all.2
  where
    go : (found : Option (List ℕ)) (best : List ℕ) → IsAtMost floor (pair_of case best) → Serves case floor found (Some best) → GoodsBest case best → (best : List ℕ) × (found ≡ Some best) × GoodsBest case best
    go None best reached below is = absurd (less_not (pair_of case best) floor below reached)
    go (Some found) best reached same is = (best, ap Some (sym same.0), is)

-- the best of a task's counted allocations, kept in turn, is the best of them
pub task_kept : (case : GoodsCase) (task : ℕ) (floor : Pair) (above : Option Pair)
    → IsBestOf case (counted_leaves case task floor above) (best case floor above (case.facts.goods - depth_of case) (task_list case task) None)
unfolding best
task_kept case task floor above =
    kept_best case (counted_leaves case task floor above)
    (rising_filter (is_counted case floor above) (task_leaves case task) (leaves_rising (player_count case) (case.facts.goods - depth_of case) (task_list case task)))
