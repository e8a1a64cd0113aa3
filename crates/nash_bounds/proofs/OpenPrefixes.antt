-- Prefixes that may not be left out are counted.
use Rattle.std.proofs.Common.{◌≡◌, ℕ, ◌-◌, ◌*◌, ◌/◌, ◌<◌, ◌≤◌, List, [], ◌++◌, length, take, flat_map, get_or, All, Ordering, Option, Some, None, Bool, not, true, false, ◌&&◌, ◌||◌, ◌↔◌, ◌⊎◌, inl, inr, ⊎_elim, arith, refl, sym, ap, ◌∙◌, subst}
use Rattle.std.specs.List.{range_with_len}
use Rattle.std.specs.Cmp.Lexicographic.{slice_cmp}
use Rattle.std.specs.Ordering.{nat_cmp}
use Rattle.std.specs.declared.cmp.Ordering.TheVariants.{Less, Equal, Greater}
use Rattle.std.proofs.lemmas.Bool.Decides.{nat_tests}
use Rattle.std.proofs.lemmas.List.{length-append}
use Rattle.std.proofs.lemmas.List.Elements.{All-append, All-map}
use Rattle.bid_rules.specs.declared.goods.GoodsCase.{GoodsCase}
use Rattle.bid_rules.specs.declared.pair.Pair.{Pair}
use Rattle.bid_rules.specs.Goods.{GoodsBest, IsAllocation, pair_of, player_count}
use Rattle.bid_rules.specs.Pairs.{IsAtMost, IsLess, is_above, is_at_most, is_less}
use Rattle.nash_bounds.specs.Counted.{is_counted}
use Rattle.nash_bounds.specs.Goals.{is_reached}
use Rattle.nash_bounds.specs.OwnerLists.{lists}
use Rattle.nash_bounds.specs.Prefixes.{prefix_bound}
use Rattle.nash_bounds.specs.Start.{IsStartValue}
use Rattle.nash_bounds.specs.Steps.{best_before, earlier, pair_kept}
use Rattle.nash_bounds.specs.Tasks.{depth_of, task_leaves, task_list, tasks_of}
use Rattle.nash_bounds.proofs.TaskLists.{depth_short, leaves_are}
use Rattle.nash_bounds.proofs.EarlierBlocks.{best_before_found}
use Rattle.nash_bounds.proofs.OwnerCounts.{length_lists}
use Rattle.nash_bounds.proofs.OwnerLists.{blocks_all, lists_are, lists_rising}
use Rattle.split_lemmas.proofs.PairOrder.{same_pair, at_most-to, less-from, less-to}
use Rattle.nash_bounds.specs.LeftOut.{is_after, is_greater, is_same, may_be_left}
use Rattle.nash_bounds.proofs.ListFronts.{after_longer, before_front, before_through, rising_places}
use Rattle.nash_bounds.specs.declared.limits.TheConstants.{BLOCK_TASKS}

-- a prefix that may not be left out has at least the answer's pair, and where it has no more, it is not after the answer's first owners
pub record IsOpenPrefix (case : GoodsCase) (answer owners : List ℕ) : Type 0 where
  pub at_least : IsAtMost (pair_of case answer) (prefix_bound case owners)
  pub front : IsLess (pair_of case answer) (prefix_bound case owners) ⊎ (slice_cmp nat_cmp owners (take (length owners) answer) ≡ Greater → ⊥)

-- what is not left out has a bound of at least the answer's pair, and a greater one where its owners are after the answer's
open_cases : (a b : Pair) (after : Bool) → (is_less b a || (is_same b a && after)) ≡ false → IsAtMost a b × (IsLess a b ⊎ (after ≡ false))
open_cases a b true h =
    let e : (is_less b a || (is_same b a && true)) ≡ false = h in
    let less : IsLess a b = first a b (or_no (is_less b a) (is_same b a) h) in
    (weaker a b less, inl less)
  where
    or_no : (x y : Bool) → (x || (y && true)) ≡ false → (x ≡ false) × (y ≡ false)
    or_no true y h = absurd (cc)
    or_no false true h = absurd (cc)
    or_no false false h = (refl, refl)

    first : (a b : Pair) → (is_less b a ≡ false) × (is_same b a ≡ false) → IsLess a b
    first a b h = let f = h.0 in let g = h.1 in grind (arith, nat_tests)

    weaker : (a b : Pair) → IsLess a b → IsAtMost a b
    weaker a b h = grind arith
open_cases a b false h = (at_most a b (or_no (is_less b a) (is_same b a) h), inr refl)
  where
    or_no : (x y : Bool) → (x || (y && false)) ≡ false → x ≡ false
    or_no true y h = absurd (cc)
    or_no false y h = refl

    at_most : (a b : Pair) → is_less b a ≡ false → IsAtMost a b
    at_most a b h = grind (arith, nat_tests)

-- where the test says that an order is not greater, it is not
not_greater : (o : Ordering) → is_greater o ≡ false → o ≡ Greater → ⊥
not_greater o h e = let f : is_greater o ≡ true = ap is_greater e in let g : true ≡ false = sym f ∙ h in cc

-- a prefix that may not be left out is open
pub is_open : (case : GoodsCase) (answer owners : List ℕ) → may_be_left case answer owners ≡ false → IsOpenPrefix case answer owners
unfolding may_be_left
is_open case answer owners h =
    let both = open_cases (pair_of case answer) (prefix_bound case owners) (is_after answer owners) h in
    record {
      at_least = both.0;
      front = ⊎_elim (λ l. inl l) (λ (e : is_after answer owners ≡ false). inr (not_greater (slice_cmp nat_cmp owners (take (length owners) answer)) e)) both.1;
    }

-- an allocation of an earlier task
abbrev pub IsEarlier : GoodsCase → ℕ → List ℕ → Type 0
IsEarlier case task owners = (other : ℕ) × (other < task) × (rest : List ℕ) × (owners ≡ task_list case other ++ rest) × IsAllocation case owners

-- the allocations of the first few tasks are earlier
earlier_all : (case : GoodsCase) (task : ℕ) → task ≤ tasks_of case → All (IsEarlier case task) (flat_map (task_leaves case) (range_with_len 0 task))
earlier_all case task within = blocks_all (IsEarlier case task) (task_leaves case) 0 task (λ t low high.
    let n = player_count case in
    let k = case.facts.goods - depth_of case in
    let all : length (lists n (depth_of case)) ≡ tasks_of case = length_lists n (depth_of case) in
    let front = lists_are n (depth_of case) t [] (omega arith) in
    subst (All (IsEarlier case task)) (sym (leaves_are n k (task_list case t)))
    (All-map (IsEarlier case task) (λ os. task_list case t ++ os) (lists n k) (λ j d l.
    let back = lists_are n k j d l in
    let short = depth_short case in (
      t,
      omega arith,
      get_or (lists n k) j d,
      refl,
      record {
        each = length-append (task_list case t) (get_or (lists n k) j d) ∙ omega (arith, front.0, back.0, short);
        owned = All-append (λ o. (1 ≤ o) × (o ≤ n)) (task_list case t) (get_or (lists n k) j d) front.1 back.1;
      },
    ))))

-- so is their best
pub found_earlier : (case : GoodsCase) (task : ℕ) (owners : List ℕ) → task ≤ tasks_of case → best_before case task ≡ Some owners → IsEarlier case task owners
found_earlier case task owners l h =
    let found = best_before_found case task owners h in
    subst (IsEarlier case task) found.2 (earlier_all case task l found.0 owners found.1)

-- an allocation of a task before that of an open prefix has a smaller pair
pub earlier_less : (case : GoodsCase) (answer owners more : List ℕ) (task : ℕ) (early : List ℕ) → GoodsBest case answer → task < tasks_of case → IsOpenPrefix case answer (task_list case task ++ more)
    → IsEarlier case task early → IsLess (pair_of case early) (prefix_bound case (task_list case task ++ more))
earlier_less case answer owners more task early best within node (other, l, rest, is, allocation) = ⊎_elim
    (λ (less : IsLess (pair_of case early) (pair_of case answer)). through (pair_of case early) (pair_of case answer) (prefix_bound case (task_list case task ++ more)) less node.at_least)
    (λ (same : (pair_of case early ≡ pair_of case answer) × (slice_cmp nat_cmp early answer ≡ Less → ⊥)). ⊎_elim
    (λ (above : IsLess (pair_of case answer) (prefix_bound case (task_list case task ++ more))). subst (λ (p : Pair). IsLess p (prefix_bound case (task_list case task ++ more))) (sym same.0) above)
    (λ (not : slice_cmp nat_cmp (task_list case task ++ more) (take (length (task_list case task ++ more)) answer) ≡ Greater → ⊥). absurd (same.1 (before not)))
    node.front)
    (best.best early allocation)
  where
    through : (a b d : Pair) → IsLess a b → IsAtMost b d → IsLess a d
    through a b d h k = grind arith

    all : length (lists (player_count case) (depth_of case)) ≡ tasks_of case
    all = length_lists (player_count case) (depth_of case)

    long : (t : ℕ) → t < tasks_of case → length (task_list case t) ≡ depth_of case
    long t l = let e = all in (lists_are (player_count case) (depth_of case) t [] (omega arith)).0

    before : (slice_cmp nat_cmp (task_list case task ++ more) (take (length (task_list case task ++ more)) answer) ≡ Greater → ⊥) → slice_cmp nat_cmp early answer ≡ Less
    before not =
        let e = all in
        let rises : slice_cmp nat_cmp (task_list case other) (task_list case task) ≡ Less = rising_places (lists (player_count case) (depth_of case)) other task (lists_rising (player_count case) (depth_of case)) l (omega arith) in
        let front : slice_cmp nat_cmp (task_list case other) (take (length (task_list case task)) answer) ≡ Less =
        before_through (task_list case other) (task_list case task) (take (length (task_list case task)) answer) rises (λ g. not (after_longer (task_list case task) more answer g)) in
        let same_length : length (task_list case task) ≡ length (task_list case other) = long task within ∙ sym (long other (omega arith)) in
        let own = subst (λ k. slice_cmp nat_cmp (task_list case other) (take k answer) ≡ Less) same_length front in
        subst (λ (x : List ℕ). slice_cmp nat_cmp x answer ≡ Less) (sym is) (before_front (task_list case other) rest answer own)

-- so an open prefix of a task is counted
pub open_counted : (case : GoodsCase) (floor : Pair) (answer more : List ℕ) (task : ℕ) → IsStartValue case floor → GoodsBest case answer → task < tasks_of case
    → may_be_left case answer (task_list case task ++ more) ≡ false → is_counted case floor (earlier case (task / BLOCK_TASKS)) (task_list case task ++ more) ≡ true
open_counted case floor answer more task start best within e =
    let owners : List ℕ = task_list case task ++ more in
    let node = is_open case answer owners e in
    let reached : IsAtMost floor (pair_of case answer) = start_below (best.best start.0 start.1.allocation) in
    both (is_at_most floor (prefix_bound case owners)) (is_above (earlier case (task / BLOCK_TASKS)) (prefix_bound case owners))
    (at_most-to floor (prefix_bound case owners) (at_most_through floor (pair_of case answer) (prefix_bound case owners) reached node.at_least))
    (above node (best_before case (BLOCK_TASKS * (task / BLOCK_TASKS))) refl)
  where
    start_below : IsLess (pair_of case start.0) (pair_of case answer) ⊎ ((pair_of case start.0 ≡ pair_of case answer) × (slice_cmp nat_cmp start.0 answer ≡ Less → ⊥)) → IsAtMost floor (pair_of case answer)
    start_below h = ⊎_elim
        (λ (l : IsLess (pair_of case start.0) (pair_of case answer)). subst (λ (p : Pair). IsAtMost p (pair_of case answer)) (sym start.2) (weaker (pair_of case start.0) (pair_of case answer) l))
        (λ (s : (pair_of case start.0 ≡ pair_of case answer) × (slice_cmp nat_cmp start.0 answer ≡ Less → ⊥)). subst (λ (p : Pair). IsAtMost p (pair_of case answer)) (sym (start.2 ∙ s.0)) (itself (pair_of case answer)))
        h
      where
        weaker : (a b : Pair) → IsLess a b → IsAtMost a b
        weaker a b h = grind arith

        itself : (a : Pair) → IsAtMost a a
        itself a = grind arith

    at_most_through : (a b d : Pair) → IsAtMost a b → IsAtMost b d → IsAtMost a d
    at_most_through a b d h k = grind arith

    both : (a b : Bool) → a ≡ true → b ≡ true → (a && b) ≡ true
    both a b p q = rw (p, q) refl

    above : IsOpenPrefix case answer (task_list case task ++ more) → (found : Option (List ℕ)) → best_before case (BLOCK_TASKS * (task / BLOCK_TASKS)) ≡ found
        → is_above (pair_kept case (best_before case (BLOCK_TASKS * (task / BLOCK_TASKS)))) (prefix_bound case (task_list case task ++ more)) ≡ true
    above node None h = ap (λ (b : Option (List ℕ)). is_above (pair_kept case b) (prefix_bound case (task_list case task ++ more))) h
    above node (Some early) h =
        let block : BLOCK_TASKS * (task / BLOCK_TASKS) ≤ task = omega arith in
        let is = found_earlier case (BLOCK_TASKS * (task / BLOCK_TASKS)) early (omega arith) h in
        let less = earlier_less case answer early more task early best within node (is.0, omega (arith, is.1, block), is.2, is.3, is.4) in
        ap (λ (b : Option (List ℕ)). is_above (pair_kept case b) (prefix_bound case (task_list case task ++ more))) h ∙ less-to (pair_of case early) (prefix_bound case (task_list case task ++ more)) less

-- a prefix may be left out where its bound is below the answer's pair, or the same and it is after the answer's first owners
pub left_is : (case : GoodsCase) (answer owners : List ℕ) → may_be_left case answer owners ≡ true
    ↔ IsLess (prefix_bound case owners) (pair_of case answer) ⊎ ((prefix_bound case owners ≡ pair_of case answer) × (slice_cmp nat_cmp owners (take (length owners) answer) ≡ Greater))
unfolding may_be_left
left_is case answer owners =
    let b = prefix_bound case owners in
    let a = pair_of case answer in
    let o : Ordering = slice_cmp nat_cmp owners (take (length owners) answer) in (
      λ h. tells b a (is_less b a) refl (is_same b a) refl o h,
      λ is. ⊎_elim
          (λ (l : IsLess b a). ap (λ t. t || (is_same b a && is_greater o)) (less-to b a l))
          (λ (s : (b ≡ a) × (o ≡ Greater)). after b a (is_less b a) o s.0 s.1)
          is,
    )
  where
    equal : (x y : Pair) → is_same x y ≡ true → x ≡ y
    equal x y h = same_pair x y (grind (arith, nat_tests)) (grind (arith, nat_tests))

    itself : (x : Pair) → is_same x x ≡ true
    itself x = grind (arith, nat_tests)

    tells : (x y : Pair) (less : Bool) → is_less x y ≡ less → (same : Bool) → is_same x y ≡ same → (o : Ordering) → (less || (same && is_greater o)) ≡ true → IsLess x y ⊎ ((x ≡ y) × (o ≡ Greater))
    tells x y true e same f o h = inl (less-from x y e)
    tells x y false e true f Greater h = inr (equal x y f, refl)
    tells x y false e true f Less h = cc
    tells x y false e true f Equal h = cc
    tells x y false e false f o h = cc

    after : (x y : Pair) (less : Bool) (o : Ordering) → x ≡ y → o ≡ Greater → (less || (is_same x y && is_greater o)) ≡ true
    after x y true o e g = refl
    after x y false o e g = ap (λ (z : Pair). is_same z y && is_greater o) e ∙ ap (λ t. t && is_greater o) (itself y) ∙ ap is_greater g

-- a prefix may be left out where its bound does not reach the answer's pair, beyond it where the owners are after the answer's first ones
pub left_reached : (case : GoodsCase) (answer owners : List ℕ) → may_be_left case answer owners ≡ not (is_reached (pair_of case answer) (is_after answer owners) (prefix_bound case owners))
unfolding may_be_left
left_reached case answer owners = by_after (prefix_bound case owners) (pair_of case answer) (is_after answer owners)
  where
    by_after : (b a : Pair) (after : Bool) → (is_less b a || (is_same b a && after)) ≡ not (is_reached a after b)
    by_after b a true = grind (arith, nat_tests)
    by_after b a false = grind (arith, nat_tests)
