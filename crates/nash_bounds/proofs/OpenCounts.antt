-- How many prefixes may not be left out, by the step count.
use Rattle.std.proofs.Common.{◌≡◌, ℕ, zero, suc, ◌+◌, ◌-◌, ◌*◌, ◌/◌, ◌^◌, ◌<◌, ◌≤◌, List, [], ◌∷◌, ◌++◌, length, map, flat_map, get_or, cond, not, nat_le, Bool, true, false, All, arith, refl, sym, ap, ◌∙◌, subst, append_assoc, append-nil}
use Rattle.std.specs.List.{prefix_len, range_with_len, sum_by, count_by}
use Rattle.std.proofs.Math.Nat.{mul-le-mul_left, pow-suc, pow-zero}
use Rattle.std.proofs.lemmas.Bool.Decides.{nat_tests}
use Rattle.std.proofs.lemmas.List.Elements.{All-head, All-tail, All-weaker}
use Rattle.std.proofs.lemmas.List.FromFn.{get_or-range_with_len, length-range_with_len}
use Rattle.std.proofs.lemmas.List.Sums.{prefix_len-le-length, prefix_len_passes, prefix_len_stops, sum_by-append, sum_by-cons}
use Rattle.bid_rules.specs.declared.goods.GoodsCase.{GoodsCase}
use Rattle.bid_rules.specs.declared.pair.Pair.{Pair}
use Rattle.bid_rules.specs.Goods.{GoodsBest, IsValidGoodsCase, player_count}
use Rattle.nash_bounds.specs.Counted.{is_counted, count, count_task}
use Rattle.nash_bounds.specs.LeftOut.{may_be_left, open_count}
use Rattle.nash_bounds.specs.OwnerLists.{lists, below, IsLonger}
use Rattle.nash_bounds.specs.Start.{IsStartValue}
use Rattle.nash_bounds.specs.Steps.{earlier, steps_before, step_count}
use Rattle.nash_bounds.specs.Tasks.{depth_of, task_list, tasks_of}
use Rattle.nash_bounds.proofs.OpenPrefixes.{open_counted}
use Rattle.nash_bounds.proofs.OwnerCounts.{length_lists}
use Rattle.nash_bounds.proofs.PrefixLists.{below_are}
use Rattle.nash_bounds.proofs.TaskLists.{depth_short}
use Rattle.nash_bounds.specs.declared.limits.TheConstants.{BLOCK_TASKS, FEWEST_LISTS, MOST_SHORTER}

-- what one test passes and another passes too is counted no more often by the first
count_le : (p q : List ℕ → Bool) (xs : List (List ℕ)) → All (λ x. p x ≡ true → q x ≡ true) xs → count_by p xs ≤ count_by q xs
count_le p q [] h = omega arith
count_le p q (x ∷ xs) h =
    let one : count_by p (x ∷ xs) ≡ cond (p x) 1 0 + count_by p xs = sum_by-cons (λ y. cond (p y) 1 0) x xs in
    let two : count_by q (x ∷ xs) ≡ cond (q x) 1 0 + count_by q xs = sum_by-cons (λ y. cond (q y) 1 0) x xs in
    let rest = count_le p q xs (All-tail (λ x. p x ≡ true → q x ≡ true) x xs h) in
    let first = here (p x) (q x) (All-head (λ x. p x ≡ true → q x ≡ true) x xs h) in
    omega (arith, one, two, rest, first)
  where
    here : (a b : Bool) → (a ≡ true → b ≡ true) → cond a 1 0 ≤ cond b 1 0
    here false b h = omega arith
    here true true h = omega arith
    here true false h = let e = h refl in cc

-- what is counted in blocks in a row is the sum of what is counted in each
count_blocks : (p : List ℕ → Bool) (f : ℕ → List (List ℕ)) (a c : ℕ) → count_by p (flat_map f (range_with_len a c)) ≡ sum_by (λ o. count_by p (f o)) (range_with_len a c)
count_blocks p f a zero = refl
count_blocks p f a (suc c) =
    let rest = count_blocks p f (a + 1) c in
    let both : count_by p (f a ++ flat_map f (range_with_len (a + 1) c)) ≡ count_by p (f a) + count_by p (flat_map f (range_with_len (a + 1) c)) = sum_by-append (λ x. cond (p x) 1 0) (f a) (flat_map f (range_with_len (a + 1) c)) in
    let sums : sum_by (λ o. count_by p (f o)) (a ∷ range_with_len (a + 1) c) ≡ count_by p (f a) + sum_by (λ o. count_by p (f o)) (range_with_len (a + 1) c) = sum_by-cons (λ o. count_by p (f o)) a (range_with_len (a + 1) c) in
    omega (arith, rest, both, sums)

-- a sum over a range of smaller terms is no greater
sum_range_le : (f g : ℕ → ℕ) (a c : ℕ) → ((k : ℕ) → a ≤ k → k < a + c → f k ≤ g k) → sum_by f (range_with_len a c) ≤ sum_by g (range_with_len a c)
sum_range_le f g a zero h = omega arith
sum_range_le f g a (suc c) h =
    let one = sum_by-cons f a (range_with_len (a + 1) c) in
    let two = sum_by-cons g a (range_with_len (a + 1) c) in
    let rest = sum_range_le f g (a + 1) c (λ k l m. h k (omega arith) (omega arith)) in
    let first = h a (omega arith) (omega arith) in
    omega (arith, one, two, rest, first)

-- how many lists there are that are shorter than d
abbrev pub shorter : ℕ → ℕ → ℕ
shorter n zero = 0
shorter n (suc d) = 1 + n * shorter n d

-- a sum over lists with one more owner in front
sum_map : (f : List ℕ → ℕ) (o : ℕ) (xs : List (List ℕ)) → sum_by f (map (λ os. o ∷ os) xs) ≡ sum_by (λ os. f (o ∷ os)) xs
sum_map f o [] = refl
sum_map f o (x ∷ xs) = sum_by-cons f (o ∷ x) (map (λ os. o ∷ os) xs) ∙ ap (λ s. f (o ∷ x) + s) (sum_map f o xs) ∙ sym (sum_by-cons (λ os. f (o ∷ os)) x xs)

-- sums of the same terms are the same
sum_same : (f g : List ℕ → ℕ) (xs : List (List ℕ)) → ((x : List ℕ) → f x ≡ g x) → sum_by f xs ≡ sum_by g xs
sum_same f g [] h = refl
sum_same f g (x ∷ xs) h = sum_by-cons f x xs ∙ ap (λ s. f x + s) (sum_same f g xs h) ∙ ap (λ v. v + sum_by g xs) (h x) ∙ sym (sum_by-cons g x xs)

-- a sum of blocks, each at most s and its lists' terms, is at most s for each and the sum over all lists
sum_blocks : (g : ℕ → ℕ) (f : List ℕ → ℕ) (s : ℕ) (xs : List (List ℕ)) (a c : ℕ) → ((o : ℕ) → g o ≤ s + sum_by (λ os. f (o ∷ os)) xs)
    → sum_by g (range_with_len a c) ≤ c * s + sum_by f (flat_map (λ o. map (λ os. o ∷ os) xs) (range_with_len a c))
sum_blocks g f s xs a zero h = omega arith
sum_blocks g f s xs a (suc c) h =
    let others = flat_map (λ (o : ℕ). map (λ os. o ∷ os) xs) (range_with_len (a + 1) c) in
    let rest = sum_blocks g f s xs (a + 1) c h in
    let first = h a in
    let left : sum_by g (a ∷ range_with_len (a + 1) c) ≡ g a + sum_by g (range_with_len (a + 1) c) = sum_by-cons g a (range_with_len (a + 1) c) in
    let right : sum_by f (map (λ os. a ∷ os) xs ++ others) ≡ sum_by f (map (λ os. a ∷ os) xs) + sum_by f others = sum_by-append f (map (λ os. a ∷ os) xs) others in
    let block = sum_map f a xs in
    let times : suc c * s ≡ s + c * s = omega arith in
    omega (arith, left, right, block, times, first, rest)

-- a sum over a list is that over its places
sum_places : (f : List ℕ → ℕ) (g : ℕ → ℕ) (xs : List (List ℕ)) (a : ℕ) → ((k : ℕ) → k < length xs → g (a + k) ≡ f (get_or xs k [])) → sum_by f xs ≡ sum_by g (range_with_len a (length xs))
sum_places f g [] a h = refl
sum_places f g (x ∷ xs) a h =
    let e : a + 0 ≡ a = omega arith in
    let first : g a ≡ f x = subst (λ n. g n ≡ f x) e (h 0 (omega arith)) in
    let rest : sum_by f xs ≡ sum_by g (range_with_len (a + 1) (length xs)) = sum_places f g xs (a + 1) (λ k l.
    let s : a + suc k ≡ a + 1 + k = omega arith in subst (λ n. g n ≡ f (get_or xs k [])) s (h (suc k) (omega arith))) in
    sum_by-cons f x xs ∙ ap (λ s. f x + s) rest ∙ ap (λ v. v + sum_by g (range_with_len (a + 1) (length xs))) (sym first) ∙ sym (sum_by-cons g a (range_with_len (a + 1) (length xs)))

-- of two or more players there are fewer than 2 * n ^ d lists of at most d owners
shorter_power : (n d : ℕ) → 2 ≤ n → shorter n (suc d) + 1 ≤ 2 * n ^ d
shorter_power n zero two = let e = pow-zero n in omega (arith, e)
shorter_power n (suc d) two =
    let s : ℕ = n * shorter n d in
    let before : 1 + s + 1 ≤ 2 * n ^ d = shorter_power n d two in
    let power : n ^ suc d ≡ n ^ d * n = pow-suc n d in
    let times : n * (1 + s + 1) ≤ n * (2 * n ^ d) = mul-le-mul_left n before in
    let left : n * (1 + s + 1) ≡ n + n * s + n = omega arith in
    let right : n * (2 * n ^ d) ≡ 2 * (n ^ d * n) = omega arith in
    let inner : n * (1 + s) ≡ n + n * s = omega arith in
    let goal : 1 + n * (1 + s) + 1 ≤ 2 * n ^ suc d = omega (arith, times, left, right, inner, power, two) in
    goal

-- one player has one list of each length
shorter_one : (d : ℕ) → shorter 1 d ≡ d
shorter_one zero = refl
shorter_one (suc d) = let e = shorter_one d in omega (arith, e)

-- the prefixes that pass are those above a length, which are few, and those at or below its lists
count_split : (p : List ℕ → Bool) (n d k : ℕ) (owners : List ℕ) → count_by p (below n (d + k) owners) ≤ shorter n d + sum_by (λ os. count_by p (below n k (owners ++ os))) (lists n d)
count_split p n zero k owners =
    let none : zero + k ≡ k = omega arith in
    let one : sum_by (λ os. count_by p (below n k (owners ++ os))) ([] ∷ []) ≡ count_by p (below n k (owners ++ [])) + 0 = sum_by-cons (λ os. count_by p (below n k (owners ++ os))) [] [] in
    let same : count_by p (below n k (owners ++ [])) ≡ count_by p (below n k owners) = ap (λ xs. count_by p (below n k xs)) (append-nil owners) in
    subst (λ j. count_by p (below n j owners) ≤ 0 + sum_by (λ os. count_by p (below n k (owners ++ os))) ([] ∷ [])) (sym none) (omega (arith, one, same))
count_split p n (suc d) k owners =
    let next : suc d + k ≡ suc (d + k) = omega arith in
    let f : List ℕ → ℕ = λ os. count_by p (below n k (owners ++ os)) in
    let longer : ℕ → List (List ℕ) = λ owner. below n (d + k) (owners ++ owner ∷ []) in
    let g : ℕ → ℕ = λ owner. count_by p (longer owner) in
    let each : (o : ℕ) → g o ≤ shorter n d + sum_by (λ os. f (o ∷ os)) (lists n d) = λ o.
    let own = count_split p n d k (owners ++ o ∷ []) in
    let same = sum_same (λ os. count_by p (below n k ((owners ++ o ∷ []) ++ os))) (λ os. f (o ∷ os)) (lists n d) (λ os. ap (λ xs. count_by p (below n k xs)) (append_assoc owners (o ∷ []) os)) in
    omega (arith, own, same) in
    let all = sum_blocks g f (shorter n d) (lists n d) 1 n each in
    let first : count_by p (owners ∷ flat_map longer (range_with_len 1 n)) ≡ cond (p owners) 1 0 + count_by p (flat_map longer (range_with_len 1 n)) = sum_by-cons (λ x. cond (p x) 1 0) owners (flat_map longer (range_with_len 1 n)) in
    let blocks = count_blocks p longer 1 n in
    let most : cond (p owners) 1 0 ≤ 1 = at_most_one (p owners) in
    subst (λ j. count_by p (below n j owners) ≤ shorter n (suc d) + sum_by f (lists n (suc d))) (sym next) (omega (arith, all, first, blocks, most))
  where
    at_most_one : (b : Bool) → cond b 1 0 ≤ 1
    at_most_one true = omega arith
    at_most_one false = omega arith

-- a length below the tasks' has fewer than FEWEST_LISTS lists
pub few_shorter : (case : GoodsCase) (e : ℕ) → e < depth_of case → player_count case ^ e < FEWEST_LISTS
unfolding depth_of
few_shorter case e l =
    let g = case.facts.goods in
    let p : ℕ → Bool = λ depth. not (nat_le FEWEST_LISTS (player_count case ^ depth)) in
    let long : length (range_with_len 0 g) ≡ g = length-range_with_len 0 g in
    let most : prefix_len p (range_with_len 0 g) ≤ length (range_with_len 0 g) = prefix_len-le-length p (range_with_len 0 g) in
    let at : get_or (range_with_len 0 g) e 0 ≡ e = get_or-range_with_len 0 g e 0 (omega arith) ∙ omega arith in
    let test : p e ≡ true = sym (ap p at) ∙ prefix_len_passes p (range_with_len 0 g) e 0 l in
    under (player_count case ^ e) test
  where
    under : (x : ℕ) → not (nat_le FEWEST_LISTS x) ≡ true → x < FEWEST_LISTS
    under x h = grind (arith, nat_tests)

-- and that of the tasks has so many or more, unless it is that of all goods
pub enough_lists : (case : GoodsCase) → depth_of case < case.facts.goods → FEWEST_LISTS ≤ player_count case ^ depth_of case
unfolding depth_of
enough_lists case l =
    let g = case.facts.goods in
    let p : ℕ → Bool = λ depth. not (nat_le FEWEST_LISTS (player_count case ^ depth)) in
    let long : length (range_with_len 0 g) ≡ g = length-range_with_len 0 g in
    let d : ℕ = prefix_len p (range_with_len 0 g) in
    let at : get_or (range_with_len 0 g) d 0 ≡ d = get_or-range_with_len 0 g d 0 (omega arith) ∙ omega arith in
    let test : p d ≡ false = sym (ap p at) ∙ prefix_len_stops p (range_with_len 0 g) 0 (omega arith) in
    over (player_count case ^ d) test
  where
    over : (x : ℕ) → not (nat_le FEWEST_LISTS x) ≡ false → FEWEST_LISTS ≤ x
    over x h = grind (arith, nat_tests)

-- the open prefixes of a task are counted
open_task : (case : GoodsCase) (floor : Pair) (answer : List ℕ) (task : ℕ) → IsStartValue case floor → GoodsBest case answer → task < tasks_of case
    → count_by (λ owners. not (may_be_left case answer owners)) (below (player_count case) (case.facts.goods - depth_of case) (task_list case task)) ≤ count_task case task floor (earlier case (task / BLOCK_TASKS))
unfolding count
open_task case floor answer task start best within =
    let n = player_count case in
    let k = case.facts.goods - depth_of case in
    let L : List ℕ → Type 0 = IsLonger n k (task_list case task) in
    count_le (λ owners. not (may_be_left case answer owners)) (is_counted case floor (earlier case (task / BLOCK_TASKS))) (below n k (task_list case task))
    (All-weaker L (λ x. not (may_be_left case answer x) ≡ true → is_counted case floor (earlier case (task / BLOCK_TASKS)) x ≡ true)
    (λ x h e. subst (λ xs. is_counted case floor (earlier case (task / BLOCK_TASKS)) xs ≡ true) (sym h.1)
    (open_counted case floor answer h.0 task start best within (subst (λ xs. may_be_left case answer xs ≡ false) h.1 (negated (may_be_left case answer x) e))))
    (below n k (task_list case task)) (below_are n k (task_list case task)))
  where
    negated : (b : Bool) → not b ≡ true → b ≡ false
    negated false e = refl
    negated true e = cc

-- those that may not be left out among the tasks' prefixes are at most the step count
open_tasks : (case : GoodsCase) (floor : Pair) (answer : List ℕ) → IsStartValue case floor → GoodsBest case answer
    → sum_by (λ task. count_by (λ owners. not (may_be_left case answer owners)) (below (player_count case) (case.facts.goods - depth_of case) (task_list case task))) (range_with_len 0 (tasks_of case)) ≤ step_count case floor
unfolding steps_before
open_tasks case floor answer start best =
    sum_range_le (λ task. count_by (λ owners. not (may_be_left case answer owners)) (below (player_count case) (case.facts.goods - depth_of case) (task_list case task)))
    (λ task. count_task case task floor (earlier case (task / BLOCK_TASKS))) 0 (tasks_of case) (λ t l m. open_task case floor answer t start best (omega arith))

-- there are at most MOST_SHORTER lists shorter than a task's
pub shorter_few : (case : GoodsCase) → IsValidGoodsCase case → shorter (player_count case) (depth_of case) ≤ MOST_SHORTER
shorter_few case valid = by_players (player_count case) refl
  where
    some : 1 ≤ player_count case
    some = omega (arith, valid.some, valid.each)

    by_depth : (d : ℕ) → d ≡ depth_of case → 2 ≤ player_count case → shorter (player_count case) d ≤ MOST_SHORTER
    by_depth zero e two = omega arith
    by_depth (suc d) e two =
        let power = shorter_power (player_count case) d two in
        let few = few_shorter case d (omega (arith, e)) in
        omega (arith, power, few)

    by_players : (n : ℕ) → n ≡ player_count case → shorter (player_count case) (depth_of case) ≤ MOST_SHORTER
    by_players zero e = absurd (omega (arith, e, some))
    by_players (suc zero) e =
        let one = shorter_one (depth_of case) in
        let short = depth_short case in
        let most = valid.facts.counts.3 in
        subst (λ n. shorter n (depth_of case) ≤ MOST_SHORTER) e (omega (arith, one, short, most))
    by_players (suc (suc n)) e = by_depth (depth_of case) refl (omega (arith, e))

-- the step law: the open prefixes are at most the steps, and those that are shorter than any task's list
pub open_few : (case : GoodsCase) (floor : Pair) (answer : List ℕ) → IsValidGoodsCase case → IsStartValue case floor → GoodsBest case answer → open_count case answer ≤ step_count case floor + MOST_SHORTER
open_few case floor answer valid start best =
    let n = player_count case in
    let d = depth_of case in
    let k = case.facts.goods - d in
    let short = depth_short case in
    let whole : d + k ≡ case.facts.goods = omega (arith, short) in
    let p : List ℕ → Bool = λ owners. not (may_be_left case answer owners) in
    let all : length (lists n d) ≡ tasks_of case = length_lists n d in
    let f : List ℕ → ℕ = λ os. count_by p (below n k ([] ++ os)) in
    let g : ℕ → ℕ = λ task. count_by p (below n k (task_list case task)) in
    let split : count_by p (below n (d + k) []) ≤ shorter n d + sum_by f (lists n d) = count_split p n d k [] in
    let places : sum_by f (lists n d) ≡ sum_by g (range_with_len 0 (length (lists n d))) = sum_places f g (lists n d) 0 (λ j l. let e : 0 + j ≡ j = omega arith in ap g e) in
    let tasks : sum_by g (range_with_len 0 (length (lists n d))) ≡ sum_by g (range_with_len 0 (tasks_of case)) = ap (λ m. sum_by g (range_with_len 0 m)) all in
    let few = open_tasks case floor answer start best in
    let above = shorter_few case valid in
    subst (λ j. count_by p (below n j []) ≤ step_count case floor + MOST_SHORTER) whole (omega (arith, split, places, tasks, few, above))
