-- The allocations of all tasks are all allocations.
use Rattle.std.proofs.Common.{◌≡◌, ℕ, suc, zero, ◌+◌, ◌-◌, ◌^◌, ◌<◌, ◌≤◌, List, [], ◌∷◌, ◌++◌, length, get_or, map, flat_map, append-nil, append_assoc, arith, refl, sym, ap, ◌∙◌, subst, All, nat_le, not}
use Rattle.std.proofs.lemmas.List.Sums.{prefix_len-le-length}
use Rattle.std.specs.List.{range_with_len}
use Rattle.std.proofs.lemmas.List.{map-append, length-append}
use Rattle.std.proofs.lemmas.List.Elements.{All-map, All-weaker}
use Rattle.nash_bounds.proofs.OwnerLists.{blocks_all, lists_are}
use Rattle.std.proofs.lemmas.List.Concat.{flat_map-append}
use Rattle.std.proofs.lemmas.List.FromFn.{length-range_with_len}
use Rattle.bid_rules.specs.declared.goods.GoodsCase.{GoodsCase}
use Rattle.bid_rules.specs.Goods.{player_count}
use Rattle.nash_bounds.specs.OwnerLists.{lists, leaves}
use Rattle.nash_bounds.specs.Tasks.{depth_of, tasks_of, task_list, task_leaves}
use Rattle.nash_bounds.proofs.OwnerCounts.{length_lists}
use Rattle.nash_bounds.specs.declared.limits.TheConstants.{FEWEST_LISTS}

-- owners put in front together or one after another are the same
joined : (owners : List ℕ) (o : ℕ) (xs : List (List ℕ)) → map (λ os. (owners ++ o ∷ []) ++ os) xs ≡ map (λ os. owners ++ os) (map (λ os. o ∷ os) xs)
joined owners o [] = refl
joined owners o (x ∷ xs) =
    let e : (owners ++ o ∷ []) ++ x ≡ owners ++ o ∷ x = append_assoc owners (o ∷ []) x in
    let rest = joined owners o xs in
    ap (λ y. y ∷ map (λ os. (owners ++ o ∷ []) ++ os) xs) e ∙ ap (λ ys. (owners ++ o ∷ x) ∷ ys) rest

-- the lists that go on with k more are these owners in front of all lists of k
pub leaves_are : (n k : ℕ) (owners : List ℕ) → leaves n k owners ≡ map (λ os. owners ++ os) (lists n k)
leaves_are n zero owners = ap (λ x. x ∷ []) (sym (append-nil owners))
leaves_are n (suc k) owners = each (range_with_len 1 n) (λ o. leaves_are n k (owners ++ o ∷ []))
  where
    each : (rs : List ℕ) → ((o : ℕ) → leaves n k (owners ++ o ∷ []) ≡ map (λ os. (owners ++ o ∷ []) ++ os) (lists n k))
        → flat_map (λ owner. leaves n k (owners ++ owner ∷ [])) rs ≡ map (λ os. owners ++ os) (flat_map (λ owner. map (λ os. owner ∷ os) (lists n k)) rs)
    each [] h = refl
    each (r ∷ rs) h =
        let rest = each rs h in
        let one : leaves n k (owners ++ r ∷ []) ≡ map (λ os. owners ++ os) (map (λ os. r ∷ os) (lists n k)) = h r ∙ joined owners r (lists n k) in
        ap (λ ys. ys ++ flat_map (λ owner. leaves n k (owners ++ owner ∷ [])) rs) one
        ∙ ap (λ ys. map (λ os. owners ++ os) (map (λ os. r ∷ os) (lists n k)) ++ ys) rest
        ∙ sym (map-append (λ os. owners ++ os) (map (λ os. r ∷ os) (lists n k)) (flat_map (λ owner. map (λ os. owner ∷ os) (lists n k)) rs))

-- nothing in front changes no list
map_nothing : (xs : List (List ℕ)) → map (λ os. [] ++ os) xs ≡ xs
map_nothing [] = refl
map_nothing (x ∷ xs) = ap (λ ys. x ∷ ys) (map_nothing xs)

-- one more owner in front of all heads is in front of all lists
under_head : (n k o : ℕ) (xs : List (List ℕ)) → flat_map (λ os. map (λ ps. os ++ ps) (lists n k)) (map (λ os. o ∷ os) xs) ≡ map (λ os. o ∷ os) (flat_map (λ os. map (λ ps. os ++ ps) (lists n k)) xs)
under_head n k o [] = refl
under_head n k o (x ∷ xs) =
    ap (λ ys. map (λ ps. (o ∷ x) ++ ps) (lists n k) ++ ys) (under_head n k o xs)
    ∙ ap (λ ys. ys ++ map (λ os. o ∷ os) (flat_map (λ os. map (λ ps. os ++ ps) (lists n k)) xs)) (twice (lists n k))
    ∙ sym (map-append (λ os. o ∷ os) (map (λ ps. x ++ ps) (lists n k)) (flat_map (λ os. map (λ ps. os ++ ps) (lists n k)) xs))
  where
    twice : (ys : List (List ℕ)) → map (λ ps. (o ∷ x) ++ ps) ys ≡ map (λ os. o ∷ os) (map (λ ps. x ++ ps) ys)
    twice [] = refl
    twice (y ∷ ys) = ap (λ zs. (o ∷ (x ++ y)) ∷ zs) (twice ys)

-- the lists of a length, by their first few owners
pub lists_split : (n d k : ℕ) → lists n (d + k) ≡ flat_map (λ os. map (λ ps. os ++ ps) (lists n k)) (lists n d)
lists_split n zero k =
    let e : zero + k ≡ k = omega arith in
    rw e (sym (map_nothing (lists n k)) ∙ sym (append-nil (map (λ os. [] ++ os) (lists n k))))
lists_split n (suc d) k = let e : suc d + k ≡ suc (d + k) = omega arith in rw e (each (range_with_len 1 n) (lists_split n d k))
  where
    each : (rs : List ℕ) → lists n (d + k) ≡ flat_map (λ os. map (λ ps. os ++ ps) (lists n k)) (lists n d)
        → flat_map (λ owner. map (λ os. owner ∷ os) (lists n (d + k))) rs ≡ flat_map (λ os. map (λ ps. os ++ ps) (lists n k)) (flat_map (λ owner. map (λ os. owner ∷ os) (lists n d)) rs)
    each [] h = refl
    each (r ∷ rs) h =
        let F : List ℕ → List (List ℕ) = λ os. map (λ ps. os ++ ps) (lists n k) in
        let one : map (λ os. r ∷ os) (lists n (d + k)) ≡ flat_map F (map (λ os. r ∷ os) (lists n d)) = ap (map (λ os. r ∷ os)) h ∙ sym (under_head n k r (lists n d)) in
        ap (λ ys. ys ++ flat_map (λ owner. map (λ os. owner ∷ os) (lists n (d + k))) rs) one
        ∙ ap (λ ys. flat_map F (map (λ os. r ∷ os) (lists n d)) ++ ys) (each rs h)
        ∙ sym (flat_map-append F (map (λ os. r ∷ os) (lists n d)) (flat_map (λ owner. map (λ os. owner ∷ os) (lists n d)) rs))

-- blocks by entry are those by place
by_place : (g : ℕ → List (List ℕ)) (f : List ℕ → List (List ℕ)) (xs : List (List ℕ)) (a : ℕ) → ((k : ℕ) → k < length xs → g (a + k) ≡ f (get_or xs k [])) → flat_map g (range_with_len a (length xs)) ≡ flat_map f xs
by_place g f [] a h = refl
by_place g f (x ∷ xs) a h =
    let e : a + 0 ≡ a = omega arith in
    let first : g a ≡ f x = subst (λ n. g n ≡ f x) e (h 0 (omega arith)) in
    let rest : flat_map g (range_with_len (a + 1) (length xs)) ≡ flat_map f xs = by_place g f xs (a + 1) (λ k l.
    let s : a + suc k ≡ a + 1 + k = omega arith in subst (λ n. g n ≡ f (get_or xs k [])) s (h (suc k) (omega arith))) in
    ap (λ ys. ys ++ flat_map g (range_with_len (a + 1) (length xs))) first ∙ ap (λ ys. f x ++ ys) rest

-- the allocations of all tasks, in turn, are all allocations
pub all_leaves : (case : GoodsCase) → depth_of case ≤ case.facts.goods → flat_map (task_leaves case) (range_with_len 0 (tasks_of case)) ≡ lists (player_count case) case.facts.goods
all_leaves case l =
    let n = player_count case in
    let d = depth_of case in
    let k = case.facts.goods - d in
    let F : List ℕ → List (List ℕ) = λ os. map (λ ps. os ++ ps) (lists n k) in
    let long : length (lists n d) ≡ tasks_of case = length_lists n d in
    let whole : d + k ≡ case.facts.goods = omega arith in
    let places : flat_map (task_leaves case) (range_with_len 0 (length (lists n d))) ≡ flat_map F (lists n d) =
    by_place (task_leaves case) F (lists n d) 0 (λ j m. let e : 0 + j ≡ j = omega arith in subst (λ t. task_leaves case t ≡ F (get_or (lists n d) j [])) (sym e) (leaves_are n k (task_list case j))) in
    ap (λ m. flat_map (task_leaves case) (range_with_len 0 m)) (sym long) ∙ places ∙ sym (lists_split n d k) ∙ ap (lists n) whole

-- a task begins with at most all goods
pub depth_short : (case : GoodsCase) → depth_of case ≤ case.facts.goods
unfolding depth_of
depth_short case =
    let n : length (range_with_len 0 case.facts.goods) ≡ case.facts.goods = length-range_with_len 0 case.facts.goods in
    let l = prefix_len-le-length (λ d. not (nat_le FEWEST_LISTS (player_count case ^ d))) (range_with_len 0 case.facts.goods) in
    omega arith

-- the lists with more owners have as many more
leaves_long : (n k : ℕ) (owners : List ℕ) → All (λ x. length x ≡ length owners + k) (leaves n k owners)
leaves_long n k owners =
    subst (All (λ x. length x ≡ length owners + k)) (sym (leaves_are n k owners))
    (All-map (λ x. length x ≡ length owners + k) (λ os. owners ++ os) (lists n k)
    (All-weaker (λ os. (length os ≡ k) × All (λ o. (1 ≤ o) × (o ≤ n)) os) (λ os. length (owners ++ os) ≡ length owners + k)
    (λ os h. length-append owners os ∙ ap (λ m. length owners + m) h.0) (lists n k) (lists_are n k)))

-- the allocations of tasks are whole lists
pub task_leaves_long : (case : GoodsCase) (from n : ℕ) → from + n ≤ tasks_of case → All (λ x. length x ≡ case.facts.goods) (flat_map (task_leaves case) (range_with_len from n))
task_leaves_long case from n l =
    let d = depth_of case in
    let p = player_count case in
    let k = case.facts.goods - d in
    let all : length (lists p d) ≡ tasks_of case = length_lists p d in
    let short = depth_short case in
    blocks_all (λ x. length x ≡ case.facts.goods) (task_leaves case) from n (λ t a b.
    let long : length (task_list case t) ≡ d = (lists_are p d t [] (omega arith)).0 in
    All-weaker (λ x. length x ≡ length (task_list case t) + k) (λ x. length x ≡ case.facts.goods) (λ x h. (let g : length x ≡ case.facts.goods = omega arith in g))
    (leaves p k (task_list case t)) (leaves_long p k (task_list case t)))
