-- The lists that begin with some owners: which they are, and that they rise.
use Rattle.std.proofs.Common.{◌≡◌, ℕ, zero, suc, ◌+◌, ◌-◌, ◌<◌, ◌≤◌, List, [], ◌∷◌, ◌++◌, length, length-append, map, flat_map, append-nil, append_assoc, arith, refl, sym, ap, ◌∙◌, subst, All, Contains, ◌↔◌}
use Rattle.std.specs.List.{range_with_len}
use Rattle.std.proofs.lemmas.List.Elements.{All-nil, All-cons, All-head, All-tail, All-weaker, All-map, All-contains, All-contains_itself, Contains-get_or}
use Rattle.std.specs.Cmp.Lexicographic.{slice_cmp}
use Rattle.std.specs.Ordering.{nat_cmp}
use Rattle.std.specs.declared.cmp.Ordering.TheVariants.{Less}
use Rattle.bid_rules.specs.declared.goods.GoodsCase.{GoodsCase}
use Rattle.bid_rules.specs.Goods.{AreOwners, player_count}
use Rattle.nash_bounds.specs.Tasks.{depth_of, task_list, tasks_of}
use Rattle.nash_bounds.proofs.OwnerCounts.{length_lists}
use Rattle.nash_bounds.specs.OwnerLists.{lists, below, leaves, ArePlayers, IsLonger}
use Rattle.nash_bounds.proofs.BestOfRising.{Rising}
use Rattle.nash_bounds.proofs.OwnerLists.{all_lists, block_of, blocks_all, less_head, lists_are}
use Rattle.nash_bounds.proofs.RisingLists.{blocks_rise, same_front}
use Rattle.nash_bounds.proofs.TaskLists.{depth_short, leaves_are}

-- a list of k owners is listed
pub listed : (n k : ℕ) (owners : List ℕ) → Contains (lists n k) owners ↔ (length owners ≡ k) × ArePlayers n owners
listed n k owners = (
  λ h. All-contains (λ os. (length os ≡ k) × ArePlayers n os) (lists n k) owners (lists_are n k) h,
  λ is. all_lists (Contains (lists n k)) n k owners (λ j d l. Contains-get_or (lists n k) j d l) is.0 is.1,
)

-- each listed prefix begins with the owners
pub below_are : (n k : ℕ) (owners : List ℕ) → All (IsLonger n k owners) (below n k owners)
below_are n zero owners = All-cons (IsLonger n zero owners) owners [] ([], sym (append-nil owners), omega arith, All-nil (λ o. (1 ≤ o) × (o ≤ n))) (All-nil (IsLonger n zero owners))
below_are n (suc k) owners =
    let L : List ℕ → Type 0 = IsLonger n (suc k) owners in
    All-cons L owners (flat_map (λ owner. below n k (owners ++ owner ∷ [])) (range_with_len 1 n)) ([], sym (append-nil owners), omega arith, All-nil (λ o. (1 ≤ o) × (o ≤ n)))
    (blocks_all L (λ owner. below n k (owners ++ owner ∷ [])) 1 n (λ o l m.
    All-weaker (IsLonger n k (owners ++ o ∷ [])) L (λ x h. (
      o ∷ h.0,
      h.1 ∙ append_assoc owners (o ∷ []) h.0,
      (let s = h.2 in omega arith),
      All-cons (λ o. (1 ≤ o) × (o ≤ n)) o h.0 (l, omega arith) h.3,
    )) (below n k (owners ++ o ∷ [])) (below_are n k (owners ++ o ∷ []))))

-- and each that does is listed
pub all_below : (P : List ℕ → Type 0) (n k : ℕ) (owners rest : List ℕ) → All P (below n k owners) → length rest ≤ k → ArePlayers n rest → P (owners ++ rest)
all_below P n zero owners [] h l r = subst P (sym (append-nil owners)) (All-head P owners [] h)
all_below P n zero owners (o ∷ rest) h l r = absurd (omega arith)
all_below P n (suc k) owners [] h l r = subst P (sym (append-nil owners)) (All-head P owners (flat_map (λ owner. below n k (owners ++ owner ∷ [])) (range_with_len 1 n)) h)
all_below P n (suc k) owners (o ∷ rest) h l r =
    let R : ℕ → Type 0 = λ p. (1 ≤ p) × (p ≤ n) in
    let f : ℕ → List (List ℕ) = λ owner. below n k (owners ++ owner ∷ []) in
    let own = All-head R o rest r in
    let block = block_of P f 1 n o own.0 (let m = own.1 in omega arith) (All-tail P owners (flat_map f (range_with_len 1 n)) h) in
    subst P (append_assoc owners (o ∷ []) rest) (all_below P n k (owners ++ o ∷ []) rest block (omega arith) (All-tail R o rest r))

-- the lists below some owners are those that go on with up to so many more
pub below_listed : (n k : ℕ) (owners longer : List ℕ) → Contains (below n k owners) longer ↔ IsLonger n k owners longer
below_listed n k owners longer = (
  λ h. All-contains (IsLonger n k owners) (below n k owners) longer (below_are n k owners) h,
  λ is. subst (Contains (below n k owners)) (sym is.1) (all_below (Contains (below n k owners)) n k owners is.0 (All-contains_itself (below n k owners)) is.2 is.3),
)

-- a longer list comes after those owners alone
longer_after : (owners : List ℕ) (o : ℕ) (rest : List ℕ) → slice_cmp nat_cmp owners ((owners ++ o ∷ []) ++ rest) ≡ Less
longer_after owners o rest =
    subst (λ xs. slice_cmp nat_cmp xs ((owners ++ o ∷ []) ++ rest) ≡ Less) (append-nil owners)
    (subst (λ xs. slice_cmp nat_cmp (owners ++ []) xs ≡ Less) (sym (append_assoc owners (o ∷ []) rest)) (same_front owners [] (o ∷ rest) refl))

-- they rise, each before those that extend it
pub below_rises : (n k : ℕ) (owners : List ℕ) → Rising (below n k owners)
below_rises n zero owners = (All-nil (λ y. slice_cmp nat_cmp owners y ≡ Less), tt)
below_rises n (suc k) owners =
    let f : ℕ → List (List ℕ) = λ owner. below n k (owners ++ owner ∷ []) in (
      blocks_all (λ y. slice_cmp nat_cmp owners y ≡ Less) f 1 n (λ o l m.
          All-weaker (IsLonger n k (owners ++ o ∷ [])) (λ y. slice_cmp nat_cmp owners y ≡ Less)
          (λ y h. subst (λ z. slice_cmp nat_cmp owners z ≡ Less) (sym h.1) (longer_after owners o h.0)) (f o) (below_are n k (owners ++ o ∷ []))),
      blocks_rise f 1 n (λ o. below_rises n k (owners ++ o ∷ [])) (λ o p l.
          All-weaker (IsLonger n k (owners ++ o ∷ [])) (λ x. All (λ y. slice_cmp nat_cmp x y ≡ Less) (f p))
          (λ x h. All-weaker (IsLonger n k (owners ++ p ∷ [])) (λ y. slice_cmp nat_cmp x y ≡ Less)
          (λ y g. rw (h.1 ∙ append_assoc owners (o ∷ []) h.0, g.1 ∙ append_assoc owners (p ∷ []) g.0) (same_front owners (o ∷ h.0) (p ∷ g.0) (less_head o p h.0 g.0 l)))
          (f p) (below_are n k (owners ++ p ∷ [])))
          (f o) (below_are n k (owners ++ o ∷ []))),
    )

-- the lists that go on with k more
pub leaves_listed : (n k : ℕ) (owners longer : List ℕ) → Contains (leaves n k owners) longer ↔ (rest : List ℕ) × (longer ≡ owners ++ rest) × (length rest ≡ k) × ArePlayers n rest
leaves_listed n k owners longer =
    let L : List ℕ → Type 0 = λ x. (rest : List ℕ) × (x ≡ owners ++ rest) × (length rest ≡ k) × ArePlayers n rest in
    let each : All L (leaves n k owners) = subst (All L) (sym (leaves_are n k owners))
    (All-map L (λ os. owners ++ os) (lists n k)
    (All-weaker (λ os. (length os ≡ k) × ArePlayers n os) (λ os. L (owners ++ os)) (λ os h. (os, refl, h.0, h.1)) (lists n k) (lists_are n k))) in (
      λ h. All-contains L (leaves n k owners) longer each h,
      λ is. subst (Contains (leaves n k owners)) (sym is.1) (all_leaves_of is.0 is.2 is.3),
    )
  where
    from_map : (P : List ℕ → Type 0) (xs : List (List ℕ)) → All P (map (λ os. owners ++ os) xs) → All (λ os. P (owners ++ os)) xs
    from_map P [] h = All-nil (λ os. P (owners ++ os))
    from_map P (x ∷ xs) h = All-cons (λ os. P (owners ++ os)) x xs (All-head P (owners ++ x) (map (λ os. owners ++ os) xs) h) (from_map P xs (All-tail P (owners ++ x) (map (λ os. owners ++ os) xs) h))

    all_leaves_of : (rest : List ℕ) → length rest ≡ k → ArePlayers n rest → Contains (leaves n k owners) (owners ++ rest)
    all_leaves_of rest e r =
        all_lists (λ os. Contains (leaves n k owners) (owners ++ os)) n k rest
        (from_map (Contains (leaves n k owners)) (lists n k) (subst (All (Contains (leaves n k owners))) (leaves_are n k owners) (All-contains_itself (leaves n k owners)))) e r

-- a task begins with players, as many as its depth
pub task_begins : (case : GoodsCase) (task : ℕ) → task < tasks_of case → (length (task_list case task) ≡ depth_of case) × AreOwners case (task_list case task)
task_begins case task l = let e = length_lists (player_count case) (depth_of case) in lists_are (player_count case) (depth_of case) task [] (omega arith)

-- the prefixes of a task
pub task_prefixes : (case : GoodsCase) (task : ℕ) (owners : List ℕ) → task < tasks_of case → Contains (below (player_count case) (case.facts.goods - depth_of case) (task_list case task)) owners
    ↔ (rest : List ℕ) × (owners ≡ task_list case task ++ rest) × (length owners ≤ case.facts.goods) × AreOwners case rest
task_prefixes case task owners l =
    let n = player_count case in
    let k = case.facts.goods - depth_of case in
    let both = below_listed n k (task_list case task) owners in
    let long = (task_begins case task l).0 in
    let short = depth_short case in
    let joined : (rest : List ℕ) → owners ≡ task_list case task ++ rest → length owners ≡ depth_of case + length rest = λ rest e. ap length e ∙ length-append (task_list case task) rest ∙ ap (λ m. m + length rest) long in (
      λ h. let is = both.0 h in (is.0, is.1, (let e = joined is.0 is.1 in let m = is.2 in omega arith), is.3),
      λ is. both.1 (is.0, is.1, (let e = joined is.0 is.1 in let m = is.2 in omega arith), is.3),
    )
