-- The first allocation that is found is the least that dominates the owners.
use Rattle.std.proofs.Common.{◌≡◌, ℕ, suc, zero, ◌+◌, ◌-◌, ◌≤◌, ◌==◌, ◌&&◌, Bool, true, false, cond, List, [], ◌∷◌, ◌++◌, All, AllPairs, Contains, length, flat_map, filter, get_or, ◌↔◌, arith, refl, sym, ap, ◌∙◌, subst}
use Rattle.std.specs.List.{range_with_len}
use Rattle.std.specs.Cmp.Lexicographic.{slice_cmp}
use Rattle.std.specs.Ordering.{nat_cmp, ordering_reverse}
use Rattle.std.specs.declared.cmp.Ordering.TheVariants.{Less, Greater}
use Rattle.std.proofs.lemmas.Bool.Decides.{nat_tests}
use Rattle.std.proofs.lemmas.Cmp.{nat_list_cmp_total}
use Rattle.std.proofs.lemmas.List.{length_push}
use Rattle.std.proofs.lemmas.List.Elements.{All-cons, All-contains_itself, All-filter, All-head, All-nil, filter-append}
use Rattle.std.proofs.lemmas.List.Kept.{AllPairs-filter}
use Rattle.bid_rules.specs.declared.goods.GoodsCase.{GoodsCase}
use Rattle.bid_rules.specs.Goods.{AreOwners, Dominates, IsAllocation, player_count}
use Rattle.nash_bounds.specs.OwnerLists.{ArePlayers, below, leaves}
use Rattle.goods_audit.specs.Domination.{IsLeastDominating, leaves_room, prefixes}
use Rattle.goods_audit.specs.Paths.{found_in, is_found}
use Rattle.goods_audit.proofs.OpenPrefixes.{short_not_found}
use Rattle.goods_audit.proofs.WholeDivisions.{OrderLong, dominates_from, dominates_to}

-- parts in a row in which the same is found
same_parts : (p q : List ℕ → Bool) (f g : ℕ → List (List ℕ)) (a n : ℕ) → ((o : ℕ) → filter p (f o) ≡ filter q (g o)) → filter p (flat_map f (range_with_len a n)) ≡ filter q (flat_map g (range_with_len a n))
same_parts p q f g a zero h = refl
same_parts p q f g a (suc n) h =
    filter-append p (f a) (flat_map f (range_with_len (a + 1) n))
    ∙ ap (λ xs. xs ++ filter p (flat_map f (range_with_len (a + 1) n))) (h a)
    ∙ ap (λ xs. filter q (g a) ++ xs) (same_parts p q f g (a + 1) n h)
    ∙ sym (filter-append q (g a) (flat_map g (range_with_len (a + 1) n)))

-- what is found below a prefix are the allocations below it that leave room
found_below : (case : GoodsCase) (owners : List ℕ) (k : ℕ) (prefix : List ℕ) → length prefix + k ≡ case.facts.goods
    → found_in case owners (below (player_count case) k prefix) ≡ filter (leaves_room case owners) (leaves (player_count case) k prefix)
found_below case owners zero prefix e = by (leaves_room case owners prefix) (length prefix == case.facts.goods) (same (length prefix) case.facts.goods (omega (arith, e)))
  where
    same : (a b : ℕ) → a ≡ b → (a == b) ≡ true
    same a b e = grind (arith, nat_tests)

    by : (a b : Bool) → b ≡ true → cond (a && b) (prefix ∷ []) [] ≡ cond a (prefix ∷ []) []
    by true b e = rw e refl
    by false b e = refl
found_below case owners (suc k) prefix e =
    let n = player_count case in
    let f : ℕ → List (List ℕ) = λ owner. below n k (prefix ++ owner ∷ []) in
    let g : ℕ → List (List ℕ) = λ owner. leaves n k (prefix ++ owner ∷ []) in
    short_not_found case owners prefix (flat_map f (range_with_len 1 n)) (omega (arith, e))
    ∙ same_parts (is_found case owners) (leaves_room case owners) f g 1 n (λ o. found_below case owners k (prefix ++ o ∷ []) (let l = length_push prefix o in omega (arith, e, l)))

-- what is found are the allocations that leave room
pub found_all : (case : GoodsCase) (owners : List ℕ) → 1 ≤ case.facts.goods → found_in case owners (prefixes case) ≡ filter (leaves_room case owners) (leaves (player_count case) case.facts.goods [])
found_all case owners some =
    let n = player_count case in
    let k = case.facts.goods - 1 in
    let e : suc k ≡ case.facts.goods = omega (arith, some) in
    sym (short_not_found case owners [] (prefixes case) (omega (arith, some)))
    ∙ found_below case owners (suc k) [] (omega (arith, e))
    ∙ ap (λ i. filter (leaves_room case owners) (leaves n i [])) e

-- a list is not before itself
not_itself : (xs : List ℕ) → slice_cmp nat_cmp xs xs ≡ Less → ⊥
not_itself xs h = let g : slice_cmp nat_cmp xs xs ≡ Greater = nat_list_cmp_total.antisymm xs xs ∙ ap ordering_reverse h in let e : Less ≡ Greater = sym h ∙ g in cc

-- two lists are not before each other
not_both : (xs ys : List ℕ) → slice_cmp nat_cmp xs ys ≡ Less → slice_cmp nat_cmp ys xs ≡ Less → ⊥
not_both xs ys h g = let f : slice_cmp nat_cmp ys xs ≡ Greater = nat_list_cmp_total.antisymm ys xs ∙ ap ordering_reverse h in let e : Less ≡ Greater = sym g ∙ f in cc

-- of lists in rising order none is before the first
least_first : (first : List ℕ) (more : List (List ℕ)) → AllPairs (λ one later. slice_cmp nat_cmp one later ≡ Less) (first ∷ more) → (other : List ℕ) → Contains (first ∷ more) other
    → slice_cmp nat_cmp other first ≡ Less → ⊥
least_first first more rising other (zero, l, is) before = not_itself first (subst (λ xs. slice_cmp nat_cmp xs first ≡ Less) (sym is) before)
least_first first more rising other (suc k, l, is) before =
    let later : slice_cmp nat_cmp first (get_or more k other) ≡ Less = rising 0 (suc k) other (omega arith) (omega (arith, l)) in
    not_both first other (ap (slice_cmp nat_cmp first) (sym is) ∙ later) before

-- a list that passes is kept
kept_list : (p : List ℕ → Bool) (xs : List (List ℕ)) (x : List ℕ) → Contains xs x → p x ≡ true → Contains (filter p xs) x
kept_list p [] x c e = absurd (let l = c.1 in omega arith)
kept_list p (y ∷ xs) x (zero, l, at) e = by (p y) (ap p at ∙ e)
  where
    by : (b : Bool) → b ≡ true → Contains (cond b (y ∷ filter p xs) (filter p xs)) x
    by true f = (0, omega arith, at)
    by false f = cc
kept_list p (y ∷ xs) x (suc k, l, at) e = by (p y) (kept_list p xs x (k, omega arith, at) e)
  where
    by : (b : Bool) → Contains (filter p xs) x → Contains (cond b (y ∷ filter p xs) (filter p xs)) x
    by true f = (suc f.0, (let m = f.1 in omega arith), f.2)
    by false f = f

-- which lists the leaves are, a law of nash_bounds
abbrev pub LeavesAre : Type 0
LeavesAre = (n k : ℕ) (owners longer : List ℕ) → Contains (leaves n k owners) longer ↔ (rest : List ℕ) × (longer ≡ owners ++ rest) × (length rest ≡ k) × ArePlayers n rest

abbrev pub LeavesRise : Type 0
LeavesRise = (n k : ℕ) (owners : List ℕ) → AllPairs (λ one later. slice_cmp nat_cmp one later ≡ Less) (leaves n k owners)

-- what the leaves of all goods are
leaf_allocation : LeavesAre → (case : GoodsCase) (others : List ℕ) → Contains (leaves (player_count case) case.facts.goods []) others → IsAllocation case others
leaf_allocation are case others c =
    let is = (are (player_count case) case.facts.goods [] others).0 c in
    record {
      each = ap length is.1 ∙ is.2;
      owned = subst (AreOwners case) (sym is.1) is.3;
    }

-- an allocation is one of the leaves
allocation_leaf : LeavesAre → (case : GoodsCase) (others : List ℕ) → IsAllocation case others → Contains (leaves (player_count case) case.facts.goods []) others
allocation_leaf are case others allocation = (are (player_count case) case.facts.goods [] others).1 (others, refl, allocation.each, allocation.owned)

-- where nothing is found, no allocation dominates the owners
pub none_dominates : OrderLong → LeavesAre → (case : GoodsCase) (owners : List ℕ) → 1 ≤ case.facts.goods → found_in case owners (prefixes case) ≡ []
    → (others : List ℕ) → IsAllocation case others → Dominates case others owners → ⊥
none_dominates long are case owners some none others allocation dominates =
    let all = found_all case owners some in
    let there = kept_list (leaves_room case owners) (leaves (player_count case) case.facts.goods []) others (allocation_leaf are case others allocation) (dominates_to long case owners others allocation.each dominates) in
    let empty : Contains [] others = subst (λ xs. Contains xs others) (sym all ∙ none) there in
    absurd (let l = empty.1 in omega arith)

-- what passes passes
passed : (p : List ℕ → Bool) (xs : List (List ℕ)) → All (λ x. p x ≡ true) (filter p xs)
passed p [] = All-nil (λ x. p x ≡ true)
passed p (x ∷ xs) = by (p x) refl (passed p xs)
  where
    by : (b : Bool) → p x ≡ b → All (λ x. p x ≡ true) (filter p xs) → All (λ x. p x ≡ true) (cond b (x ∷ filter p xs) (filter p xs))
    by true e rest = All-cons (λ x. p x ≡ true) x (filter p xs) e rest
    by false e rest = rest

-- the first that is found is the least that dominates the owners
pub first_is_least : OrderLong → LeavesAre → LeavesRise → (case : GoodsCase) (owners first : List ℕ) (more : List (List ℕ)) → 1 ≤ case.facts.goods → found_in case owners (prefixes case) ≡ first ∷ more
    → IsLeastDominating case owners first
first_is_least long are rise case owners first more some found =
    let n = player_count case in
    let p : List ℕ → Bool = leaves_room case owners in
    let xs = leaves n case.facts.goods [] in
    let kept : filter p xs ≡ first ∷ more = sym (found_all case owners some) ∙ found in
    let opens : p first ≡ true = All-head (λ x. p x ≡ true) first more (subst (All (λ x. p x ≡ true)) kept (passed p xs)) in
    let leaf : Contains xs first = All-head (Contains xs) first more (subst (All (Contains xs)) kept (All-filter p (Contains xs) xs (All-contains_itself xs))) in
    let allocation = leaf_allocation are case first leaf in
    let rising = subst (AllPairs (λ one later. slice_cmp nat_cmp one later ≡ Less)) kept (AllPairs-filter (λ one later. slice_cmp nat_cmp one later ≡ Less) p xs (rise n case.facts.goods [])) in
    record {
      allocation = allocation;
      dominates = dominates_from long case owners first allocation.each opens;
      least = λ list is dominates before.
          least_first first more rising list (subst (λ ys. Contains ys list) kept (kept_list p xs list (allocation_leaf are case list is) (dominates_to long case owners list is.each dominates))) before;
    }
