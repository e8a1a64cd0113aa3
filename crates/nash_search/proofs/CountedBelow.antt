-- What the counted lists below a list are.
use Rattle.std.proofs.Common.{◌≡◌, ℕ, suc, zero, ◌+◌, ◌<◌, ◌≤◌, List, [], ◌∷◌, ◌++◌, length, append-nil, fold, cond, Bool, true, false, ◌&&◌, Option, Some, None, flat_map, arith, refl, sym, ap, ◌∙◌}
use Rattle.std.specs.List.{filter, range_with_len, count_by}
use Rattle.std.proofs.lemmas.List.Sums.{sum_by-cons, sum_by-append, fold-append, length-filter}
use Rattle.std.proofs.lemmas.List.Concat.{flat_map-append}
use Rattle.std.proofs.lemmas.List.Elements.{filter-append}
use Rattle.std.proofs.lemmas.List.{length_push}
use Rattle.split_lemmas.proofs.RangeSteps.{range_more}
use Rattle.bid_rules.specs.declared.goods.GoodsCase.{GoodsCase}
use Rattle.bid_rules.specs.declared.pair.Pair.{Pair}
use Rattle.bid_rules.specs.Pairs.{IsAtMost, IsLess}
use Rattle.bid_rules.specs.Goods.{IsValidGoodsCase, player_count}
use Rattle.nash_bounds.specs.Prefixes.{prefix_bound}
use Rattle.bid_rules.specs.Pairs.{is_at_most, is_above}
use Rattle.nash_bounds.specs.OwnerLists.{below, leaves}
use Rattle.nash_bounds.specs.Counted.{is_counted, count, best}
use Rattle.nash_bounds.specs.Allocations.{keep}
use Rattle.split_lemmas.proofs.PairOrder.{at_most-from, at_most-to, less-from, less-to}

-- blocks by a range with one more place
flat_range_more : (f : ℕ → List (List ℕ)) (i : ℕ) → flat_map f (range_with_len 1 (i + 1)) ≡ flat_map f (range_with_len 1 i) ++ f (i + 1)
flat_range_more f i =
    let e : 1 + i ≡ i + 1 = omega arith in
    ap (flat_map f) (range_more 1 i) ∙ flat_map-append f (range_with_len 1 i) ((1 + i) ∷ []) ∙ rw e (ap (λ xs. flat_map f (range_with_len 1 i) ++ xs) (append-nil (f (i + 1))))

-- the first few owners' part
unfoldable pub count_upto : GoodsCase → Pair → Option Pair → ℕ → List ℕ → ℕ → ℕ
count_upto case floor above k owners i = count_by (is_counted case floor above) (flat_map (λ owner. below (player_count case) k (owners ++ owner ∷ [])) (range_with_len 1 i))

-- the best below the first few next owners, after an earlier best
unfoldable pub best_upto : GoodsCase → Pair → Option Pair → ℕ → List ℕ → ℕ → Option (List ℕ) → Option (List ℕ)
best_upto case floor above k owners i old = fold (keep case) old (filter (is_counted case floor above) (flat_map (λ owner. leaves (player_count case) k (owners ++ owner ∷ [])) (range_with_len 1 i)))

-- below no next owner nothing is counted
pub count_upto-none : (case : GoodsCase) (floor : Pair) (above : Option Pair) (k : ℕ) (owners : List ℕ) → count_upto case floor above k owners 0 ≡ 0
unfolding count_upto
count_upto-none case floor above k owners = refl

-- one more next owner adds what is counted below
pub count_upto-more : (case : GoodsCase) (floor : Pair) (above : Option Pair) (k : ℕ) (owners : List ℕ) (i : ℕ)
    → count_upto case floor above k owners (i + 1) ≡ count_upto case floor above k owners i + count case floor above k (owners ++ (i + 1) ∷ [])
unfolding count_upto count
count_upto-more case floor above k owners i =
    let f : ℕ → List (List ℕ) = λ owner. below (player_count case) k (owners ++ owner ∷ []) in
    let p = is_counted case floor above in
    ap (count_by p) (flat_range_more f i) ∙ sum_by-append (λ x. cond (p x) 1 0) (flat_map f (range_with_len 1 i)) (f (i + 1))

-- below no next owner the earlier best stays
pub best_upto-none : (case : GoodsCase) (floor : Pair) (above : Option Pair) (k : ℕ) (owners : List ℕ) (old : Option (List ℕ)) → best_upto case floor above k owners 0 old ≡ old
unfolding best_upto
best_upto-none case floor above k owners old = refl

-- one more next owner goes on from the best so far
pub best_upto-more : (case : GoodsCase) (floor : Pair) (above : Option Pair) (k : ℕ) (owners : List ℕ) (i : ℕ) (old : Option (List ℕ))
    → best_upto case floor above k owners (i + 1) old ≡ best case floor above k (owners ++ (i + 1) ∷ []) (best_upto case floor above k owners i old)
unfolding best_upto best
best_upto-more case floor above k owners i old =
    let f : ℕ → List (List ℕ) = λ owner. leaves (player_count case) k (owners ++ owner ∷ []) in
    let p = is_counted case floor above in
    ap (λ xs. fold (keep case) old (filter p xs)) (flat_range_more f i)
    ∙ ap (fold (keep case) old) (filter-append p (flat_map f (range_with_len 1 i)) (f (i + 1)))
    ∙ fold-append (keep case) old (filter p (flat_map f (range_with_len 1 i))) (filter p (f (i + 1)))

-- a whole list that is counted is one
pub count-leaf : (case : GoodsCase) (floor : Pair) (above : Option Pair) (owners : List ℕ) → is_counted case floor above owners ≡ true → count case floor above 0 owners ≡ 1
unfolding count
count-leaf case floor above owners counted =
    let e : count_by (is_counted case floor above) (owners ∷ []) ≡ cond (is_counted case floor above owners) 1 0 + 0 = sum_by-cons (λ x. cond (is_counted case floor above x) 1 0) owners [] in
    e ∙ ap (λ b. cond b 1 0 + 0) counted

-- a whole list that is counted is kept if it is better
pub best-leaf : (case : GoodsCase) (floor : Pair) (above : Option Pair) (owners : List ℕ) (old : Option (List ℕ)) → is_counted case floor above owners ≡ true → best case floor above 0 owners old ≡ keep case old owners
unfolding best
best-leaf case floor above owners old counted = ap (λ b. fold (keep case) old (cond b (owners ∷ []) [])) counted

-- a counted prefix has itself and what is counted below all next owners
pub count-more : (case : GoodsCase) (floor : Pair) (above : Option Pair) (k : ℕ) (owners : List ℕ) → is_counted case floor above owners ≡ true
    → count case floor above (suc k) owners ≡ 1 + count_upto case floor above k owners (player_count case)
unfolding count count_upto
count-more case floor above k owners counted =
    let rest = flat_map (λ owner. below (player_count case) k (owners ++ owner ∷ [])) (range_with_len 1 (player_count case)) in
    let e : count_by (is_counted case floor above) (owners ∷ rest) ≡ cond (is_counted case floor above owners) 1 0 + count_by (is_counted case floor above) rest =
    sum_by-cons (λ x. cond (is_counted case floor above x) 1 0) owners rest in
    e ∙ ap (λ b. cond b 1 0 + count_by (is_counted case floor above) rest) counted

-- a counted prefix has the best below all next owners
pub best-more : (case : GoodsCase) (floor : Pair) (above : Option Pair) (k : ℕ) (owners : List ℕ) (old : Option (List ℕ)) → best case floor above (suc k) owners old ≡ best_upto case floor above k owners (player_count case) old
unfolding best best_upto
best-more case floor above k owners old = refl

-- that one more owner never raises the bound, a law of nash_bounds
abbrev pub BoundFalls : Type 0
BoundFalls = (case : GoodsCase) (owners : List ℕ) (owner : ℕ) → IsValidGoodsCase case → length owners < case.facts.goods → 1 ≤ owner → owner ≤ player_count case
    → IsAtMost (prefix_bound case (owners ++ owner ∷ [])) (prefix_bound case owners)

-- greater bounds are counted before smaller ones
at_most_through : (floor a b : Pair) → IsAtMost a b → is_at_most floor a ≡ true → is_at_most floor b ≡ true
at_most_through floor a b le h = at_most-to floor b (joined floor a b (at_most-from floor a h) le)
  where
    joined : (floor a b : Pair) → IsAtMost floor a → IsAtMost a b → IsAtMost floor b
    joined floor a b h le = grind arith

-- a pair no smaller than one above is above
above_through : (above : Option Pair) (a b : Pair) → IsAtMost a b → is_above above a ≡ true → is_above above b ≡ true
above_through None a b le h = refl
above_through (Some x) a b le h = less-to x b (joined x a b (less-from x a h) le)
  where
    joined : (x a b : Pair) → IsLess x a → IsAtMost a b → IsLess x b
    joined x a b h le = grind arith

-- both parts of a conjunction that holds
and_true : (a b : Bool) → (a && b) ≡ true → (a ≡ true) × (b ≡ true)
and_true true true h = (refl, refl)
and_true true false h = absurd (cc)
and_true false b h = absurd (cc)

-- a conjunction of what holds
true_and : (a b : Bool) → a ≡ true → b ≡ true → (a && b) ≡ true
true_and a b p q = rw (p, q) refl

-- a prefix is counted where one more owner is
pub counted_before : BoundFalls → (case : GoodsCase) (floor : Pair) (above : Option Pair) (owners : List ℕ) (owner : ℕ) → IsValidGoodsCase case → length owners < case.facts.goods → 1 ≤ owner → owner ≤ player_count case
    → is_counted case floor above (owners ++ owner ∷ []) ≡ true → is_counted case floor above owners ≡ true
counted_before falls case floor above owners owner valid l a b h =
    let le = falls case owners owner valid l a b in
    let long = prefix_bound case (owners ++ owner ∷ []) in
    let short = prefix_bound case owners in
    let both = and_true (is_at_most floor long) (is_above above long) h in
    true_and (is_at_most floor short) (is_above above short) (at_most_through floor long short le both.0) (above_through above long short le both.1)

-- with one more owner none is counted where the prefix isn't
not_counted_after : BoundFalls → (case : GoodsCase) (floor : Pair) (above : Option Pair) (owners : List ℕ) (owner : ℕ) → IsValidGoodsCase case → length owners < case.facts.goods → 1 ≤ owner → owner ≤ player_count case
    → is_counted case floor above owners ≡ false → is_counted case floor above (owners ++ owner ∷ []) ≡ false
not_counted_after falls case floor above owners owner valid l a b uncounted =
    by_cases (is_counted case floor above (owners ++ owner ∷ [])) refl
  where
    by_cases : (t : Bool) → is_counted case floor above (owners ++ owner ∷ []) ≡ t → is_counted case floor above (owners ++ owner ∷ []) ≡ false
    by_cases true e = let counted : is_counted case floor above owners ≡ true = counted_before falls case floor above owners owner valid l a b e in absurd (cc)
    by_cases false e = e

-- what isn't counted has nothing counted below
none_below : BoundFalls → (case : GoodsCase) (floor : Pair) (above : Option Pair) (k : ℕ) (owners : List ℕ) → IsValidGoodsCase case → length owners + k ≤ case.facts.goods → is_counted case floor above owners ≡ false
    → (filter (is_counted case floor above) (below (player_count case) k owners) ≡ []) × (filter (is_counted case floor above) (leaves (player_count case) k owners) ≡ [])
none_below falls case floor above zero owners valid l uncounted = let p = is_counted case floor above in (ap (λ b. cond b (owners ∷ []) []) uncounted, ap (λ b. cond b (owners ∷ []) []) uncounted)
none_below falls case floor above (suc k) owners valid l uncounted =
    let p = is_counted case floor above in
    let f : ℕ → List (List ℕ) = λ owner. below (player_count case) k (owners ++ owner ∷ []) in
    let g : ℕ → List (List ℕ) = λ owner. leaves (player_count case) k (owners ++ owner ∷ []) in
    let each : (o : ℕ) → 1 ≤ o → o ≤ player_count case → (filter p (f o) ≡ []) × (filter p (g o) ≡ []) = λ o a b.
    none_below falls case floor above k (owners ++ o ∷ []) valid (let n : length (owners ++ o ∷ []) ≡ length owners + 1 = length_push owners o in omega arith)
    (not_counted_after falls case floor above owners o valid (omega arith) a b uncounted) in (
      ap (λ b. cond b (owners ∷ filter p (flat_map f (range_with_len 1 (player_count case)))) (filter p (flat_map f (range_with_len 1 (player_count case))))) uncounted
          ∙ empty_each p f 1 (player_count case) (λ o a b. (each o a (omega arith)).0),
      empty_each p g 1 (player_count case) (λ o a b. (each o a (omega arith)).1),
    )
  where
    empty_each : (p : List ℕ → Bool) (f : ℕ → List (List ℕ)) (a n : ℕ) → ((o : ℕ) → a ≤ o → o < a + n → filter p (f o) ≡ []) → filter p (flat_map f (range_with_len a n)) ≡ []
    empty_each p f a zero h = refl
    empty_each p f a (suc n) h =
        filter-append p (f a) (flat_map f (range_with_len (a + 1) n))
        ∙ ap (λ xs. xs ++ filter p (flat_map f (range_with_len (a + 1) n))) (h a (omega arith) (omega arith))
        ∙ empty_each p f (a + 1) n (λ o l m. h o (omega arith) (omega arith))

-- a prefix that isn't counted has no counted ones below
pub count-not : BoundFalls → (case : GoodsCase) (floor : Pair) (above : Option Pair) (k : ℕ) (owners : List ℕ) → IsValidGoodsCase case → length owners + k ≤ case.facts.goods → is_counted case floor above owners ≡ false
    → count case floor above k owners ≡ 0
unfolding count
count-not falls case floor above k owners valid l uncounted =
    sym (length-filter (is_counted case floor above) (below (player_count case) k owners)) ∙ ap length (none_below falls case floor above k owners valid l uncounted).0

-- a prefix that isn't counted has none below to keep
pub best-not : BoundFalls → (case : GoodsCase) (floor : Pair) (above : Option Pair) (k : ℕ) (owners : List ℕ) (old : Option (List ℕ)) → IsValidGoodsCase case → length owners + k ≤ case.facts.goods → is_counted case floor above owners ≡ false
    → best case floor above k owners old ≡ old
unfolding best
best-not falls case floor above k owners old valid l uncounted = ap (fold (keep case) old) (none_below falls case floor above k owners valid l uncounted).1

-- a counted prefix has one counted at least
pub count-some : (case : GoodsCase) (floor : Pair) (above : Option Pair) (k : ℕ) (owners : List ℕ) → is_counted case floor above owners ≡ true → 1 ≤ count case floor above k owners
count-some case floor above zero owners counted = let e = count-leaf case floor above owners counted in omega arith
count-some case floor above (suc k) owners counted = let e = count-more case floor above k owners counted in omega arith
