-- Each player's points sum to all that a player has, and none is above the greatest.
use Rattle.std.proofs.Common.{◌≡◌, ℕ, suc, zero, ◌+◌, ◌-◌, ◌<◌, ◌≤◌, max, List, [], ◌∷◌, get_or, length, map, fold, sum, arith, refl, sym, ap, ◌∙◌, subst, All, slice_index, cond, eqb, false, inl, inr}
use Rattle.std.specs.List.{range_with_len, sum_by, AllZip}
use Rattle.std.proofs.lemmas.List.Sums.{sum_by-cons, sum-map}
use Rattle.std.proofs.lemmas.List.{get_or-map}
use Rattle.std.proofs.lemmas.List.Elements.{All-head, All-tail}
use Rattle.std.proofs.lemmas.Bool.Decides.{nat_tests, eqb_tells}
use Rattle.arrayvec.specs.declared.array_vec.ArrayVec.{ArrayVec}
use Rattle.bid_rules.specs.declared.goods.GoodsCase.{GoodsCase}
use Rattle.bid_rules.specs.Goods.{IsValidGoodsCase, player_count, order_of, greatest_points, points}
use Rattle.nash_bounds.proofs.SortedGoods.{order_sum}
use Rattle.bid_rules.specs.declared.limits.TheConstants.{ITEM_ROOM, WHOLE_POINTS}

-- the points that a player gives the goods
abbrev pub Row : Type 0
Row = ArrayVec ℕ ITEM_ROOM (Unit {0})

-- a list that is mapped is as long
pub length_mapped : {X : Type 0} (f : X → ℕ) (xs : List X) → length (map f xs) ≡ length xs
length_mapped f [] = refl
length_mapped f (x ∷ xs) = ap suc (length_mapped f xs)

-- two functions that are the same at each entry map to the same
pub map_same : (f g : ℕ → ℕ) (xs : List ℕ) → All (λ x. f x ≡ g x) xs → map f xs ≡ map g xs
map_same f g [] h = refl
map_same f g (x ∷ xs) h =
    let one : f x ≡ g x = All-head (λ x. f x ≡ g x) x xs h in
    let rest : map f xs ≡ map g xs = map_same f g xs (All-tail (λ x. f x ≡ g x) x xs h) in
    ap (λ y. y ∷ map f xs) one ∙ ap (λ ys. g x ∷ ys) rest

-- a function that gives each entry by its place maps the places to the list
pub map_is : (f : ℕ → ℕ) (xs : List ℕ) (a : ℕ) → ((k : ℕ) → k < length xs → f (a + k) ≡ get_or xs k 0) → map f (range_with_len a (length xs)) ≡ xs
map_is f [] a h = refl
map_is f (x ∷ xs) a h =
    let e : a + 0 ≡ a = omega arith in
    let first : f a ≡ x = subst (λ n. f n ≡ x) e (h 0 (omega arith)) in
    let rest : map f (range_with_len (a + 1) (length xs)) ≡ xs = map_is f xs (a + 1) (λ k l.
    let s : a + suc k ≡ a + 1 + k = omega arith in subst (λ n. f n ≡ get_or xs k 0) s (h (suc k) (omega arith))) in
    rw (first, rest) refl

-- a player's points sum to all points, in search order too
pub points_sum : (case : GoodsCase) (player : ℕ) → IsValidGoodsCase case → 1 ≤ player → player ≤ player_count case → sum_by (points case player) (order_of case) ≡ WHOLE_POINTS
points_sum case player valid l h =
    let none : Row = record { items = [] } in
    let row = get_or case.values.items (player - 1) none in
    let long : length row.items ≡ case.facts.goods = valid.goods (player - 1) none (omega arith) in
    let total : sum row.items ≡ WHOLE_POINTS = valid.sums (player - 1) none (omega arith) in
    let is : map (points case player) (range_with_len 1 (length row.items)) ≡ row.items =
    map_is (points case player) row.items 1 (λ k _. let e : 1 + k - 1 ≡ k = omega arith in ap (λ n. get_or row.items n 0) e) in
    order_sum (points case player) case
    ∙ sym (sum-map (points case player) (range_with_len 1 case.facts.goods))
    ∙ ap (λ n. sum (map (points case player) (range_with_len 1 n))) (sym long)
    ∙ ap sum is ∙ total

-- the greatest of some numbers is no smaller than where it is counted from
fold_max_from : (a : ℕ) (xs : List ℕ) → a ≤ fold max a xs
fold_max_from a [] = omega arith
fold_max_from a (x ∷ xs) = let h : max a x ≤ fold max (max a x) xs = fold_max_from (max a x) xs in omega arith

-- the greatest of some numbers is no smaller than any of them
fold_max_above : (a : ℕ) (xs : List ℕ) (i : ℕ) → i < length xs → get_or xs i 0 ≤ fold max a xs
fold_max_above a [] i l = absurd (omega arith)
fold_max_above a (x ∷ xs) zero l = let h : max a x ≤ fold max (max a x) xs = fold_max_from (max a x) xs in omega arith
fold_max_above a (x ∷ xs) (suc i) l = fold_max_above (max a x) xs i (omega arith)

-- no player gives a good more than the greatest points for it
pub points_le : (case : GoodsCase) (player good : ℕ) → 1 ≤ player → player ≤ player_count case → points case player good ≤ greatest_points case good
points_le case player good l h =
    let none : Row = record { items = [] } in
    let f : Row → ℕ = λ row. slice_index row.items (good - 1) in
    let e : get_or (map f case.values.items) (player - 1) 0 ≡ points case player good = get_or-map f case.values.items (player - 1) none 0 (omega arith) in
    let n : length (map f case.values.items) ≡ player_count case = length_mapped f case.values.items in
    let m = fold_max_above 0 (map f case.values.items) (player - 1) (omega arith) in
    omega arith

-- two maps of one list, related one by one
pub AllZip_map : (f g : ℕ → ℕ) (xs : List ℕ) → All (λ x. f x ≤ g x) xs → AllZip ◌≤◌ (map f xs) (map g xs)
AllZip_map f g [] h = tt
AllZip_map f g (x ∷ xs) h = (All-head (λ x. f x ≤ g x) x xs h, AllZip_map f g xs (All-tail (λ x. f x ≤ g x) x xs h))

-- sums of the same terms are the same
pub sum_by_same : (f g : ℕ → ℕ) (xs : List ℕ) → ((x : ℕ) → f x ≡ g x) → sum_by f xs ≡ sum_by g xs
sum_by_same f g [] h = refl
sum_by_same f g (x ∷ xs) h =
    let a : sum_by f (x ∷ xs) ≡ f x + sum_by f xs = sum_by-cons f x xs in
    let b : sum_by g (x ∷ xs) ≡ g x + sum_by g xs = sum_by-cons g x xs in
    let c : sum_by f xs ≡ sum_by g xs = sum_by_same f g xs h in
    let d : f x ≡ g x = h x in
    omega arith

-- a gain of one player alone
gain : (ℕ → ℕ) → ℕ → ℕ → ℕ
gain v o p = cond (eqb o p) (v p) 0

-- an owner before the range gains nothing in it
gain_before : (u v : ℕ → ℕ) (o a n : ℕ) → o < a → sum_by (λ p. u p + gain v o p) (range_with_len a n) ≡ sum_by u (range_with_len a n)
unfolding gain
gain_before u v o a zero l = refl
gain_before u v o a (suc n) l =
    let f : ℕ → ℕ = λ p. u p + cond (eqb o p) (v p) 0 in
    let one : sum_by f (a ∷ range_with_len (a + 1) n) ≡ f a + sum_by f (range_with_len (a + 1) n) = sum_by-cons f a (range_with_len (a + 1) n) in
    let two : sum_by u (a ∷ range_with_len (a + 1) n) ≡ u a + sum_by u (range_with_len (a + 1) n) = sum_by-cons u a (range_with_len (a + 1) n) in
    let rest : sum_by f (range_with_len (a + 1) n) ≡ sum_by u (range_with_len (a + 1) n) = gain_before u v o (a + 1) n (omega arith) in
    let no : eqb o a ≡ false = grind (arith, nat_tests) in
    let same : f a ≡ u a + 0 = ap (λ b. u a + cond b (v a) 0) no in
    omega arith

-- an owner in the range raises the sum by what they gain
pub gain_sum : (u v : ℕ → ℕ) (o a n : ℕ) → a ≤ o → o < a + n → sum_by (λ p. u p + cond (eqb o p) (v p) 0) (range_with_len a n) ≡ sum_by u (range_with_len a n) + v o
unfolding gain
gain_sum u v o a zero l h = absurd (omega arith)
gain_sum u v o a (suc n) l h =
    let f : ℕ → ℕ = λ p. u p + cond (eqb o p) (v p) 0 in
    let one : sum_by f (a ∷ range_with_len (a + 1) n) ≡ f a + sum_by f (range_with_len (a + 1) n) = sum_by-cons f a (range_with_len (a + 1) n) in
    let two : sum_by u (a ∷ range_with_len (a + 1) n) ≡ u a + sum_by u (range_with_len (a + 1) n) = sum_by-cons u a (range_with_len (a + 1) n) in
    elim (eqb_tells o a) [
      | inl same_one ↦ (
          let rest : sum_by f (range_with_len (a + 1) n) ≡ sum_by u (range_with_len (a + 1) n) = gain_before u v o (a + 1) n (let is : o ≡ a = same_one.1 in omega arith) in
          let same : f a ≡ u a + v a = ap (λ b. u a + cond b (v a) 0) same_one.0 in
          let own : v a ≡ v o = ap v (sym same_one.1) in
          omega arith)
      | inr other_one ↦ (
          let differs : o ≡ a → ⊥ = other_one.1 in
          let rest : sum_by f (range_with_len (a + 1) n) ≡ sum_by u (range_with_len (a + 1) n) + v o = gain_sum u v o (a + 1) n (omega arith) (omega arith) in
          let same : f a ≡ u a + 0 = ap (λ b. u a + cond b (v a) 0) other_one.0 in
          omega arith)
    ]
