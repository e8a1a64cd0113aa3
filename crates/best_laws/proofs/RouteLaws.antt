-- A route's cost is the least of its orders', and does not depend on the order in which the riders are named.
use Rattle.std.proofs.Common.{◌≡◌, ℕ, suc, ◌+◌, ◌<◌, ◌≤◌, List, [], ◌∷◌, length, map, fold, min, get_or, All, Contains, arith, refl, sym, ap, ◌∙◌, subst, ⊎_elim, inl, inr, ◌⊎◌}
use Rattle.std.specs.List.Sorted.{IsPermutation}
use Rattle.std.proofs.lemmas.Bool.{cases_lt}
use Rattle.std.proofs.lemmas.List.{get_or-map, length-map, get_or_default}
use Rattle.std.proofs.lemmas.List.Elements.{Contains-get_or}
use Rattle.std.proofs.lemmas.List.Sorted.{IsPermutation-sym, IsPermutation-trans, length_permutation}
use Rattle.bid_rules.specs.declared.cases.FareCase.{FareCase}
use Rattle.bid_rules.specs.Orders.{orders, factorial}
use Rattle.bid_rules.specs.Fares.{legs_along, least, route_cost, coalition_cost}
use Rattle.split_lemmas.proofs.OrderLaws.{orders_permute, length-orders, factorial_pos}
use Rattle.split_lemmas.proofs.CompleteOrders.{listed_iff}
use Rattle.best_laws.proofs.Least.{least_is, fold_min_at}

-- the least of the start and some numbers is one of them
fold_min_reached : (a : ℕ) (xs : List ℕ) → (fold min a xs ≡ a) ⊎ Contains xs (fold min a xs)
fold_min_reached a [] = inl refl
fold_min_reached a (x ∷ xs) = ⊎_elim
    (λ e. ⊎_elim
    (λ (f : min a x ≡ a). inl (e ∙ f))
    (λ (f : min a x ≡ x). inr (0, omega arith, sym (e ∙ f)))
    (either a x))
    (λ c. inr (suc c.0, (let l = c.1 in omega arith), c.2))
    (fold_min_reached (min a x) xs)
  where
    either : (a x : ℕ) → (min a x ≡ a) ⊎ (min a x ≡ x)
    either a x = ⊎_elim (λ l. inl (omega arith)) (λ l. inr (omega arith)) (cases_lt a x)

-- the least of some numbers is one of them
pub least_reached : (xs : List ℕ) → 0 < length xs → Contains xs (least xs)
least_reached xs some = ⊎_elim (λ e. (0, some, ap (λ d. get_or xs 0 d) e ∙ get_or_default xs 0 _ 0 some ∙ sym e)) (λ c. c) (fold_min_reached (get_or xs 0 0) xs)

-- lists with the same elements have the same least
same_least : (xs ys : List ℕ) → 0 < length xs → ((m : ℕ) → Contains xs m → Contains ys m) → ((m : ℕ) → Contains ys m → Contains xs m) → least xs ≡ least ys
same_least xs ys some to back =
    least_is ys (least xs) (to (least xs) (least_reached xs some)) (λ k d l.
    let there = back (get_or ys k d) (Contains-get_or ys k d l) in
    let low : least xs ≤ get_or xs there.0 (get_or ys k d) = fold_min_at (get_or xs 0 0) xs there.0 (get_or ys k d) there.1 in
    subst (λ n. least xs ≤ n) there.2 low)

-- there is an order
some_order : (f : List ℕ → ℕ) (xs : List ℕ) → 0 < length (map f (orders xs))
some_order f xs = let e : length (map f (orders xs)) ≡ factorial (length xs) = length-map (orders xs) f ∙ length-orders xs in omega (arith, e, factorial_pos (length xs))

-- the cost of a route is that of one of its orders
pub route_cost-attained : (case : FareCase) (from : ℕ) (riders : List ℕ) → Contains (map (legs_along case from) (orders riders)) (route_cost case from riders)
route_cost-attained case from riders = least_reached (map (legs_along case from) (orders riders)) (some_order (legs_along case from) riders)

-- and not above that of any
pub route_cost-least : (case : FareCase) (from : ℕ) (riders : List ℕ) → All (λ sum. route_cost case from riders ≤ sum) (map (legs_along case from) (orders riders))
route_cost-least case from riders k d l =
    let sums = map (legs_along case from) (orders riders) in
    fold_min_at (get_or sums 0 0) sums k d l

-- however the riders are named, the route costs the same
pub route_cost-permutation : (case : FareCase) (from : ℕ) (xs ys : List ℕ) → IsPermutation xs ys → route_cost case from xs ≡ route_cost case from ys
route_cost-permutation case from xs ys p =
    same_least (map f (orders xs)) (map f (orders ys)) some (moved xs ys p) (moved ys xs (IsPermutation-sym xs ys p))
  where
    f : List ℕ → ℕ
    f = legs_along case from

    some : 0 < length (map f (orders xs))
    some = some_order f xs

    moved : (us vs : List ℕ) → IsPermutation us vs → (m : ℕ) → Contains (map f (orders us)) m → Contains (map f (orders vs)) m
    moved us vs p m c =
        let k = c.0 in
        let within : k < length (orders us) = subst (λ n. k < n) (length-map (orders us) f) c.1 in
        let zs = get_or (orders us) k [] in
        let perm : IsPermutation us zs = orders_permute us k [] within in
        let there = (listed_iff vs zs).1 (IsPermutation-trans vs us zs (IsPermutation-sym us vs p) perm) in (
          there.0,
          subst (λ n. there.0 < n) (sym (length-map (orders vs) f)) there.1,
          get_or-map f (orders vs) there.0 zs m there.1 ∙ ap f there.2 ∙ sym (get_or-map f (orders us) k [] m within) ∙ c.2,
        )

-- however its riders are named, a coalition costs the same
pub coalition_cost-permutation : (case : FareCase) (xs ys : List ℕ) → IsPermutation xs ys → coalition_cost case xs ≡ coalition_cost case ys
unfolding coalition_cost
coalition_cost-permutation case [] [] p = refl
coalition_cost-permutation case [] (y ∷ ys) p = absurd (let e = length_permutation [] (y ∷ ys) p in omega (arith, e))
coalition_cost-permutation case (x ∷ xs) [] p = absurd (let e = length_permutation (x ∷ xs) [] p in omega (arith, e))
coalition_cost-permutation case (x ∷ xs) (y ∷ ys) p = ap (λ n. case.facts.flag + n) (route_cost-permutation case 0 (x ∷ xs) (y ∷ ys) p)
