-- How large the cost of a route, of a coalition and a marginal cost may be.
use Rattle.std.proofs.Common.{◌≡◌, ℕ, zero, suc, ℤ, ◌+◌, ◌*◌, ◌<◌, ◌≤◌, ◌==◌, List, [], ◌∷◌, ◌++◌, length, get_or, All, Contains, true, false, not, cond, Bool, unsigned_abs, arith, refl, sym, subst}
use Rattle.std.specs.List.Sorted.{IsPermutation}
use Rattle.std.proofs.lemmas.Int.{ints}
use Rattle.std.proofs.lemmas.Bool.{eqb-false}
use Rattle.std.proofs.lemmas.List.{get_or-map, length-append, length-map}
use Rattle.std.proofs.lemmas.List.Elements.{All-head, All-tail, All-weaker}
use Rattle.std.proofs.lemmas.List.Sorted.{Contains-permutation, length_permutation}
use Rattle.std.proofs.lemmas.List.Sums.{take_while-cons}
use Rattle.bid_rules.specs.declared.cases.FareCase.{FareCase}
use Rattle.bid_rules.specs.Facts.{leg}
use Rattle.bid_rules.specs.Fares.{coalition_cost, legs_along, marginal_cost, place_of, riders_before, route_cost}
use Rattle.bid_rules.specs.Orders.{factorial, orders}
use Rattle.bid_rules.specs.Sums.{total}
use Rattle.bid_rules.specs.declared.limits.TheConstants.{MOST_FARE_CENTS}
use Rattle.split_lemmas.proofs.OrderLaws.{factorial_pos, length-orders, orders_permute}
use Rattle.best_laws.specs.MarginalSums.{marginal_sum}
use Rattle.best_laws.proofs.RouteLaws.{route_cost-least}

-- no leg of the case is above the limit
abbrev pub HasSmallLegs : FareCase → Type 0
HasSmallLegs case = (from to : ℕ) → leg case.facts from to ≤ MOST_FARE_CENTS

-- a sum of legs is at most the limit a rider
legs_small : (case : FareCase) → HasSmallLegs case → (from : ℕ) (riders : List ℕ) → legs_along case from riders ≤ MOST_FARE_CENTS * length riders
legs_small case small from [] = omega arith
legs_small case small from (rider ∷ riders) = omega (arith, small from (place_of case rider), legs_small case small (place_of case rider) riders)

-- so is the cost of a route
pub route_small : (case : FareCase) → HasSmallLegs case → (from : ℕ) (riders : List ℕ) → route_cost case from riders ≤ MOST_FARE_CENTS * length riders
route_small case small from riders =
    let some : 0 < length (orders riders) = omega (arith, length-orders riders, factorial_pos (length riders)) in
    let order : List ℕ = get_or (orders riders) 0 [] in
    let low = route_cost-least case from riders 0 0 (omega (arith, some, length-map (orders riders) (legs_along case from))) in
    let at = get_or-map (legs_along case from) (orders riders) 0 [] 0 some in
    let long : length riders ≡ length order = sym (length_permutation riders order (orders_permute riders 0 [] some)) in
    omega (arith, low, at, long, legs_small case small from order)

-- the cost of some riders is the flag fall and the cost of their route
pub coalition_cost-some : (case : FareCase) (riders : List ℕ) → 0 < length riders → coalition_cost case riders ≡ case.facts.flag + route_cost case 0 riders
unfolding coalition_cost
coalition_cost-some case [] h = absurd (omega arith)
coalition_cost-some case (rider ∷ riders) h = refl

-- so a coalition costs at most the limit once more
pub coalition_small : (case : FareCase) → HasSmallLegs case → case.facts.flag ≤ MOST_FARE_CENTS → (riders : List ℕ) → coalition_cost case riders ≤ MOST_FARE_CENTS * (length riders + 1)
unfolding coalition_cost
coalition_small case small flag [] = omega arith
coalition_small case small flag (rider ∷ riders) = omega (arith, flag, route_small case small 0 (rider ∷ riders))

-- the riders before one of an order are fewer than all
before_fewer : (rider : ℕ) (order : List ℕ) → Contains order rider → length (riders_before rider order) < length order
before_fewer rider [] (k, l, e) = absurd (omega arith)
before_fewer rider (one ∷ order) (k, l, e) =
    subst (λ xs. length xs < suc (length order)) (sym (take_while-cons (λ other. not (other == rider)) one order)) (by (one == rider) refl (λ c. before_fewer rider order c))
  where
    later : (k : ℕ) → k < length (one ∷ order) → get_or (one ∷ order) k rider ≡ rider → (one == rider) ≡ false → Contains order rider
    later zero l e apart = absurd (eqb-false one rider apart e)
    later (suc k) l e apart = (k, omega arith, e)

    by : (b : Bool) → (one == rider) ≡ b → (Contains order rider → length (riders_before rider order) < length order) → length (cond (not b) (one ∷ riders_before rider order) []) < suc (length order)
    by true here rest = omega arith
    by false apart rest = let fewer = rest (later k l e apart) in omega (arith, fewer)

-- what bounds the costs of all coalitions of an order's riders bounds a rider's marginal cost
pub marginal_small : (case : FareCase) → ((riders : List ℕ) → coalition_cost case riders ≤ MOST_FARE_CENTS * (length riders + 1)) → (rider : ℕ) (order : List ℕ) → Contains order rider
    → unsigned_abs (marginal_cost case rider order) ≤ MOST_FARE_CENTS * (length order + 1)
unfolding marginal_cost
marginal_small case small rider order there =
    let before : List ℕ = riders_before rider order in
    let fewer = before_fewer rider order there in
    let long = length-append before (rider ∷ []) in
    omega (arith, ints, fewer, long, small before, small (before ++ rider ∷ []))

-- and a sum of as many numbers as orders
total_small : (f : List ℕ → ℤ) (limit : ℕ) (xs : List (List ℕ)) → All (λ x. unsigned_abs (f x) ≤ limit) xs → unsigned_abs (total f xs) ≤ limit * length xs
total_small f limit [] h = omega (arith, ints)
total_small f limit (x ∷ xs) h =
    let first : unsigned_abs (f x) ≤ limit = All-head (λ x. unsigned_abs (f x) ≤ limit) x xs h in
    let rest = total_small f limit xs (All-tail (λ x. unsigned_abs (f x) ≤ limit) x xs h) in
    let next : limit * suc (length xs) ≡ limit * length xs + limit = omega arith in
    omega (arith, ints, first, rest, next)

-- the sum over all orders
pub marginal_sum_small : (case : FareCase) → ((riders : List ℕ) → coalition_cost case riders ≤ MOST_FARE_CENTS * (length riders + 1)) → (rider : ℕ) (riders : List ℕ) → Contains riders rider
    → unsigned_abs (marginal_sum case rider riders) ≤ MOST_FARE_CENTS * (length riders + 1) * factorial (length riders)
marginal_sum_small case small rider riders there =
    subst (λ n. unsigned_abs (marginal_sum case rider riders) ≤ MOST_FARE_CENTS * (length riders + 1) * n) (length-orders riders)
    (total_small (marginal_cost case rider) (MOST_FARE_CENTS * (length riders + 1)) (orders riders)
    (All-weaker (IsPermutation riders) (λ order. unsigned_abs (marginal_cost case rider order) ≤ MOST_FARE_CENTS * (length riders + 1))
    (λ order p. subst (λ n. unsigned_abs (marginal_cost case rider order) ≤ MOST_FARE_CENTS * (n + 1)) (length_permutation riders order p)
    (marginal_small case small rider order (Contains-permutation riders order rider p there)))
    (orders riders) (orders_permute riders)))
