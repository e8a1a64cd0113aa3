-- The marginal costs of all riders in an order sum to the cost of all.
use Rattle.std.proofs.Common.{◌≡◌, ℕ, pos, ◌+◌, ◌-ℤ◌, ◌*ℤ◌, List, [], ◌∷◌, ◌++◌, length, All, true, false, cond, not, ◌==◌, arith, refl, sym, ap, ◌∙◌, subst, append_assoc}
use Rattle.std.specs.List.{sum_by}
use Rattle.std.specs.List.Sorted.{IsPermutation}
use Rattle.std.proofs.lemmas.Int.{ints}
use Rattle.std.proofs.lemmas.Bool.Decides.{nat_tests}
use Rattle.std.proofs.lemmas.List.{append-nil}
use Rattle.std.proofs.lemmas.List.Elements.{All-weaker}
use Rattle.std.proofs.lemmas.List.FromFn.{length-range_with_len}
use Rattle.std.proofs.lemmas.List.Sums.{sum_by-cons, sum_by-append, take_while-cons}
use Rattle.bid_rules.specs.declared.cases.FareCase.{FareCase}
use Rattle.bid_rules.specs.Fares.{FareBest, coalition_cost, marginal_cost, riders_before, riders_of, sum_of_marginal_costs}
use Rattle.bid_rules.specs.Fractions.{Fraction, IsQuotient, sum_of_fractions}
use Rattle.bid_rules.specs.Orders.{orders, factorial}
use Rattle.split_lemmas.proofs.Counts.{mark, HasNoRepeat, mark_same, no_repeat-permutation, no_repeat-range}
use Rattle.split_lemmas.proofs.FractionLaws.{sum_of_quotients, quotient_whole}
use Rattle.split_lemmas.proofs.OrderLaws.{orders_permute, length-orders, factorial_pos}
use Rattle.best_laws.proofs.RouteLaws.{coalition_cost-permutation}
use Rattle.split_lemmas.proofs.SignedSums.{total_is, total-same, total-exchange, total-each, total-permutation}
use Rattle.bid_rules.specs.Sums.{total}

-- a rider who is not among the first comes after all of them
pub before_is : (rider : ℕ) (first rest : List ℕ) → sum_by (mark rider) first ≡ 0 → riders_before rider (first ++ rider ∷ rest) ≡ first
before_is rider [] rest none =
    let stops : not (rider == rider) ≡ false = grind (arith, nat_tests) in
    take_while-cons (λ other. not (other == rider)) rider rest ∙ ap (λ b. cond b (rider ∷ riders_before rider rest) []) stops
before_is rider (one ∷ first) rest none =
    let count : sum_by (mark rider) (one ∷ first) ≡ mark rider one + sum_by (mark rider) first = sum_by-cons (mark rider) one first in
    let others : sum_by (mark rider) first ≡ 0 = omega (arith, count, none) in
    let unmarked : mark rider one ≡ 0 = omega (arith, count, none) in
    let passes : not (one == rider) ≡ true = grind (arith, nat_tests, unmarked) in
    take_while-cons (λ other. not (other == rider)) one (first ++ rider ∷ rest)
    ∙ ap (λ b. cond b (one ∷ riders_before rider (first ++ rider ∷ rest)) []) passes
    ∙ ap (λ zs. one ∷ zs) (before_is rider first rest others)

-- the marginal cost of a rider who comes after the first
pub marginal_cost-after : (case : FareCase) (rider : ℕ) (first rest : List ℕ) → sum_by (mark rider) first ≡ 0
    → marginal_cost case rider (first ++ rider ∷ rest) ≡ pos (coalition_cost case (first ++ rider ∷ [])) -ℤ pos (coalition_cost case first)
unfolding marginal_cost
marginal_cost-after case rider first rest none =
    ap (λ riders. pos (coalition_cost case (riders ++ rider ∷ [])) -ℤ pos (coalition_cost case riders)) (before_is rider first rest none)

-- the marginal costs of those who come after the first sum to what they add
added : (case : FareCase) (first rest : List ℕ) → HasNoRepeat (first ++ rest)
    → total (λ rider. marginal_cost case rider (first ++ rest)) rest ≡ pos (coalition_cost case (first ++ rest)) -ℤ pos (coalition_cost case first)
added case first [] once = let e = ap (coalition_cost case) (append-nil first) in omega (arith, ints, e)
added case first (rider ∷ rest) once =
    let joined : (first ++ rider ∷ []) ++ rest ≡ first ++ rider ∷ rest = append_assoc first (rider ∷ []) rest in
    let split : sum_by (mark rider) (first ++ rider ∷ rest) ≡ sum_by (mark rider) first + sum_by (mark rider) (rider ∷ rest) = sum_by-append (mark rider) first (rider ∷ rest) in
    let count : sum_by (mark rider) (rider ∷ rest) ≡ mark rider rider + sum_by (mark rider) rest = sum_by-cons (mark rider) rider rest in
    let own : mark rider rider ≡ 1 = mark_same rider in
    let none : sum_by (mark rider) first ≡ 0 = omega (arith, once rider, split, count, own) in
    let here = marginal_cost-after case rider first rest none in
    let there : total (λ r. marginal_cost case r (first ++ rider ∷ rest)) rest ≡ pos (coalition_cost case (first ++ rider ∷ rest)) -ℤ pos (coalition_cost case (first ++ rider ∷ [])) =
    subst (λ order. total (λ r. marginal_cost case r order) rest ≡ pos (coalition_cost case order) -ℤ pos (coalition_cost case (first ++ rider ∷ []))) joined
    (added case (first ++ rider ∷ []) rest (subst HasNoRepeat (sym joined) once)) in
    omega (arith, ints, here, there)

-- nobody costs nothing
coalition_cost-none : (case : FareCase) → coalition_cost case [] ≡ 0
unfolding coalition_cost
coalition_cost-none case = refl

-- the marginal costs in one order sum to the cost of all its riders
in_order : (case : FareCase) (order : List ℕ) → HasNoRepeat order → total (λ rider. marginal_cost case rider order) order ≡ pos (coalition_cost case order)
in_order case order once = let h = added case [] order once in let none = coalition_cost-none case in omega (arith, ints, h, none)

-- in each order of riders, the marginal costs sum to the cost of all
in_each_order : (case : FareCase) (riders : List ℕ) → HasNoRepeat riders → All (λ order. total (λ rider. marginal_cost case rider order) riders ≡ pos (coalition_cost case riders)) (orders riders)
in_each_order case riders once = All-weaker (IsPermutation riders) (λ order. total (λ rider. marginal_cost case rider order) riders ≡ pos (coalition_cost case riders))
    (λ order p.
    sym (total-permutation (λ rider. marginal_cost case rider order) riders order p)
    ∙ in_order case order (no_repeat-permutation riders order p once)
    ∙ ap pos (sym (coalition_cost-permutation case riders order p)))
    (orders riders) (orders_permute riders)

-- over all orders they sum to n! times the cost of all
in_all_orders : (case : FareCase) → total (sum_of_marginal_costs case) (riders_of case) ≡ pos (coalition_cost case (riders_of case)) *ℤ pos (factorial (length case.at.items))
in_all_orders case =
    let riders = riders_of case in
    let count : length (orders riders) ≡ factorial (length case.at.items) = length-orders riders ∙ ap factorial (length-range_with_len 1 (length case.at.items)) in
    total-same (sum_of_marginal_costs case) (λ rider. total (marginal_cost case rider) (orders riders)) (λ rider. total_is (marginal_cost case rider) (orders riders)) riders
    ∙ total-exchange (marginal_cost case) riders (orders riders)
    ∙ total-each (λ order. total (λ rider. marginal_cost case rider order) riders) (pos (coalition_cost case riders)) (orders riders)
    (in_each_order case riders (no_repeat-range 1 (length case.at.items)))
    ∙ ap (λ n. pos (coalition_cost case riders) *ℤ pos n) count

-- best fares sum to the cost of all riders
pub total_fare : (case : FareCase) (fares : List Fraction) (route : List ℕ) → FareBest case fares route → IsQuotient (sum_of_fractions fares) (pos (coalition_cost case (riders_of case))) 1
total_fare case fares route best =
    let n = factorial (length case.at.items) in
    quotient_whole (sum_of_fractions fares) (pos (coalition_cost case (riders_of case))) n (factorial_pos (length case.at.items))
    (subst (λ whole. IsQuotient (sum_of_fractions fares) whole n) (in_all_orders case) (sum_of_quotients (sum_of_marginal_costs case) n (riders_of case) fares best.mean))
