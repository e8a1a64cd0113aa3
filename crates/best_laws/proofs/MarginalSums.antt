-- The recurrence of the sums of marginal costs: who comes last.
use Rattle.std.proofs.Common.{◌≡◌, ◌≢◌, ℕ, ℤ, pos, ◌-ℤ◌, ◌*ℤ◌, ◌+◌, ◌<◌, ◌==◌, List, [], ◌∷◌, ◌++◌, length, Bool, true, false, cond, not, arith, refl, sym, ap, ◌∙◌}
use Rattle.std.specs.List.{sum_by}
use Rattle.std.specs.List.Sorted.{IsPermutation}
use Rattle.std.proofs.lemmas.Bool.{eqb-true, eqb-false}
use Rattle.std.proofs.lemmas.List.Sorted.{IsPermutation-to_front, IsPermutation-sym, IsPermutation-trans, IsPermutation-cons, sum_by-IsPermutation}
use Rattle.std.proofs.lemmas.List.Sums.{sum_by-cons, take_while-cons}
use Rattle.bid_rules.specs.declared.cases.FareCase.{FareCase}
use Rattle.bid_rules.specs.Fares.{coalition_cost, marginal_cost, riders_before}
use Rattle.bid_rules.specs.Orders.{factorial, orders}
use Rattle.bid_rules.specs.Sums.{total}
use Rattle.split_lemmas.proofs.Counts.{mark, mark_same, mark_other, HasNoRepeat}
use Rattle.best_laws.proofs.MarginalCosts.{marginal_cost-after}
use Rattle.split_lemmas.proofs.OrderLaws.{length-orders, orders_permute}
use Rattle.best_laws.proofs.RouteLaws.{coalition_cost-permutation}
use Rattle.split_lemmas.proofs.SignedSums.{total-each}
use Rattle.best_laws.proofs.Parts.{parts}
use Rattle.best_laws.specs.MarginalSums.{marginal_sum}
use Rattle.best_laws.proofs.LastRiders.{lasts, parts_permute, total_all}

-- who comes after a rider does not count
before_in : (rider : ℕ) (first rest : List ℕ) → 0 < sum_by (mark rider) first → riders_before rider (first ++ rest) ≡ riders_before rider first
before_in rider [] rest some = absurd (omega arith)
before_in rider (one ∷ first) rest some =
    take_while-cons (λ other. not (other == rider)) one (first ++ rest) ∙ by (one == rider) refl (before_in rider first rest) ∙ sym (take_while-cons (λ other. not (other == rider)) one first)
  where
    by : (b : Bool) → (one == rider) ≡ b → (0 < sum_by (mark rider) first → riders_before rider (first ++ rest) ≡ riders_before rider first)
        → cond (not b) (one ∷ riders_before rider (first ++ rest)) [] ≡ cond (not b) (one ∷ riders_before rider first) []
    by true e more = refl
    by false e more =
        let other : one ≢ rider = eqb-false one rider e in
        ap (λ xs. one ∷ xs) (more (omega (arith, some, sum_by-cons (mark rider) one first, mark_other rider one other)))

-- so neither does it for a marginal cost
margin_in : (case : FareCase) (rider : ℕ) (first rest : List ℕ) → 0 < sum_by (mark rider) first → marginal_cost case rider (first ++ rest) ≡ marginal_cost case rider first
unfolding marginal_cost
margin_in case rider first rest some = ap (λ xs. pos (coalition_cost case (xs ++ rider ∷ [])) -ℤ pos (coalition_cost case xs)) (before_in rider first rest some)

-- what a part adds: where the rider comes last, what it adds to the others, in each of their orders; else its sum over their orders
abbrev pub part_sum : FareCase → ℕ → List ℕ → ℕ × List ℕ → ℤ
part_sum case rider xs p = cond (p.0 == rider) ((pos (coalition_cost case xs) -ℤ pos (coalition_cost case p.1)) *ℤ pos (factorial (length p.1))) (marginal_sum case rider p.1)

-- the orders in which one rider comes last give its part
one_part : (case : FareCase) (rider : ℕ) (xs : List ℕ) (p : ℕ × List ℕ) → sum_by (mark rider) xs ≡ 1 → IsPermutation xs (p.0 ∷ p.1)
    → total (λ zs. marginal_cost case rider (zs ++ p.0 ∷ [])) (orders p.1) ≡ part_sum case rider xs p
one_part case rider xs p one perm = by (p.0 == rider) refl
  where
    counted : mark rider p.0 + sum_by (mark rider) p.1 ≡ 1
    counted = sym (sum_by-cons (mark rider) p.0 p.1) ∙ sum_by-IsPermutation (mark rider) xs (p.0 ∷ p.1) perm ∙ one

    last : p.0 ≡ rider → (zs : List ℕ) → IsPermutation p.1 zs → marginal_cost case rider (zs ++ p.0 ∷ []) ≡ pos (coalition_cost case xs) -ℤ pos (coalition_cost case p.1)
    last e zs q =
        let own : mark rider p.0 ≡ 1 = ap (mark rider) e ∙ mark_same rider in
        let none : sum_by (mark rider) zs ≡ 0 = omega (arith, counted, own, sum_by-IsPermutation (mark rider) p.1 zs q) in
        let after = marginal_cost-after case rider zs [] none in
        let whole : IsPermutation xs (zs ++ p.0 ∷ []) = IsPermutation-trans xs (p.0 ∷ zs) (zs ++ p.0 ∷ []) (IsPermutation-trans xs (p.0 ∷ p.1) (p.0 ∷ zs) perm (IsPermutation-cons p.0 p.1 zs q)) (IsPermutation-sym (zs ++ p.0 ∷ []) (p.0 ∷ zs) (IsPermutation-to_front zs p.0)) in
        let all : coalition_cost case (zs ++ rider ∷ []) ≡ coalition_cost case xs = ap (λ r. coalition_cost case (zs ++ r ∷ [])) (sym e) ∙ sym (coalition_cost-permutation case xs (zs ++ p.0 ∷ []) whole) in
        let others : coalition_cost case zs ≡ coalition_cost case p.1 = sym (coalition_cost-permutation case p.1 zs q) in
        ap (λ r. marginal_cost case rider (zs ++ r ∷ [])) e ∙ after ∙ ap (λ c. pos c -ℤ pos (coalition_cost case zs)) all ∙ ap (λ c. pos (coalition_cost case xs) -ℤ pos c) others

    by : (b : Bool) → (p.0 == rider) ≡ b → total (λ zs. marginal_cost case rider (zs ++ p.0 ∷ [])) (orders p.1)
        ≡ cond b ((pos (coalition_cost case xs) -ℤ pos (coalition_cost case p.1)) *ℤ pos (factorial (length p.1))) (marginal_sum case rider p.1)
    by true e =
        total-each (λ (zs : List ℕ). marginal_cost case rider (zs ++ p.0 ∷ [])) (pos (coalition_cost case xs) -ℤ pos (coalition_cost case p.1)) (orders p.1)
        (λ k d l. last (eqb-true p.0 rider e) _ (orders_permute p.1 k d l))
        ∙ ap (λ n. (pos (coalition_cost case xs) -ℤ pos (coalition_cost case p.1)) *ℤ pos n) (length-orders p.1)
    by false e =
        total_all (IsPermutation p.1) (λ zs. marginal_cost case rider (zs ++ p.0 ∷ [])) (marginal_cost case rider) (orders p.1) (orders_permute p.1)
        (λ zs q. let other : mark rider p.0 ≡ 0 = mark_other rider p.0 (eqb-false p.0 rider e) in
        margin_in case rider zs (p.0 ∷ []) (omega (arith, counted, other, sum_by-IsPermutation (mark rider) p.1 zs q)))

-- the recurrence over the parts of a list
pub margin_parts : (case : FareCase) (rider : ℕ) (xs : List ℕ) → HasNoRepeat xs → sum_by (mark rider) xs ≡ 1 → marginal_sum case rider xs ≡ total (part_sum case rider xs) (parts xs)
margin_parts case rider [] once one = absurd (omega (arith, one))
margin_parts case rider (x ∷ xs) once one =
    lasts (marginal_cost case rider) x xs once
    ∙ total_all (λ (p : ℕ × List ℕ). IsPermutation (x ∷ xs) (p.0 ∷ p.1)) (λ p. total (λ zs. marginal_cost case rider (zs ++ p.0 ∷ [])) (orders p.1)) (part_sum case rider (x ∷ xs)) (parts (x ∷ xs)) (parts_permute (x ∷ xs))
    (λ p h. one_part case rider (x ∷ xs) p one h)
