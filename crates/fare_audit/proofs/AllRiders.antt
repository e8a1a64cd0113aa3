-- The group of all riders.
use Rattle.std.proofs.Common.{◌≡◌, ℕ, zero, suc, pos, ◌+◌, ◌-◌, ◌^◌, ◌≤◌, ◌<ℤ◌, ◌-ℤ◌, ◌*ℤ◌, List, [], ◌∷◌, length, get_or, map, IsTrue, arith, refl, ap, ◌∙◌, sym, subst}
use Rattle.std.specs.Int.{is_positive}
use Rattle.std.specs.List.{range_with_len}
use Rattle.std.proofs.lemmas.Int.{ints}
use Rattle.std.proofs.lemmas.List.FromFn.{length-range_with_len}
use Rattle.bid_rules.specs.declared.cases.FareCase.{FareCase}
use Rattle.bid_rules.specs.Coalitions.{riders_in}
use Rattle.bid_rules.specs.Fares.{FareBest, coalition_cost, riders_of}
use Rattle.bid_rules.specs.Fractions.{Fraction, IsQuotient, sum_of_fractions}
use Rattle.split_lemmas.proofs.SignedProducts.{times_one}
use Rattle.split_lemmas.proofs.Zipped.{length-AllZip}
use Rattle.fare_audit.specs.Excesses.{excess_of, fare_of, group_count, less_whole, overpays}
use Rattle.fare_audit.proofs.WholeParts.{less_quotient, over_is, same_sign}

-- functions that agree on a range
same_map : {X : Type 0} (f g : ℕ → X) (a n : ℕ) → ((i : ℕ) → a ≤ i → f i ≡ g i) → map f (range_with_len a n) ≡ map g (range_with_len a n)
same_map f g a zero same = refl
same_map {X} f g a (suc n) same =
    ap (λ (x : X). x ∷ map f (range_with_len (a + 1) n)) (same a (omega arith)) ∙ ap (λ (xs : List X). g a ∷ xs) (same_map f g (a + 1) n (λ i low. same i (omega arith)))

-- the elements in turn are the list
listed : {X : Type 0} (d : X) (xs : List X) (a : ℕ) → map (λ i. get_or xs (i - a) d) (range_with_len a (length xs)) ≡ xs
listed d [] a = refl
listed {X} d (x ∷ xs) a =
    let none : a - a ≡ 0 = omega arith in
    let first : get_or (x ∷ xs) (a - a) d ≡ x = ap (λ n. get_or (x ∷ xs) n d) none in
    let rest : map (λ i. get_or (x ∷ xs) (i - a) d) (range_with_len (a + 1) (length xs)) ≡ map (λ i. get_or xs (i - (a + 1)) d) (range_with_len (a + 1) (length xs)) =
    same_map (λ i. get_or (x ∷ xs) (i - a) d) (λ i. get_or xs (i - (a + 1)) d) (a + 1) (length xs)
    (λ i low. let e : i - a ≡ suc (i - (a + 1)) = omega arith in ap (λ n. get_or (x ∷ xs) n d) e) in
    ap (λ (y : X). y ∷ map (λ i. get_or (x ∷ xs) (i - a) d) (range_with_len (a + 1) (length xs))) first ∙ ap (λ (ys : List X). x ∷ ys) (rest ∙ listed d xs (a + 1))

-- the fares of all riders in turn are the fares
pub all_fares : (fares : List Fraction) (n : ℕ) → length fares ≡ n → map (fare_of fares) (range_with_len 1 n) ≡ fares
all_fares fares n count = ap (λ m. map (fare_of fares) (range_with_len 1 m)) (sym count) ∙ listed (pos 0, 1) fares 1

-- what they pay together is the cost of all
pub all_pay : ((m : ℕ) → riders_in (2 ^ m - 1) ≡ range_with_len 1 m) → (case : FareCase) (fares : List Fraction) (route : List ℕ) → FareBest case fares route
    → IsQuotient (sum_of_fractions fares) (pos (coalition_cost case (riders_of case))) 1 → IsQuotient (excess_of case fares (group_count case)) (pos 0) 1
all_pay all case fares route best total =
    let n = length case.at.items in
    let count : length fares ≡ n = length-AllZip _ (riders_of case) fares best.mean ∙ length-range_with_len 1 n in
    let cost = coalition_cost case (riders_of case) in
    let none : pos cost -ℤ pos cost *ℤ pos 1 ≡ pos 0 = (let once = times_one (pos cost) in omega (arith, ints, once)) in
    let less : IsQuotient (less_whole (sum_of_fractions fares) cost) (pos 0) 1 =
    subst (λ z. IsQuotient (less_whole (sum_of_fractions fares) cost) z 1) none (less_quotient (sum_of_fractions fares) (pos cost) cost 1 total) in
    let same : excess_of case fares (group_count case) ≡ less_whole (sum_of_fractions fares) cost =
    ap (λ (riders : List ℕ). less_whole (sum_of_fractions (map (fare_of fares) riders)) (coalition_cost case riders)) (all n) ∙ ap (λ (fs : List Fraction). less_whole (sum_of_fractions fs) cost) (all_fares fares n count) in
    subst (λ (f : Fraction). IsQuotient f (pos 0) 1) (sym same) less

-- 0 is not above 0
not_zero : IsTrue (is_positive (pos 0)) → ⊥
not_zero h = let low : pos 0 <ℤ pos 0 = over_is (pos 0) h in omega (arith, ints, low)

pub all_pay_none : (case : FareCase) (fares : List Fraction) → IsQuotient (excess_of case fares (group_count case)) (pos 0) 1 → IsTrue (overpays case fares (group_count case)) → ⊥
all_pay_none case fares none over =
    let same : is_positive (excess_of case fares (group_count case)).0 ≡ is_positive (pos 0) = same_sign (excess_of case fares (group_count case)) (pos 0) 1 (omega arith) none in
    not_zero (subst IsTrue same over)
