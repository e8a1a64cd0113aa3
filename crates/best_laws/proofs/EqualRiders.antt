-- Two riders to one place have equal sums of marginal costs.
use Rattle.std.proofs.Common.{◌≡◌, ◌≢◌, ℕ, pos, ◌+◌, ◌-◌, ◌<◌, ◌-ℤ◌, List, [], ◌∷◌, ◌++◌, length, map, get_or, AllPairs, Contains, Bool, true, false, cond, not, ◌==◌, arith, refl, sym, ap, ◌∙◌, subst, ⊎_elim}
use Rattle.std.specs.List.{sum_by}
use Rattle.std.specs.List.Sorted.{IsPermutation}
use Rattle.std.proofs.lemmas.Bool.{cases_eq}
use Rattle.std.proofs.lemmas.Bool.Decides.{nat_tests}
use Rattle.std.proofs.lemmas.List.{map-append}
use Rattle.std.proofs.lemmas.List.FromFn.{length-range_with_len, get_or-range_with_len}
use Rattle.std.proofs.lemmas.List.Sums.{sum_by-cons, get_or-le-sum_by, take_while-cons}
use Rattle.bid_rules.specs.declared.cases.FareCase.{FareCase}
use Rattle.bid_rules.specs.Facts.{leg}
use Rattle.bid_rules.specs.Fares.{FareBest, coalition_cost, least, legs_along, marginal_cost, place_of, riders_before, riders_of, sum_of_marginal_costs}
use Rattle.bid_rules.specs.Fractions.{Fraction, HasSameValue, IsQuotient}
use Rattle.bid_rules.specs.Orders.{orders, factorial}
use Rattle.split_lemmas.proofs.CompleteOrders.{complete, listed_iff}
use Rattle.split_lemmas.proofs.Counts.{mark, mark_same, mark_other, no_repeat-range}
use Rattle.split_lemmas.proofs.FractionLaws.{same_value}
use Rattle.split_lemmas.proofs.OrderLaws.{factorial_pos}
use Rattle.split_lemmas.proofs.RenamedOrders.{orders-map, orders-permutation}
use Rattle.split_lemmas.proofs.SignedSums.{total_is, total-same, total-map, total-permutation}
use Rattle.bid_rules.specs.Sums.{total}
use Rattle.split_lemmas.proofs.Zipped.{AllZip-get_or}

-- each of two riders named as the other
abbrev exchanged : ℕ → ℕ → ℕ → ℕ
exchanged a b rider = cond (rider == a) b (cond (rider == b) a rider)

-- the first is named as the second
exchanged-first : (a b : ℕ) → exchanged a b a ≡ b
exchanged-first a b = grind (arith, nat_tests)

-- the second is named as the first
exchanged-second : (a b : ℕ) → exchanged a b b ≡ a
exchanged-second a b = ⊎_elim (λ (e : b ≡ a). grind (arith, nat_tests)) (λ (other : b ≢ a). grind (arith, nat_tests)) (cases_eq b a)

-- others keep their names
exchanged-other : (a b rider : ℕ) → rider ≢ a → rider ≢ b → exchanged a b rider ≡ rider
exchanged-other a b rider x y = grind (arith, nat_tests)

-- what holds of every rider, by the three cases
by_name : (P : ℕ → Type 0) (a b rider : ℕ) → P a → P b → (rider ≢ a → rider ≢ b → P rider) → P rider
by_name P a b rider at_a at_b at_other = ⊎_elim
    (λ (e : rider ≡ a). subst P (sym e) at_a)
    (λ (x : rider ≢ a). ⊎_elim (λ (e : rider ≡ b). subst P (sym e) at_b) (λ (y : rider ≢ b). at_other x y) (cases_eq rider b))
    (cases_eq rider a)

-- exchanged twice
exchanged-twice : (a b rider : ℕ) → exchanged a b (exchanged a b rider) ≡ rider
exchanged-twice a b rider = by_name (λ r. exchanged a b (exchanged a b r) ≡ r) a b rider
    (ap (exchanged a b) (exchanged-first a b) ∙ exchanged-second a b)
    (ap (exchanged a b) (exchanged-second a b) ∙ exchanged-first a b)
    (λ x y. ap (exchanged a b) (exchanged-other a b rider x y) ∙ exchanged-other a b rider x y)

-- who is named as the second is the first
is_second : (a b rider : ℕ) → (exchanged a b rider == b) ≡ (rider == a)
is_second a b rider = ⊎_elim
    (λ (e : rider ≡ a). let named : exchanged a b rider ≡ b = ap (exchanged a b) e ∙ exchanged-first a b in grind (arith, nat_tests))
    (λ (other : rider ≢ a).
    let named : exchanged a b rider ≢ b = λ e. other (sym (exchanged-twice a b rider) ∙ ap (exchanged a b) e ∙ exchanged-second a b) in
    grind (arith, nat_tests))
    (cases_eq rider a)

-- a number comes among the exchanged as often as the one that it names comes among the riders
mark-exchanged : (a b c rider : ℕ) → mark c (exchanged a b rider) ≡ mark (exchanged a b c) rider
mark-exchanged a b c rider = ⊎_elim
    (λ (e : exchanged a b rider ≡ c).
    let back : rider ≡ exchanged a b c = sym (exchanged-twice a b rider) ∙ ap (exchanged a b) e in
    ap (mark c) e ∙ mark_same c ∙ sym (ap (mark (exchanged a b c)) back ∙ mark_same (exchanged a b c)))
    (λ (other : exchanged a b rider ≢ c).
    let apart : rider ≢ exchanged a b c = λ e. other (ap (exchanged a b) e ∙ exchanged-twice a b c) in
    mark_other c (exchanged a b rider) other ∙ sym (mark_other (exchanged a b c) rider apart))
    (cases_eq (exchanged a b rider) c)

-- and so in whole lists
counts-exchanged : (a b c : ℕ) (riders : List ℕ) → sum_by (mark c) (map (exchanged a b) riders) ≡ sum_by (mark (exchanged a b c)) riders
counts-exchanged a b c [] = refl
counts-exchanged a b c (rider ∷ riders) =
    let one : sum_by (mark c) (map (exchanged a b) (rider ∷ riders)) ≡ mark c (exchanged a b rider) + sum_by (mark c) (map (exchanged a b) riders) =
    sum_by-cons (mark c) (exchanged a b rider) (map (exchanged a b) riders) in
    let other : sum_by (mark (exchanged a b c)) (rider ∷ riders) ≡ mark (exchanged a b c) rider + sum_by (mark (exchanged a b c)) riders = sum_by-cons (mark (exchanged a b c)) rider riders in
    one ∙ ap (λ n. n + sum_by (mark c) (map (exchanged a b) riders)) (mark-exchanged a b c rider)
    ∙ ap (λ n. mark (exchanged a b c) rider + n) (counts-exchanged a b c riders) ∙ sym other

-- where both come as often, the exchanged riders are the same riders
exchanged-permutation : (a b : ℕ) (riders : List ℕ) → sum_by (mark a) riders ≡ sum_by (mark b) riders → IsPermutation riders (map (exchanged a b) riders)
exchanged-permutation a b riders same = (listed_iff riders (map (exchanged a b) riders)).0 (complete riders (map (exchanged a b) riders)
    (λ c. sym (counts-exchanged a b c riders ∙ by_name (λ n. sum_by (mark (exchanged a b n)) riders ≡ sum_by (mark n) riders) a b c
    (ap (λ n. sum_by (mark n) riders) (exchanged-first a b) ∙ sym same)
    (ap (λ n. sum_by (mark n) riders) (exchanged-second a b) ∙ same)
    (λ x y. ap (λ n. sum_by (mark n) riders) (exchanged-other a b c x y)))))

-- riders named as others at the same places
abbrev KeepsPlaces : FareCase → (ℕ → ℕ) → Type 0
KeepsPlaces case name = (rider : ℕ) → place_of case (name rider) ≡ place_of case rider

-- make the same legs
legs_along-renamed : (case : FareCase) (name : ℕ → ℕ) (from : ℕ) (order : List ℕ) → KeepsPlaces case name → legs_along case from (map name order) ≡ legs_along case from order
legs_along-renamed case name from [] keeps = refl
legs_along-renamed case name from (rider ∷ order) keeps =
    ap (λ place. leg case.facts from place + legs_along case place (map name order)) (keeps rider)
    ∙ ap (λ n. leg case.facts from (place_of case rider) + n) (legs_along-renamed case name (place_of case rider) order keeps)

-- in each of some orders
all_legs-renamed : (case : FareCase) (name : ℕ → ℕ) (from : ℕ) (lists : List (List ℕ)) → KeepsPlaces case name → map (legs_along case from) (map (map name) lists) ≡ map (legs_along case from) lists
all_legs-renamed case name from [] keeps = refl
all_legs-renamed case name from (order ∷ lists) keeps =
    ap (λ n. n ∷ map (legs_along case from) (map (map name) lists)) (legs_along-renamed case name from order keeps)
    ∙ ap (λ sums. legs_along case from order ∷ sums) (all_legs-renamed case name from lists keeps)

-- cost the same as a coalition
coalition_cost-renamed : (case : FareCase) (name : ℕ → ℕ) (riders : List ℕ) → KeepsPlaces case name → coalition_cost case (map name riders) ≡ coalition_cost case riders
unfolding coalition_cost
coalition_cost-renamed case name [] keeps = refl
coalition_cost-renamed case name (rider ∷ riders) keeps =
    ap (λ sums. case.facts.flag + least sums)
    (ap (map (legs_along case 0)) (orders-map name (rider ∷ riders)) ∙ all_legs-renamed case name 0 (orders (rider ∷ riders)) keeps)

-- a choice of two lists, renamed
map-cond : (f : ℕ → ℕ) (test : Bool) (xs ys : List ℕ) → cond test (map f xs) (map f ys) ≡ map f (cond test xs ys)
map-cond f true xs ys = refl
map-cond f false xs ys = refl

-- the riders before the second in an exchanged order are those before the first
riders_before-exchanged : (a b : ℕ) (order : List ℕ) → riders_before b (map (exchanged a b) order) ≡ map (exchanged a b) (riders_before a order)
riders_before-exchanged a b [] = refl
riders_before-exchanged a b (rider ∷ order) =
    take_while-cons (λ other. not (other == b)) (exchanged a b rider) (map (exchanged a b) order)
    ∙ ap (λ test. cond (not test) (exchanged a b rider ∷ riders_before b (map (exchanged a b) order)) []) (is_second a b rider)
    ∙ ap (λ zs. cond (not (rider == a)) (exchanged a b rider ∷ zs) []) (riders_before-exchanged a b order)
    ∙ map-cond (exchanged a b) (not (rider == a)) (rider ∷ riders_before a order) []
    ∙ ap (map (exchanged a b)) (sym (take_while-cons (λ other. not (other == a)) rider order))

-- the second's marginal cost in an exchanged order is the first's in the order
marginal_cost-exchanged : (case : FareCase) (a b : ℕ) (order : List ℕ) → KeepsPlaces case (exchanged a b) → marginal_cost case a order ≡ marginal_cost case b (map (exchanged a b) order)
unfolding marginal_cost
marginal_cost-exchanged case a b order keeps =
    let before : List ℕ = riders_before a order in
    let with_one : coalition_cost case (map (exchanged a b) before ++ b ∷ []) ≡ coalition_cost case (before ++ a ∷ []) =
    ap (λ r. coalition_cost case (map (exchanged a b) before ++ r ∷ [])) (sym (exchanged-first a b))
    ∙ ap (coalition_cost case) (sym (map-append (exchanged a b) before (a ∷ [])))
    ∙ coalition_cost-renamed case (exchanged a b) (before ++ a ∷ []) keeps in
    let without : coalition_cost case (map (exchanged a b) before) ≡ coalition_cost case before = coalition_cost-renamed case (exchanged a b) before keeps in
    sym (ap (λ riders. pos (coalition_cost case (riders ++ b ∷ [])) -ℤ pos (coalition_cost case riders)) (riders_before-exchanged a b order)
    ∙ ap (λ n. pos n -ℤ pos (coalition_cost case (map (exchanged a b) before))) with_one
    ∙ ap (λ n. pos (coalition_cost case (before ++ a ∷ [])) -ℤ pos n) without)

-- what is in a list is counted
counted : (x : ℕ) (xs : List ℕ) → Contains xs x → 0 < sum_by (mark x) xs
counted x xs c =
    let own : mark x (get_or xs c.0 x) ≡ 1 = ap (mark x) c.2 ∙ mark_same x in
    omega (arith, own, get_or-le-sum_by (mark x) xs c.0 x c.1)

-- the riders differ
riders_differ : (case : FareCase) → AllPairs ◌≢◌ (riders_of case)
riders_differ case i j d l m same =
    let n = length case.at.items in
    let room : j < n = subst (λ k. j < k) (length-range_with_len 1 n) m in
    let first = get_or-range_with_len 1 n i d (omega arith) in
    let second = get_or-range_with_len 1 n j d room in
    omega (arith, first, second, same)

-- two riders to one place have equal sums of marginal costs
equal_sums : (case : FareCase) (a b : ℕ) → Contains (riders_of case) a → Contains (riders_of case) b → place_of case a ≡ place_of case b → sum_of_marginal_costs case a ≡ sum_of_marginal_costs case b
equal_sums case a b in_a in_b same =
    let riders = riders_of case in
    let n = length case.at.items in
    let keeps : KeepsPlaces case (exchanged a b) = λ rider. by_name (λ r. place_of case (exchanged a b r) ≡ place_of case r) a b rider
    (ap (place_of case) (exchanged-first a b) ∙ sym same)
    (ap (place_of case) (exchanged-second a b) ∙ same)
    (λ x y. ap (place_of case) (exchanged-other a b rider x y)) in
    let once : sum_by (mark a) riders ≡ sum_by (mark b) riders = omega (arith, counted a riders in_a, counted b riders in_b, no_repeat-range 1 n a, no_repeat-range 1 n b) in
    let perm : IsPermutation riders (map (exchanged a b) riders) = exchanged-permutation a b riders once in
    total_is (marginal_cost case a) (orders riders)
    ∙ total-same (marginal_cost case a) (λ order. marginal_cost case b (map (exchanged a b) order)) (λ order. marginal_cost-exchanged case a b order keeps) (orders riders)
    ∙ sym (total-map (marginal_cost case b) (map (exchanged a b)) (orders riders))
    ∙ ap (total (marginal_cost case b)) (sym (orders-map (exchanged a b) riders))
    ∙ total-permutation (marginal_cost case b) (orders riders) (orders (map (exchanged a b) riders)) (orders-permutation riders (map (exchanged a b) riders) (riders_differ case) perm)
    ∙ sym (total_is (marginal_cost case b) (orders riders))

-- in best fares, riders to one place pay the same
pub same_place : (case : FareCase) (fares : List Fraction) (route : List ℕ) (i j : ℕ) (d : Fraction) → FareBest case fares route → i < length case.at.items → j < length case.at.items
    → get_or case.at.items i 0 ≡ get_or case.at.items j 0 → HasSameValue (get_or fares i d) (get_or fares j d)
same_place case fares route i j d best l m same =
    same_value (get_or fares i d) (get_or fares j d) (sum_of_marginal_costs case (1 + j)) k (factorial_pos n)
    (subst (λ whole. IsQuotient (get_or fares i d) whole k) (equal_sums case (1 + i) (1 + j) (rider i l) (rider j m) places) (quotient i l))
    (quotient j m)
  where
    n : ℕ
    n = length case.at.items

    k : ℕ
    k = factorial (length case.at.items)

    at : (i : ℕ) → i < n → get_or (riders_of case) i (1 + i) ≡ 1 + i
    at i l = get_or-range_with_len 1 n i (1 + i) l

    within : (i : ℕ) → i < n → i < length (riders_of case)
    within i l = subst (λ m. i < m) (sym (length-range_with_len 1 n)) l

    rider : (i : ℕ) → i < n → Contains (riders_of case) (1 + i)
    rider i l = (i, within i l, at i l)

    quotient : (i : ℕ) → i < n → IsQuotient (get_or fares i d) (sum_of_marginal_costs case (1 + i)) k
    quotient i l = subst (λ r. IsQuotient (get_or fares i d) (sum_of_marginal_costs case r) k) (at i l)
        (AllZip-get_or (λ r fare. IsQuotient fare (sum_of_marginal_costs case r) k) (riders_of case) fares i (1 + i) d (within i l) best.mean)

    places : place_of case (1 + i) ≡ place_of case (1 + j)
    places = let x : 1 + i - 1 ≡ i = omega arith in let y : 1 + j - 1 ≡ j = omega arith in
        ap (λ p. get_or case.at.items p 0) x ∙ same ∙ sym (ap (λ p. get_or case.at.items p 0) y)
