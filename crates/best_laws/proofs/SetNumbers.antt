-- The riders of a set, bit by bit from the lowest.
use Rattle.std.proofs.Common.{◌≡◌, ◌≢◌, ℕ, zero, suc, ◌+◌, ◌-◌, ◌*◌, ◌/◌, ◌%◌, ◌^◌, ◌<◌, ◌≤◌, ◌==◌, List, [], ◌∷◌, All, AllPairs, Contains, Bool, true, false, cond, arith, refl, sym, ap, ◌∙◌, subst, ⊎_elim}
use Rattle.std.specs.Int.{bit_at}
use Rattle.std.specs.List.{filter, range_with_len, sum_by}
use Rattle.std.specs.List.Sorted.{IsPermutation}
use Rattle.std.proofs.Math.Nat.{pow-suc}
use Rattle.std.proofs.lemmas.Bool.{cases_lt}
use Rattle.std.proofs.lemmas.Bool.Decides.{nat_tests}
use Rattle.std.proofs.lemmas.List.Elements.{All-nil, All-cons, All-head, All-tail, All-weaker}
use Rattle.std.proofs.lemmas.List.Sorted.{IsPermutation-refl, IsPermutation-sym, IsPermutation-trans, IsPermutation-cons, IsPermutation-middle, sum_by-IsPermutation, Contains-permutation}
use Rattle.std.proofs.lemmas.List.Sums.{sum_by-cons}
use Rattle.std.proofs.lemmas.Nat.{pow_pos, shr-shr}
use Rattle.bid_rules.specs.Coalitions.{has_rider, riders_in, set_number}
use Rattle.split_lemmas.proofs.DistinctOrders.{pairs_head, pairs_tail}

-- the riders from one on of a set of so many bits: the first where the number is odd, and the others by its half
abbrev pub riders_from : ℕ → ℕ → ℕ → List ℕ
riders_from zero a s = []
riders_from (suc n) a s = cond (s % 2 == 1) (a ∷ riders_from n (a + 1) (s / 2)) (riders_from n (a + 1) (s / 2))

-- the riders whose bits are set
bits_are : (n a set s : ℕ) → s ≡ set / 2 ^ a → filter (has_rider set) (range_with_len (a + 1) n) ≡ riders_from n (a + 1) s
bits_are zero a set s e = refl
bits_are (suc n) a set s e =
    let before : a + 1 - 1 ≡ a = omega arith in
    let test : bit_at set (a + 1 - 1) ≡ s % 2 = ap (bit_at set) before ∙ sym (ap (λ x. x % 2) e) in
    let half : s / 2 ≡ set / 2 ^ (a + 1) = ap (λ x. x / 2) e ∙ shr-shr set a 1 in
    let kept = filter (has_rider set) (range_with_len (a + 1 + 1) n) in
    ap (λ b. cond (b == 1) ((a + 1) ∷ kept) kept) test ∙ ap (λ xs. cond (s % 2 == 1) ((a + 1) ∷ xs) xs) (bits_are n (a + 1) set (s / 2) half)

-- the empty set
none_from : (n a s : ℕ) → s ≡ 0 → riders_from n a s ≡ []
none_from zero a s e = refl
none_from (suc n) a s e =
    let rest = riders_from n (a + 1) (s / 2) in
    let even : (s % 2 == 1) ≡ false = ap (λ x. x % 2 == 1) e in
    ap (λ b. cond b (a ∷ rest) rest) even ∙ none_from n (a + 1) (s / 2) (omega (arith, e))

-- a half has one bit less
half_small : (n s : ℕ) → s < 2 ^ suc n → s / 2 < 2 ^ n
half_small n s small = let twice : 2 ^ suc n ≡ 2 ^ n * 2 = pow-suc 2 n in omega (arith, small, twice)

-- bits above the highest change nothing
enough : (n k a s : ℕ) → n ≤ k → s < 2 ^ n → riders_from k a s ≡ riders_from n a s
enough zero k a s le small = none_from k a s (omega (arith, small))
enough (suc n) zero a s le small = absurd (omega (arith, le))
enough (suc n) (suc k) a s le small = ap (λ xs. cond (s % 2 == 1) (a ∷ xs) xs) (enough n k (a + 1) (s / 2) (omega (arith, le)) (half_small n s small))

-- a number has at most as many bits as it counts
pub self_small : (s : ℕ) → s < 2 ^ s
self_small zero = omega arith
self_small (suc s) = let twice : 2 ^ suc s ≡ 2 ^ s * 2 = pow-suc 2 s in omega (arith, twice, self_small s)

-- the riders of a set of n bits
pub riders_in-are : (n set : ℕ) → set < 2 ^ n → riders_in set ≡ riders_from n 1 set
unfolding riders_in
riders_in-are n set small =
    let whole : riders_in set ≡ riders_from set 1 set = bits_are set 0 set set (omega arith) in
    whole ∙ ⊎_elim (λ above. sym (enough set n 1 set (omega (arith, above)) (self_small set))) (λ within. enough n set 1 set within small) (cases_lt set n)

-- among the first n riders only
pub riders_in-first : (n set : ℕ) → set < 2 ^ n → filter (has_rider set) (range_with_len 1 n) ≡ riders_in set
riders_in-first n set small = bits_are n 0 set set (omega arith) ∙ sym (riders_in-are n set small)

-- a list rises strictly from a number on
abbrev pub RisesFrom : ℕ → List ℕ → Type 0
RisesFrom a [] = Unit {0}
RisesFrom a (x ∷ xs) = (a ≤ x) × RisesFrom (x + 1) xs

-- what rises from a number rises from a lower one
rises_weaker : (a b : ℕ) (xs : List ℕ) → a ≤ b → RisesFrom b xs → RisesFrom a xs
rises_weaker a b [] le h = tt
rises_weaker a b (x ∷ xs) le h = (omega (arith, le, h.0), h.1)

-- what holds of both lists holds of the one that the test takes
of_both : (P : List ℕ → Type 0) (b : Bool) (xs ys : List ℕ) → P xs → P ys → P (cond b xs ys)
of_both P true xs ys p q = p
of_both P false xs ys p q = q

-- the riders rise
pub riders_rise : (n a s : ℕ) → RisesFrom a (riders_from n a s)
riders_rise zero a s = tt
riders_rise (suc n) a s =
    let rest = riders_from n (a + 1) (s / 2) in
    let rises = riders_rise n (a + 1) (s / 2) in
    of_both (RisesFrom a) (s % 2 == 1) (a ∷ rest) rest (omega arith, rises) (rises_weaker a (a + 1) rest (omega arith) rises)

-- they are among the n from the first
pub riders_within : (n a s : ℕ) → All (λ r. (a ≤ r) × (r < a + n)) (riders_from n a s)
riders_within zero a s = All-nil (λ r. (a ≤ r) × (r < a + 0))
riders_within (suc n) a s =
    let P : ℕ → Type 0 = λ r. (a ≤ r) × (r < a + suc n) in
    let rest = riders_from n (a + 1) (s / 2) in
    let later : All P rest = All-weaker (λ r. (a + 1 ≤ r) × (r < a + 1 + n)) P (λ r h. (omega (arith, h.0), omega (arith, h.1))) rest (riders_within n (a + 1) (s / 2)) in
    of_both (All P) (s % 2 == 1) (a ∷ rest) rest (All-cons P a rest (omega arith, omega arith) later) later

-- the number of riders from one on
abbrev pub number_from : ℕ → List ℕ → ℕ
number_from a xs = sum_by (λ r. 2 ^ (r - a)) xs

-- one more rider adds a bit
number_from-cons : (a x : ℕ) (xs : List ℕ) → number_from a (x ∷ xs) ≡ 2 ^ (x - a) + number_from a xs
number_from-cons a x xs = sum_by-cons (λ r. 2 ^ (r - a)) x xs

-- a power of two is twice the one before
pub twice_power : (x a : ℕ) → a + 1 ≤ x → 2 ^ (x - a) ≡ 2 ^ (x - (a + 1)) * 2
twice_power x a le = let e : x - a ≡ suc (x - (a + 1)) = omega (arith, le) in ap (λ n. 2 ^ n) e ∙ pow-suc 2 (x - (a + 1))

-- without the lowest rider the number is even
number_even : (a b : ℕ) (xs : List ℕ) → a + 1 ≤ b → RisesFrom b xs → number_from a xs ≡ 2 * number_from (a + 1) xs
number_even a b [] le h = refl
number_even a b (x ∷ xs) le h =
    omega (arith, number_from-cons a x xs, number_from-cons (a + 1) x xs, twice_power x a (omega (arith, le, h.0)), number_even a (x + 1) xs (omega (arith, le, h.0)) h.1)

-- with it the number is odd
number_odd : (a : ℕ) (xs : List ℕ) → RisesFrom (a + 1) xs → number_from a (a ∷ xs) ≡ 1 + 2 * number_from (a + 1) xs
number_odd a xs h =
    let e : a - a ≡ 0 = omega arith in
    let one : 2 ^ (a - a) ≡ 1 = ap (λ n. 2 ^ n) e in
    omega (arith, number_from-cons a a xs, one, number_even a (a + 1) xs (omega arith) h)

-- the lowest bit is told by the test
number_by_parity : (a s : ℕ) (rest : List ℕ) (t : Bool) → (s % 2 == 1) ≡ t → RisesFrom (a + 1) rest → number_from (a + 1) rest ≡ s / 2 → number_from a (cond t (a ∷ rest) rest) ≡ s
number_by_parity a s rest true e rises half = let odd : s % 2 ≡ 1 = grind (arith, nat_tests) in omega (arith, odd, half, number_odd a rest rises)
number_by_parity a s rest false e rises half = let even : s % 2 ≢ 1 = grind (arith, nat_tests) in omega (arith, even, half, number_even a (a + 1) rest (omega arith) rises)

-- the riders of a number have that number
pub number_of_riders : (n a s : ℕ) → s < 2 ^ n → number_from a (riders_from n a s) ≡ s
number_of_riders zero a s small = omega (arith, small)
number_of_riders (suc n) a s small =
    number_by_parity a s (riders_from n (a + 1) (s / 2)) (s % 2 == 1) refl (riders_rise n (a + 1) (s / 2)) (number_of_riders n (a + 1) (s / 2) (half_small n s small))

-- n bits have a number below 2^n
number_small : (n a s : ℕ) → number_from a (riders_from n a s) < 2 ^ n
number_small zero a s = omega arith
number_small (suc n) a s =
    let rest = riders_from n (a + 1) (s / 2) in
    let rises = riders_rise n (a + 1) (s / 2) in
    let less = number_small n (a + 1) (s / 2) in
    let twice : 2 ^ suc n ≡ 2 ^ n * 2 = pow-suc 2 n in
    of_both (λ xs. number_from a xs < 2 ^ suc n) (s % 2 == 1) (a ∷ rest) rest
    (omega (arith, less, twice, number_odd a rest rises)) (omega (arith, less, twice, number_even a (a + 1) rest (omega arith) rises))

-- an even number has the riders of its half
even_step : (n a s h : ℕ) → s ≡ 2 * h → riders_from (suc n) a s ≡ riders_from n (a + 1) h
even_step n a s h e =
    let half : s / 2 ≡ h = omega (arith, e) in
    let even : (s % 2 == 1) ≡ false = grind (arith, nat_tests) in
    let rest = riders_from n (a + 1) (s / 2) in
    ap (λ b. cond b (a ∷ rest) rest) even ∙ ap (riders_from n (a + 1)) half

-- an odd one has the first rider besides
odd_step : (n a s h : ℕ) → s ≡ 1 + 2 * h → riders_from (suc n) a s ≡ a ∷ riders_from n (a + 1) h
odd_step n a s h e =
    let half : s / 2 ≡ h = omega (arith, e) in
    let odd : (s % 2 == 1) ≡ true = grind (arith, nat_tests) in
    let rest = riders_from n (a + 1) (s / 2) in
    ap (λ b. cond b (a ∷ rest) rest) odd ∙ ap (λ x. a ∷ riders_from n (a + 1) x) half

-- rising riders are those of their number
pub riders_of_number : (n a : ℕ) (xs : List ℕ) → RisesFrom a xs → number_from a xs < 2 ^ n → riders_from n a (number_from a xs) ≡ xs
riders_of_number zero a [] h small = refl
riders_of_number zero a (x ∷ xs) h small = absurd (omega (arith, small, number_from-cons a x xs, pow_pos (x - a)))
riders_of_number (suc n) a [] h small = none_from (suc n) a 0 refl
riders_of_number (suc n) a (x ∷ xs) h small =
    let all = x ∷ xs in
    let twice : 2 ^ suc n ≡ 2 ^ n * 2 = pow-suc 2 n in
    let later : a < x → riders_from (suc n) a (number_from a all) ≡ all = λ above.
    let rises : RisesFrom (a + 1) all = (omega (arith, above), h.1) in
    let e : number_from a all ≡ 2 * number_from (a + 1) all = number_even a (a + 1) all (omega arith) rises in
    even_step n a (number_from a all) (number_from (a + 1) all) e ∙ riders_of_number n (a + 1) all rises (omega (arith, small, twice, e)) in
    let first : x ≤ a → riders_from (suc n) a (number_from a all) ≡ all = λ low.
    let same : x ≡ a = omega (arith, low, h.0) in
    let rises : RisesFrom (a + 1) xs = subst (λ y. RisesFrom (y + 1) xs) same h.1 in
    let e : number_from a all ≡ 1 + 2 * number_from (a + 1) xs = ap (λ y. number_from a (y ∷ xs)) same ∙ number_odd a xs rises in
    odd_step n a (number_from a all) (number_from (a + 1) xs) e ∙ ap (λ ys. a ∷ ys) (riders_of_number n (a + 1) xs rises (omega (arith, small, twice, e))) ∙ ap (λ y. y ∷ xs) (sym same) in
    ⊎_elim later first (cases_lt a x)

-- a rider is one of a longer list
contains_cons : (y : ℕ) (xs : List ℕ) (x : ℕ) → Contains xs x → Contains (y ∷ xs) x
contains_cons y xs x c = (suc c.0, omega (arith, c.1), c.2)

-- a lone lowest rider
lowest_more : (n a x s : ℕ) → x ≡ a → (t : Bool) → (s % 2 == 1) ≡ t → (Contains (riders_from (suc n) a s) x → ⊥) → IsPermutation (x ∷ riders_from (suc n) a s) (riders_from (suc n) a (s + 2 ^ (x - a)))
lowest_more n a x s same true e absent =
    let whole : s ≡ 1 + 2 * (s / 2) = (let odd : s % 2 ≡ 1 = grind (arith, nat_tests) in omega (arith, odd)) in
    absurd (absent (subst (λ ys. Contains ys x) (sym (odd_step n a s (s / 2) whole)) (0, omega arith, sym same)))
lowest_more n a x s same false e absent =
    let whole : s ≡ 2 * (s / 2) = (let even : s % 2 ≢ 1 = grind (arith, nat_tests) in omega (arith, even)) in
    let none : x - a ≡ 0 = omega (arith, same) in
    let one : 2 ^ (x - a) ≡ 1 = ap (λ n. 2 ^ n) none in
    let rest = riders_from n (a + 1) (s / 2) in
    let before : riders_from (suc n) a s ≡ rest = even_step n a s (s / 2) whole in
    let after : riders_from (suc n) a (s + 2 ^ (x - a)) ≡ a ∷ rest = odd_step n a (s + 2 ^ (x - a)) (s / 2) (omega (arith, whole, one)) in
    let is : x ∷ riders_from (suc n) a s ≡ riders_from (suc n) a (s + 2 ^ (x - a)) = ap (λ ys. x ∷ ys) before ∙ ap (λ y. y ∷ rest) same ∙ sym after in
    subst (λ ys. IsPermutation (x ∷ riders_from (suc n) a s) ys) is (IsPermutation-refl (x ∷ riders_from (suc n) a s))

-- a higher rider is put in among the higher bits
higher_more : (n a x s : ℕ) → a + 1 ≤ x → (t : Bool) → (s % 2 == 1) ≡ t
    → ((Contains (riders_from n (a + 1) (s / 2)) x → ⊥) → IsPermutation (x ∷ riders_from n (a + 1) (s / 2)) (riders_from n (a + 1) (s / 2 + 2 ^ (x - (a + 1)))))
    → (Contains (riders_from (suc n) a s) x → ⊥) → IsPermutation (x ∷ riders_from (suc n) a s) (riders_from (suc n) a (s + 2 ^ (x - a)))
higher_more n a x s le true e more absent =
    let whole : s ≡ 1 + 2 * (s / 2) = (let odd : s % 2 ≡ 1 = grind (arith, nat_tests) in omega (arith, odd)) in
    let rest = riders_from n (a + 1) (s / 2) in
    let longer = riders_from n (a + 1) (s / 2 + 2 ^ (x - (a + 1))) in
    let before : riders_from (suc n) a s ≡ a ∷ rest = odd_step n a s (s / 2) whole in
    let after : riders_from (suc n) a (s + 2 ^ (x - a)) ≡ a ∷ longer = odd_step n a (s + 2 ^ (x - a)) (s / 2 + 2 ^ (x - (a + 1))) (omega (arith, whole, twice_power x a le)) in
    let step : IsPermutation (x ∷ rest) longer = more (λ c. absent (subst (λ ys. Contains ys x) (sym before) (contains_cons a rest x c))) in
    let turned : IsPermutation (x ∷ (a ∷ rest)) (a ∷ (x ∷ rest)) = IsPermutation-sym (a ∷ (x ∷ rest)) (x ∷ (a ∷ rest)) (IsPermutation-middle (a ∷ []) x rest) in
    let moved : IsPermutation (x ∷ (a ∷ rest)) (a ∷ longer) = IsPermutation-trans (x ∷ (a ∷ rest)) (a ∷ (x ∷ rest)) (a ∷ longer) turned (IsPermutation-cons a (x ∷ rest) longer step) in
    subst (λ ys. IsPermutation (x ∷ ys) (riders_from (suc n) a (s + 2 ^ (x - a)))) (sym before) (subst (λ ys. IsPermutation (x ∷ (a ∷ rest)) ys) (sym after) moved)
higher_more n a x s le false e more absent =
    let whole : s ≡ 2 * (s / 2) = (let even : s % 2 ≢ 1 = grind (arith, nat_tests) in omega (arith, even)) in
    let rest = riders_from n (a + 1) (s / 2) in
    let longer = riders_from n (a + 1) (s / 2 + 2 ^ (x - (a + 1))) in
    let before : riders_from (suc n) a s ≡ rest = even_step n a s (s / 2) whole in
    let after : riders_from (suc n) a (s + 2 ^ (x - a)) ≡ longer = even_step n a (s + 2 ^ (x - a)) (s / 2 + 2 ^ (x - (a + 1))) (omega (arith, whole, twice_power x a le)) in
    let step : IsPermutation (x ∷ rest) longer = more (λ c. absent (subst (λ ys. Contains ys x) (sym before) c)) in
    subst (λ ys. IsPermutation (x ∷ ys) (riders_from (suc n) a (s + 2 ^ (x - a)))) (sym before) (subst (λ ys. IsPermutation (x ∷ rest) ys) (sym after) step)

-- one more rider in a set
riders_more : (n a x s : ℕ) → a ≤ x → x < a + n → (Contains (riders_from n a s) x → ⊥) → IsPermutation (x ∷ riders_from n a s) (riders_from n a (s + 2 ^ (x - a)))
riders_more zero a x s low high absent = absurd (omega (arith, low, high))
riders_more (suc n) a x s low high absent =
    ⊎_elim
    (λ above. higher_more n a x s (omega (arith, above)) (s % 2 == 1) refl (riders_more n (a + 1) x (s / 2) (omega (arith, above)) (omega (arith, high))) absent)
    (λ below. lowest_more n a x s (omega (arith, low, below)) (s % 2 == 1) refl absent)
    (cases_lt a x)

-- riders in any order are in another order those of the set of their number
pub permuted : (n : ℕ) (xs : List ℕ) → AllPairs ◌≢◌ xs → All (λ r. (1 ≤ r) × (r ≤ n)) xs → IsPermutation xs (riders_from n 1 (number_from 1 xs))
permuted n [] differ within = subst (λ ys. IsPermutation [] ys) (sym (none_from n 1 0 refl)) (IsPermutation-refl [])
permuted n (x ∷ xs) differ within =
    let P : ℕ → Type 0 = λ r. (1 ≤ r) × (r ≤ n) in
    let s = number_from 1 xs in
    let others = riders_from n 1 s in
    let before : IsPermutation xs others = permuted n xs (pairs_tail ◌≢◌ x xs differ) (All-tail P x xs within) in
    let absent : Contains others x → ⊥ = λ c.
    let inside : Contains xs x = Contains-permutation others xs x (IsPermutation-sym xs others before) c in
    pairs_head ◌≢◌ x xs differ inside.0 x inside.1 (sym inside.2) in
    let one = All-head P x xs within in
    let more : IsPermutation (x ∷ others) (riders_from n 1 (s + 2 ^ (x - 1))) = riders_more n 1 x s one.0 (omega (arith, one.1)) absent in
    let number : number_from 1 (x ∷ xs) ≡ s + 2 ^ (x - 1) = omega (arith, number_from-cons 1 x xs) in
    subst (λ m. IsPermutation (x ∷ xs) (riders_from n 1 m)) (sym number)
    (IsPermutation-trans (x ∷ xs) (x ∷ others) (riders_from n 1 (s + 2 ^ (x - 1))) (IsPermutation-cons x xs others before) more)

-- the number of riders of 1 to n is below 2^n
pub number_within : (n : ℕ) (xs : List ℕ) → AllPairs ◌≢◌ xs → All (λ r. (1 ≤ r) × (r ≤ n)) xs → set_number xs < 2 ^ n
number_within n xs differ within =
    let s = number_from 1 xs in
    subst (λ m. m < 2 ^ n) (sum_by-IsPermutation (λ r. 2 ^ (r - 1)) xs (riders_from n 1 s) (permuted n xs differ within)) (number_small n 1 s)
