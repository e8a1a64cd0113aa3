-- Sums over lists that change at one place.
use Rattle.std.proofs.Common.{◌≡◌, ◌≢◌, ℕ, zero, suc, ◌+◌, ◌*◌, ◌<◌, ◌≤◌, List, [], ◌∷◌, ◌++◌, AllPairs, Contains, length, get_or, set, sym, refl, ap, ◌∙◌, arith, cond, ◌==◌, ⊎_elim}
use Rattle.std.specs.List.{range_with_len, sum_by}
use Rattle.std.proofs.lemmas.Bool.{cases_eq}
use Rattle.std.proofs.lemmas.Bool.Decides.{nat_tests}
use Rattle.std.proofs.lemmas.List.Sums.{sum_by-append, sum_by-cons}
use Rattle.split_lemmas.proofs.RangeSteps.{sum_more}
use mathlib.Core.Option.{some, some-injective, some-ne-none}
use mathlib.Core.Logic.{dite}
use native.Mathlib.Decide.{dec_le}
use lib.ListN.{get_elem?}

module _ {A : Type 0} (g : A → ℕ) where
  -- a list without entries weighs nothing
  pub sum_none : sum_by g [] ≡ 0
  sum_none = refl

  -- one entry weighs what it weighs
  pub sum_one : (x : A) → sum_by g (x ∷ []) ≡ g x
  sum_one x = let c : sum_by g (x ∷ []) ≡ g x + sum_by g [] = sum_by-cons g x [] in let n = sum_none in omega arith

  -- one entry more at the end
  pub sum_last : (xs : List A) (x : A) → sum_by g (xs ++ x ∷ []) ≡ sum_by g xs + g x
  sum_last xs x = let a : sum_by g (xs ++ x ∷ []) ≡ sum_by g xs + sum_by g (x ∷ []) = sum_by-append g xs (x ∷ []) in let b = sum_one x in omega arith

  -- another entry at one place
  pub sum_set : (xs : List A) (j : ℕ) (v w : A) → get_elem? xs j ≡ some v → sum_by g (set xs j w) + g v ≡ sum_by g xs + g w
  sum_set [] j v w e = absurd (some-ne-none v (sym e))
  sum_set (x ∷ xs) zero v w e =
      let a : sum_by g (w ∷ xs) ≡ g w + sum_by g xs = sum_by-cons g w xs in
      let b : sum_by g (x ∷ xs) ≡ g x + sum_by g xs = sum_by-cons g x xs in
      let c : g x ≡ g v = ap g (some-injective x v e) in
      omega arith
  sum_set (x ∷ xs) (suc j) v w e =
      let a : sum_by g (x ∷ set xs j w) ≡ g x + sum_by g (set xs j w) = sum_by-cons g x (set xs j w) in
      let b : sum_by g (x ∷ xs) ≡ g x + sum_by g xs = sum_by-cons g x xs in
      let rest = sum_set xs j v w e in
      omega arith

  -- an entry weighs no more than all
  pub entry_le : (xs : List A) (j : ℕ) (v : A) → get_elem? xs j ≡ some v → g v ≤ sum_by g xs
  entry_le [] j v e = absurd (some-ne-none v (sym e))
  entry_le (x ∷ xs) zero v e =
      let b : sum_by g (x ∷ xs) ≡ g x + sum_by g xs = sum_by-cons g x xs in
      let c : g x ≡ g v = ap g (some-injective x v e) in
      omega arith
  entry_le (x ∷ xs) (suc j) v e =
      let b : sum_by g (x ∷ xs) ≡ g x + sum_by g xs = sum_by-cons g x xs in
      let rest = entry_le xs j v e in
      omega arith

  -- the same of an entry by its place
  pub place_le : (xs : List A) (k : ℕ) (d : A) → k < length xs → g (get_or xs k d) ≤ sum_by g xs
  place_le [] k d h = absurd (omega arith)
  place_le (x ∷ xs) zero d h = let b : sum_by g (x ∷ xs) ≡ g x + sum_by g xs = sum_by-cons g x xs in omega arith
  place_le (x ∷ xs) (suc k) d h =
      let b : sum_by g (x ∷ xs) ≡ g x + sum_by g xs = sum_by-cons g x xs in
      let rest = place_le xs k d (omega arith) in
      omega arith

  -- two entries weigh no more than all
  pub two_le : (xs : List A) (i j : ℕ) (v w : A) → i ≢ j → get_elem? xs i ≡ some v → get_elem? xs j ≡ some w → g v + g w ≤ sum_by g xs
  two_le [] i j v w apart at there = absurd (some-ne-none v (sym at))
  two_le (x ∷ xs) zero zero v w apart at there = absurd (apart refl)
  two_le (x ∷ xs) zero (suc j) v w apart at there =
      let b : sum_by g (x ∷ xs) ≡ g x + sum_by g xs = sum_by-cons g x xs in
      let c : g x ≡ g v = ap g (some-injective x v at) in
      let rest = entry_le xs j w there in
      omega arith
  two_le (x ∷ xs) (suc i) zero v w apart at there =
      let b : sum_by g (x ∷ xs) ≡ g x + sum_by g xs = sum_by-cons g x xs in
      let c : g x ≡ g w = ap g (some-injective x w there) in
      let rest = entry_le xs i v at in
      omega arith
  two_le (x ∷ xs) (suc i) (suc j) v w apart at there =
      let b : sum_by g (x ∷ xs) ≡ g x + sum_by g xs = sum_by-cons g x xs in
      let rest = two_le xs i j v w (λ e. apart (ap suc e)) at there in
      omega arith

  -- where all weigh something, an entry does
  pub some_entry : (xs : List A) → 1 ≤ sum_by g xs → (i : ℕ) × (v : A) × (get_elem? xs i ≡ some v) × (1 ≤ g v)
  some_entry [] h = absurd (omega arith)
  some_entry (x ∷ xs) h =
      let b : sum_by g (x ∷ xs) ≡ g x + sum_by g xs = sum_by-cons g x xs in
      dite (dec_le 1 (g x)) (λ yes. (zero, x, refl, yes)) (λ no. let rest = some_entry xs (omega (arith, b, no, h)) in (suc rest.0, rest.1, rest.2, rest.3))

-- a bound on each term is one on the sum
pub sum_le : {A : Type 0} (f g : A → ℕ) (k : ℕ) (xs : List A) → ((i : ℕ) (v : A) → get_elem? xs i ≡ some v → f v ≤ k * g v) → sum_by f xs ≤ k * sum_by g xs
sum_le f g k [] h = omega arith
sum_le f g k (x ∷ xs) h =
    let a : sum_by f (x ∷ xs) ≡ f x + sum_by f xs = sum_by-cons f x xs in
    let b : sum_by g (x ∷ xs) ≡ g x + sum_by g xs = sum_by-cons g x xs in
    let here = h zero x refl in
    let rest = sum_le f g k xs (λ i v e. h (suc i) v e) in
    rw (a, b) (grind (arith, here, rest))

-- terms that are the same sum to the same
pub sum_same : {A : Type 0} (f g : A → ℕ) (xs : List A) → ((i : ℕ) (v : A) → get_elem? xs i ≡ some v → f v ≡ g v) → sum_by f xs ≡ sum_by g xs
sum_same f g [] h = refl
sum_same f g (x ∷ xs) h =
    let a : sum_by f (x ∷ xs) ≡ f x + sum_by f xs = sum_by-cons f x xs in
    let b : sum_by g (x ∷ xs) ≡ g x + sum_by g xs = sum_by-cons g x xs in
    let here = h zero x refl in
    let rest = sum_same f g xs (λ i v e. h (suc i) v e) in
    omega arith

-- each entry counted once gives the length
pub sum_length : {A : Type 0} (xs : List A) → sum_by (λ _. 1) xs ≡ length xs
sum_length [] = refl
sum_length (x ∷ xs) = let a : sum_by (λ _. 1) (x ∷ xs) ≡ 1 + sum_by (λ _. 1) xs = sum_by-cons (λ _. 1) x xs in let rest = sum_length xs in omega arith

-- the weight of the numbers below one more
pub below_more : (f : ℕ → ℕ) (n : ℕ) → sum_by f (range_with_len 0 (n + 1)) ≡ sum_by f (range_with_len 0 n) + f n
below_more f n = let e : 0 + n ≡ n = omega arith in sum_more f 0 n ∙ ap (λ k. sum_by f (range_with_len 0 n) + f k) e

-- the same, counted from the other side
below_next : (f : ℕ → ℕ) (n : ℕ) → sum_by f (range_with_len 0 (suc n)) ≡ sum_by f (range_with_len 0 n) + f n
below_next f n = let e : suc n ≡ n + 1 = omega arith in ap (λ m. sum_by f (range_with_len 0 m)) e ∙ below_more f n

-- there are n numbers below n
pub below_count : (n : ℕ) → sum_by (λ _. 1) (range_with_len 0 n) ≡ n
below_count zero = refl
below_count (suc n) = let more = below_next (λ _. 1) n in let rest = below_count n in omega arith

-- 1 at one number, and 0 at all others
abbrev pub only : ℕ → ℕ → ℕ
only k x = cond (x == k) 1 0

-- the number itself counts
pub only_same : (k : ℕ) → only k k ≡ 1
only_same k = grind (arith, nat_tests)

-- another does not
pub only_other : (k x : ℕ) → (x ≡ k → ⊥) → only k x ≡ 0
only_other k x ne = grind (arith, nat_tests)

-- a number is none of those below it
pub below_not : (k n : ℕ) → n ≤ k → sum_by (only k) (range_with_len 0 n) ≡ 0
below_not k zero h = refl
below_not k (suc n) h =
    let more = below_next (only k) n in
    let here = only_other k n (λ same. omega (arith, same, h)) in
    let rest = below_not k n (omega (arith, h)) in
    omega (arith, more, here, rest)

-- a number is one of those below a greater one
pub below_yes : (k n : ℕ) → k < n → 1 ≤ sum_by (only k) (range_with_len 0 n)
below_yes k zero h = absurd (omega arith)
below_yes k (suc n) h =
    let more = below_next (only k) n in
    ⊎_elim
    (λ same. let here : only k n ≡ 1 = ap (only k) same ∙ only_same k in omega (arith, more, here))
    (λ ne. let rest = below_yes k n (omega (arith, h, ne)) in omega (arith, more, rest))
    (cases_eq n k)

-- a number is once among those below another, or not at all
pub below_once : (k n : ℕ) → sum_by (only k) (range_with_len 0 n) ≤ 1
below_once k zero = let none = below_not k zero (omega arith) in omega (arith, none)
below_once k (suc n) =
    let more = below_next (only k) n in
    ⊎_elim
    (λ same. let here : only k n ≡ 1 = ap (only k) same ∙ only_same k in let none = below_not k n (omega (arith, same)) in omega (arith, more, here, none))
    (λ ne. let here = only_other k n ne in let rest = below_once k n in omega (arith, more, here, rest))
    (cases_eq n k)

-- what is counted is in the list
pub stands_in : (k : ℕ) (xs : List ℕ) → 1 ≤ sum_by (only k) xs → Contains xs k
stands_in k [] h = absurd (omega arith)
stands_in k (x ∷ xs) h = ⊎_elim
    (λ e. (0, omega arith, e))
    (λ ne.
    let count : sum_by (only k) (x ∷ xs) ≡ only k x + sum_by (only k) xs = sum_by-cons (only k) x xs in
    let none : only k x ≡ 0 = only_other k x ne in
    let rest = stands_in k xs (omega (arith, count, none, h)) in
    (suc rest.0, (let l = rest.1 in omega arith), rest.2))
    (cases_eq x k)

-- what is in a list is counted
pub counted_once : (k : ℕ) (xs : List ℕ) → Contains xs k → 1 ≤ sum_by (only k) xs
counted_once k xs there =
    let le = place_le (only k) xs there.0 k there.1 in
    let one = ap (only k) there.2 ∙ only_same k in
    omega (arith, le, one)

-- a number that is at two places is counted twice
twice : (k : ℕ) (xs : List ℕ) (i j d : ℕ) → i < j → j < length xs → get_or xs i d ≡ k → get_or xs j d ≡ k → 2 ≤ sum_by (only k) xs
twice k [] i j d l m a b = absurd (omega arith)
twice k (x ∷ xs) i zero d l m a b = absurd (omega (arith, l))
twice k (x ∷ xs) zero (suc j) d l m a b =
    let count : sum_by (only k) (x ∷ xs) ≡ only k x + sum_by (only k) xs = sum_by-cons (only k) x xs in
    let first : only k x ≡ 1 = ap (only k) a ∙ only_same k in
    let le = place_le (only k) xs j d (omega (arith, m)) in
    let second : only k (get_or xs j d) ≡ 1 = ap (only k) b ∙ only_same k in
    omega (arith, count, first, le, second)
twice k (x ∷ xs) (suc i) (suc j) d l m a b =
    let count : sum_by (only k) (x ∷ xs) ≡ only k x + sum_by (only k) xs = sum_by-cons (only k) x xs in
    let rest = twice k xs i j d (omega (arith, l)) (omega (arith, m)) a b in
    omega (arith, count, rest)

-- so numbers that are counted once at most differ
pub each_once : (xs : List ℕ) → ((k : ℕ) → sum_by (only k) xs ≤ 1) → AllPairs ◌≢◌ xs
each_once xs once i j d l m same =
    let both = twice (get_or xs j d) xs i j d l m same refl in
    let most = once (get_or xs j d) in
    omega (arith, both, most)
