-- Sums of signed numbers over ranges.
use Rattle.std.proofs.Common.{◌≡◌, ℕ, ℤ, pos, suc, zero, ◌+◌, ◌-◌, ◌<◌, ◌≤◌, ◌+ℤ◌, ◌-ℤ◌, ◌*ℤ◌, ◌≤ℤ◌, List, [], ◌∷◌, ◌++◌, length, get_or, arith, refl, sym, ap, ◌∙◌, ⊎_elim}
use Rattle.std.specs.List.{range_with_len}
use Rattle.std.proofs.lemmas.Int.{ints}
use Rattle.std.proofs.Math.IntN.{suc_ℤ-*ℤ, zero-*ℤ, *ℤ-zero}
use Rattle.std.proofs.lemmas.Bool.{cases_eq, cases_lt}
use Rattle.bid_rules.specs.Sums.{total}
use Rattle.split_lemmas.proofs.Multiples.{multiple_sum}
use Rattle.split_lemmas.proofs.RangeSteps.{range_next}

-- the sum of differences
pub total-sub : {X : Type 0} (f g : X → ℤ) (xs : List X) → total (λ x. f x -ℤ g x) xs ≡ total f xs -ℤ total g xs
total-sub f g [] = refl
total-sub f g (x ∷ xs) = let h = total-sub f g xs in omega (arith, ints, h)

-- the sum of multiples
pub total-times : {X : Type 0} (k : ℕ) (f : X → ℤ) (xs : List X) → total (λ x. pos k *ℤ f x) xs ≡ pos k *ℤ total f xs
total-times k f [] = sym (*ℤ-zero (pos k))
total-times k f (x ∷ xs) = let h = total-times k f xs in ap (λ z. pos k *ℤ f x +ℤ z) h ∙ sym (multiple_sum k (f x) (total f xs))

-- the sum of one number, so many times
pub total-const : (z : ℤ) (a n : ℕ) → total (λ (i : ℕ). z) (range_with_len a n) ≡ pos n *ℤ z
total-const z a zero = sym (zero-*ℤ z)
total-const z a (suc n) = let h = total-const z (a + 1) n in omega (arith, ints, h, suc_ℤ-*ℤ (pos n) z)

-- a sum of lower numbers is lower
pub total-le : (f g : ℕ → ℤ) (a n : ℕ) → ((i : ℕ) → a ≤ i → i < a + n → f i ≤ℤ g i) → total f (range_with_len a n) ≤ℤ total g (range_with_len a n)
total-le f g a zero h = omega (arith, ints)
total-le f g a (suc n) h =
    let first = h a (omega arith) (omega arith) in
    let rest = total-le f g (a + 1) n (λ i l m. h i (omega arith) (omega arith)) in
    omega (arith, ints)

-- a sum of equal numbers is equal
pub total-same_range : (f g : ℕ → ℤ) (a n : ℕ) → ((i : ℕ) → a ≤ i → i < a + n → f i ≡ g i) → total f (range_with_len a n) ≡ total g (range_with_len a n)
total-same_range f g a zero h = refl
total-same_range f g a (suc n) h =
    let first = h a (omega arith) (omega arith) in
    let rest = total-same_range f g (a + 1) n (λ i l m. h i (omega arith) (omega arith)) in
    omega (arith, ints)

-- where the sums are equal, each part is
pub each_same : (f g : ℕ → ℤ) (a n : ℕ) → ((i : ℕ) → a ≤ i → i < a + n → f i ≤ℤ g i) → total g (range_with_len a n) ≤ℤ total f (range_with_len a n) → (i : ℕ) → a ≤ i → i < a + n → f i ≡ g i
each_same f g a zero h e i l m = absurd (omega arith)
each_same f g a (suc n) h e i l m =
    let first = h a (omega arith) (omega arith) in
    let below : (i : ℕ) → a + 1 ≤ i → i < a + 1 + n → f i ≤ℤ g i = λ i l m. h i (omega arith) (omega arith) in
    let rest = total-le f g (a + 1) n below in
    ⊎_elim
    (λ (x : i ≡ a). let here : f a ≡ g a = omega (arith, ints) in ap f x ∙ here ∙ ap g (sym x))
    (λ (x : i ≡ a → ⊥). each_same f g (a + 1) n below (omega (arith, ints)) i (⊎_elim (λ (y : i < a + 1). absurd (x (omega arith))) (λ y. y) (cases_lt i (a + 1))) (omega arith))
    (cases_eq i a)

-- a sum over a list by its places
pub total-places : {X : Type 0} (f : X → ℤ) (d : X) (xs : List X) (a : ℕ) → total (λ i. f (get_or xs (i - a) d)) (range_with_len a (length xs)) ≡ total f xs
total-places f d [] a = refl
total-places {X} f d (x ∷ xs) a =
    let none : a - a ≡ 0 = omega arith in
    let first : f (get_or (x ∷ xs) (a - a) d) ≡ f x = ap (λ n. f (get_or (x ∷ xs) n d)) none in
    let shift : total (λ i. f (get_or (x ∷ xs) (i - a) d)) (range_with_len (a + 1) (length xs)) ≡ total (λ i. f (get_or xs (i - (a + 1)) d)) (range_with_len (a + 1) (length xs)) =
    total-same_range (λ i. f (get_or (x ∷ xs) (i - a) d)) (λ i. f (get_or xs (i - (a + 1)) d)) (a + 1) (length xs)
    (λ i l m. let e : i - a ≡ suc (i - (a + 1)) = omega arith in ap (λ n. f (get_or (x ∷ xs) n d)) e) in
    let rest = total-places f d xs (a + 1) in
    omega (arith, ints, first, shift, rest)

-- a sum over two lists, one after the other
total-append : {X : Type 0} (f : X → ℤ) (xs ys : List X) → total f (xs ++ ys) ≡ total f xs +ℤ total f ys
total-append f [] ys = omega (arith, ints)
total-append f (x ∷ xs) ys = let h = total-append f xs ys in omega (arith, ints, h)

-- a sum over the first numbers, and one more
pub total_more : (f : ℕ → ℤ) (k : ℕ) → total f (range_with_len 0 (k + 1)) ≡ total f (range_with_len 0 k) +ℤ f k
total_more f k = omega (arith, ints, ap (total f) (range_next 0 k k (omega arith)), total-append f (range_with_len 0 k) (k ∷ []))
