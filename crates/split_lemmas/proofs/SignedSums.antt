-- Sums of signed numbers over lists: exchange, permutation, equal parts.
use Rattle.std.proofs.Common.{◌≡◌, ℕ, ℤ, pos, negsuc, suc, ◌+ℤ◌, ◌-ℤ◌, ◌*ℤ◌, List, [], ◌∷◌, length, map, fold, All, arith, refl, sym, ap, ◌∙◌, sum_by}
use Rattle.std.specs.List.Sorted.{IsPermutation}
use Rattle.std.proofs.lemmas.Int.{ints}
use Rattle.std.proofs.Math.IntN.{*ℤ-zero}
use Rattle.std.proofs.lemmas.List.Elements.{All-head, All-tail}
use Rattle.std.proofs.lemmas.List.Sorted.{sum_by-IsPermutation}
use Rattle.std.proofs.lemmas.List.Sums.{sum_by-cons}
use Rattle.bid_rules.specs.Sums.{total}
use Rattle.split_lemmas.proofs.SignedProducts.{times_suc}

-- a sum that starts at a number
total_from : {X : Type 0} (f : X → ℤ) (start : ℤ) (xs : List X) → fold ◌+ℤ◌ start (map f xs) ≡ start +ℤ total f xs
total_from f start [] = omega (arith, ints)
total_from f start (x ∷ xs) = let h = total_from f (start +ℤ f x) xs in omega (arith, ints, h)

-- the sum as a fold
pub total_is : {X : Type 0} (f : X → ℤ) (xs : List X) → fold ◌+ℤ◌ (pos 0) (map f xs) ≡ total f xs
total_is f xs = let h = total_from f (pos 0) xs in omega (arith, ints, h)

-- a sum of functions that are equal everywhere
pub total-same : {X : Type 0} (f g : X → ℤ) → ((x : X) → f x ≡ g x) → (xs : List X) → total f xs ≡ total g xs
total-same f g same [] = refl
total-same f g same (x ∷ xs) = let h = total-same f g same xs in let here = same x in omega (arith, ints, h, here)

-- a sum over images
pub total-map : {X Y : Type 0} (f : Y → ℤ) (g : X → Y) (xs : List X) → total f (map g xs) ≡ total (λ x. f (g x)) xs
total-map f g [] = refl
total-map f g (x ∷ xs) = ap (λ z. f (g x) +ℤ z) (total-map f g xs)

-- a sum of sums
pub total-add : {X : Type 0} (f g : X → ℤ) (xs : List X) → total (λ x. f x +ℤ g x) xs ≡ total f xs +ℤ total g xs
total-add f g [] = refl
total-add f g (x ∷ xs) = let h = total-add f g xs in omega (arith, ints, h)

-- a sum of nothing
total-zero : {X : Type 0} (xs : List X) → total (λ x. pos 0) xs ≡ pos 0
total-zero [] = refl
total-zero (x ∷ xs) = let h = total-zero xs in omega (arith, ints, h)

-- sums over two lists, one within the other, in either order
pub total-exchange : {X Y : Type 0} (f : X → Y → ℤ) (xs : List X) (ys : List Y) → total (λ x. total (f x) ys) xs ≡ total (λ y. total (λ x. f x y) xs) ys
total-exchange f [] ys = sym (total-zero ys)
total-exchange f (x ∷ xs) ys =
    ap (λ z. total (f x) ys +ℤ z) (total-exchange f xs ys) ∙ sym (total-add (f x) (λ y. total (λ x. f x y) xs) ys)

-- where each part is the same
pub total-each : {X : Type 0} (f : X → ℤ) (each : ℤ) (xs : List X) → All (λ x. f x ≡ each) xs → total f xs ≡ each *ℤ pos (length xs)
total-each f each [] h = sym (*ℤ-zero each)
total-each {X} f each (x ∷ xs) h =
    let P : X → Type 0 = λ x. f x ≡ each in
    let here : f x ≡ each = All-head P x xs h in
    let rest : total f xs ≡ each *ℤ pos (length xs) = total-each f each xs (All-tail P x xs h) in
    omega (arith, ints, here, rest, times_suc each (length xs))

-- what a number counts up
up_part : ℤ → ℕ
up_part (pos n) = n
up_part (negsuc n) = 0

-- and what is taken away
down_part : ℤ → ℕ
down_part (pos n) = 0
down_part (negsuc n) = suc n

-- the two parts make the number
parts : (z : ℤ) → z ≡ pos (up_part z) -ℤ pos (down_part z)
unfolding up_part down_part
parts (pos n) = omega (arith, ints)
parts (negsuc n) = omega (arith, ints)

-- a sum by its two parts
total_parts : {X : Type 0} (f : X → ℤ) (xs : List X) → total f xs ≡ pos (sum_by (λ x. up_part (f x)) xs) -ℤ pos (sum_by (λ x. down_part (f x)) xs)
total_parts f [] = refl
total_parts f (x ∷ xs) =
    let h = total_parts f xs in
    let here = parts (f x) in
    let ups = sum_by-cons (λ y. up_part (f y)) x xs in
    let downs = sum_by-cons (λ y. down_part (f y)) x xs in
    omega (arith, ints, h, here, ups, downs)

-- the sum over a permutation
pub total-permutation : {X : Type 0} (f : X → ℤ) (xs ys : List X) → IsPermutation xs ys → total f ys ≡ total f xs
total-permutation f xs ys h =
    let ups = sum_by-IsPermutation (λ y. up_part (f y)) xs ys h in
    let downs = sum_by-IsPermutation (λ y. down_part (f y)) xs ys h in
    omega (arith, ints, total_parts f xs, total_parts f ys, ups, downs)
