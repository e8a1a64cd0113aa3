-- What the list of all orders contains.
use Rattle.std.proofs.Common.{◌≡◌, ℕ, ◌+◌, ◌<◌, suc, zero, ◌*◌, List, [], ◌∷◌, length, map, flat_map, insert, All, arith, refl, ap, ◌∙◌}
use Rattle.std.specs.List.{range_with_len}
use Rattle.std.specs.List.Sorted.{IsPermutation}
use Rattle.std.proofs.lemmas.List.Elements.{All-nil, All-cons, All-head, All-tail, All-append, All-map, All-weaker}
use Rattle.std.proofs.lemmas.List.Sorted.{IsPermutation-refl, IsPermutation-cons, IsPermutation-insert, IsPermutation-trans, length_permutation}
use Rattle.std.proofs.lemmas.List.FromFn.{length-map-range_with_len}
use Rattle.std.proofs.lemmas.List.Concat.{length-flat_map}
use Rattle.std.proofs.lemmas.List.Sums.{sum_by-cons}
use Rattle.std.specs.List.{sum_by}
use Rattle.bid_rules.specs.Orders.{insertions, orders, factorial}

-- what holds of each element of each part
pub All-flat_map : {X Y : Type 0} (P : Y → Type 0) (f : X → List Y) (xs : List X) → All (λ x. All P (f x)) xs → All P (flat_map f xs)
All-flat_map P f [] h = All-nil P
All-flat_map {X} P f (x ∷ xs) h =
    let Q : X → Type 0 = λ x. All P (f x) in
    All-append P (f x) (flat_map f xs) (All-head Q x xs h) (All-flat_map P f xs (All-tail Q x xs h))

-- where an element is put in, the list is one of the longer one's orders
insertions_permute : {X : Type 0} (x : X) (xs zs : List X) → IsPermutation xs zs → All (IsPermutation (x ∷ xs)) (insertions x zs)
insertions_permute x xs zs h =
    All-map (IsPermutation (x ∷ xs)) (λ place. insert zs place x) (range_with_len 0 (length zs + 1))
    (λ k d _. IsPermutation-trans (x ∷ xs) (x ∷ zs) _ (IsPermutation-cons x xs zs h) (IsPermutation-insert zs _ x))

-- each listed order is an order of the list
pub orders_permute : {X : Type 0} (xs : List X) → All (IsPermutation xs) (orders xs)
orders_permute [] = All-cons (IsPermutation []) [] [] (IsPermutation-refl []) (All-nil (IsPermutation []))
orders_permute (x ∷ xs) = All-flat_map (IsPermutation (x ∷ xs)) (insertions x) (orders xs)
    (All-weaker (IsPermutation xs) (λ zs. All (IsPermutation (x ∷ xs)) (insertions x zs)) (insertions_permute x xs) (orders xs) (orders_permute xs))

-- and has its length
pub orders_length : {X : Type 0} (xs : List X) → All (λ zs. length zs ≡ length xs) (orders xs)
orders_length xs = All-weaker (IsPermutation xs) (λ zs. length zs ≡ length xs) (length_permutation xs) (orders xs) (orders_permute xs)

-- what holds of each image
pub All-from_map : {X Y : Type 0} (P : Y → Type 0) (f : X → Y) (xs : List X) → All P (map f xs) → All (λ x. P (f x)) xs
All-from_map P f [] h = All-nil (λ x. P (f x))
All-from_map P f (x ∷ xs) h = All-cons (λ x. P (f x)) x xs (All-head P (f x) (map f xs) h) (All-from_map P f xs (All-tail P (f x) (map f xs) h))

-- a sum of equal parts
same_each : {X : Type 0} (f : X → ℕ) (c : ℕ) (xs : List X) → All (λ x. f x ≡ c) xs → sum_by f xs ≡ c * length xs
same_each f c [] h = omega arith
same_each {X} f c (x ∷ xs) h =
    let P : X → Type 0 = λ x. f x ≡ c in
    let rest : sum_by f xs ≡ c * length xs = same_each f c xs (All-tail P x xs h) in
    let head : f x ≡ c = All-head P x xs h in
    sum_by-cons f x xs ∙ omega (arith, rest, head)

-- there are as many orders as the factorial says
pub length-orders : {X : Type 0} (xs : List X) → length (orders xs) ≡ factorial (length xs)
length-orders [] = refl
length-orders {X} (x ∷ xs) =
    let each : All (λ zs. length (insertions x zs) ≡ suc (length xs)) (orders xs) =
    All-weaker (λ (zs : List X). length zs ≡ length xs) (λ zs. length (insertions x zs) ≡ suc (length xs))
    (λ zs e. length-map-range_with_len (λ place. insert zs place x) 0 (length zs + 1) ∙ omega (arith, e)) (orders xs) (orders_length xs) in
    length-flat_map (insertions x) (orders xs) ∙ same_each (λ zs. length (insertions x zs)) (suc (length xs)) (orders xs) each
    ∙ ap (λ n. suc (length xs) * n) (length-orders xs)

-- there is at least one order
pub factorial_pos : (n : ℕ) → 0 < factorial n
factorial_pos zero = omega arith
factorial_pos (suc n) = let h = factorial_pos n in grind arith
