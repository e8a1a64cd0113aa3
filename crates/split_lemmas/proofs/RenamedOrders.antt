-- The orders of a list whose elements are renamed, and those of a permutation.
use Rattle.std.proofs.Common.{◌≡◌, ◌≢◌, ℕ, suc, zero, ◌+◌, ◌<◌, List, [], ◌∷◌, ◌++◌, length, map, take, drop, insert, remove, flat_map, get_or, All, AllPairs, Contains, arith, refl, sym, ap, ◌∙◌}
use Rattle.std.specs.List.{range_with_len}
use Rattle.std.specs.List.Sorted.{IsPermutation}
use Rattle.std.proofs.lemmas.List.{map-append, take-map, drop-map, length-map}
use Rattle.std.proofs.lemmas.List.Elements.{All-head, All-tail, All-weaker}
use Rattle.std.proofs.lemmas.List.Sorted.{Contains-permutation, IsPermutation-cons, IsPermutation-refl, IsPermutation-remove, IsPermutation-sym, IsPermutation-trans, length_permutation}
use Rattle.bid_rules.specs.Orders.{insertions, orders, factorial}
use Rattle.split_lemmas.proofs.CompleteOrders.{listed_iff}
use Rattle.split_lemmas.proofs.DistinctOrders.{orders_differ, pairs_head, pairs_tail}
use Rattle.split_lemmas.proofs.OrderLaws.{orders_permute, length-orders}

-- a renamed element put in among renamed ones
insert-map : {X Y : Type 0} (f : X → Y) (x : X) (zs : List X) (place : ℕ) → insert (map f zs) place (f x) ≡ map f (insert zs place x)
insert-map f x zs place =
    ap (λ us. us ++ f x ∷ drop place (map f zs)) (take-map f place zs)
    ∙ ap (λ us. map f (take place zs) ++ f x ∷ us) (drop-map f place zs)
    ∙ sym (map-append f (take place zs) (x ∷ drop place zs))

-- at each of some places
inserts-map : {X Y : Type 0} (f : X → Y) (x : X) (zs : List X) (places : List ℕ) → map (λ place. insert (map f zs) place (f x)) places ≡ map (map f) (map (λ place. insert zs place x) places)
inserts-map f x zs [] = refl
inserts-map f x zs (place ∷ places) =
    ap (λ us. us ∷ map (λ p. insert (map f zs) p (f x)) places) (insert-map f x zs place)
    ∙ ap (λ lists. map f (insert zs place x) ∷ lists) (inserts-map f x zs places)

-- at every place
insertions-map : {X Y : Type 0} (f : X → Y) (x : X) (zs : List X) → insertions (f x) (map f zs) ≡ map (map f) (insertions x zs)
insertions-map f x zs =
    ap (λ n. map (λ place. insert (map f zs) place (f x)) (range_with_len 0 (n + 1))) (length-map zs f)
    ∙ inserts-map f x zs (range_with_len 0 (length zs + 1))

-- into each of some lists
all_insertions-map : {X Y : Type 0} (f : X → Y) (x : X) (lists : List (List X)) → flat_map (insertions (f x)) (map (map f) lists) ≡ map (map f) (flat_map (insertions x) lists)
all_insertions-map f x [] = refl
all_insertions-map f x (zs ∷ lists) =
    ap (λ us. us ++ flat_map (insertions (f x)) (map (map f) lists)) (insertions-map f x zs)
    ∙ ap (λ us. map (map f) (insertions x zs) ++ us) (all_insertions-map f x lists)
    ∙ sym (map-append (map f) (insertions x zs) (flat_map (insertions x) lists))

-- the orders of renamed elements are the renamed orders
pub orders-map : {X Y : Type 0} (f : X → Y) (xs : List X) → orders (map f xs) ≡ map (map f) (orders xs)
orders-map f [] = refl
orders-map f (x ∷ xs) = ap (flat_map (insertions (f x))) (orders-map f xs) ∙ all_insertions-map f x (orders xs)

-- what is in a list and is not its first element comes after it
after_first : {X : Type 0} (x z : X) (rest : List X) (k : ℕ) → k < length (x ∷ rest) → get_or (x ∷ rest) k z ≡ z → x ≢ z → Contains rest z
after_first x z rest zero l at other = absurd (other at)
after_first x z rest (suc k) l at other = (k, omega arith, at)

-- a list whose elements differ and are all in another of its length is a permutation of it
pub permutation_from_within : {X : Type 0} (xs ys : List X) → AllPairs ◌≢◌ xs → All (Contains ys) xs → length xs ≡ length ys → IsPermutation xs ys
permutation_from_within [] [] differ within same = IsPermutation-refl []
permutation_from_within [] (y ∷ ys) differ within same = absurd (omega arith)
permutation_from_within {X} (x ∷ xs) ys differ within same =
    let here : Contains ys x = All-head (Contains ys) x xs within in
    let i = here.0 in
    let rest : List X = remove ys i in
    let taken : IsPermutation ys (x ∷ rest) = IsPermutation-remove ys i x here.1 (sym here.2) in
    let count : length (x ∷ rest) ≡ length ys = length_permutation ys (x ∷ rest) taken in
    let others : All (Contains rest) xs = λ k d l.
    let there = Contains-permutation ys (x ∷ rest) (get_or xs k d) taken (All-tail (Contains ys) x xs within k d l) in
    after_first x (get_or xs k d) rest there.0 there.1 there.2 (pairs_head ◌≢◌ x xs differ k d l) in
    IsPermutation-trans (x ∷ xs) (x ∷ rest) ys
    (IsPermutation-cons x xs rest (permutation_from_within xs rest (pairs_tail ◌≢◌ x xs differ) others (omega (arith, count, same))))
    (IsPermutation-sym ys (x ∷ rest) taken)

-- a permutation has the same orders, listed in another order
pub orders-permutation : (xs ys : List ℕ) → AllPairs ◌≢◌ xs → IsPermutation xs ys → IsPermutation (orders xs) (orders ys)
orders-permutation xs ys differ p = permutation_from_within (orders xs) (orders ys) (orders_differ xs differ)
    (All-weaker (IsPermutation xs) (Contains (orders ys)) (λ zs q. (listed_iff ys zs).1 (IsPermutation-trans ys xs zs (IsPermutation-sym xs ys p) q)) (orders xs) (orders_permute xs))
    (length-orders xs ∙ ap factorial (sym (length_permutation xs ys p)) ∙ sym (length-orders ys))
