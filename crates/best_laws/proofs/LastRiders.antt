-- A sum over all orders is the sum, over who comes last, of the sums over the orders of the others.
use Rattle.std.proofs.Common.{◌≡◌, ◌≢◌, ℕ, ℤ, pos, ◌+ℤ◌, ◌<◌, List, [], ◌∷◌, ◌++◌, map, reverse, get_or, All, AllPairs, Contains, arith, refl, sym, ap, ◌∙◌, subst}
use Rattle.std.specs.List.Sorted.{IsPermutation}
use Rattle.std.proofs.lemmas.Int.{ints}
use Rattle.std.proofs.lemmas.List.{length-map, get_or-map, reverse-append, reverse-reverse}
use Rattle.std.proofs.lemmas.List.Elements.{All-cons, All-head, All-tail, All-nil, All-weaker}
use Rattle.std.proofs.lemmas.List.Kept.{AllPairs-cons}
use Rattle.std.proofs.lemmas.List.Sorted.{IsPermutation-refl, IsPermutation-cons, IsPermutation-middle, IsPermutation-reverse, IsPermutation-trans}
use Rattle.std.proofs.lemmas.List.Sums.{sum_by-cons, get_or-le-sum_by}
use Rattle.bid_rules.specs.Orders.{orders}
use Rattle.bid_rules.specs.Sums.{total}
use Rattle.split_lemmas.proofs.CompleteOrders.{listed_iff}
use Rattle.split_lemmas.proofs.Counts.{mark, mark_same, HasNoRepeat, no_repeat-permutation}
use Rattle.split_lemmas.proofs.DistinctOrders.{orders_differ}
use Rattle.split_lemmas.proofs.OrderLaws.{orders_permute}
use Rattle.split_lemmas.proofs.RenamedOrders.{permutation_from_within}
use Rattle.split_lemmas.proofs.SignedSums.{total-map, total-permutation, total-same}
use Rattle.best_laws.proofs.Parts.{parts}
use Rattle.best_laws.proofs.FirstRiders.{Sums, combined, firsts}

-- addition puts signed numbers together
pub plus : Sums ℤ
plus = record { op = ◌+ℤ◌; unit = pos 0; assoc = λ a b c. omega (arith, ints); comm = λ a b. omega (arith, ints); left = λ a. omega (arith, ints) }

-- sums of signed numbers
combined_plus : {X : Type 0} (f : X → ℤ) (xs : List X) → combined plus f xs ≡ total f xs
unfolding plus
combined_plus f [] = refl
combined_plus f (x ∷ xs) = ap (λ z. f x +ℤ z) (combined_plus f xs)

-- functions that agree on the elements have the same sum
pub total_all : {X : Type 0} (P : X → Type 0) (f g : X → ℤ) (xs : List X) → All P xs → ((x : X) → P x → f x ≡ g x) → total f xs ≡ total g xs
total_all P f g [] h e = refl
total_all P f g (x ∷ xs) h e = ap (λ z. z +ℤ total f xs) (e x (All-head P x xs h)) ∙ ap (λ z. g x +ℤ z) (total_all P f g xs (All-tail P x xs h) e)

-- what holds of each image holds of all of the images
all_mapped : {X Y : Type 0} (P : Y → Type 0) (f : X → Y) (xs : List X) → All (λ x. P (f x)) xs → All P (map f xs)
all_mapped P f [] h = All-nil P
all_mapped P f (x ∷ xs) h = All-cons P (f x) (map f xs) (All-head (λ y. P (f y)) x xs h) (all_mapped P f xs (All-tail (λ y. P (f y)) x xs h))

-- each element with the others is a permutation of the list
pub parts_permute : (xs : List ℕ) → All (λ p. IsPermutation xs (p.0 ∷ p.1)) (parts xs)
parts_permute [] = All-nil (λ (p : ℕ × List ℕ). IsPermutation [] (p.0 ∷ p.1))
parts_permute (x ∷ xs) = All-cons (λ (p : ℕ × List ℕ). IsPermutation (x ∷ xs) (p.0 ∷ p.1)) (x, xs) (map (λ p. (p.0, x ∷ p.1)) (parts xs)) (IsPermutation-refl (x ∷ xs))
    (all_mapped (λ (p : ℕ × List ℕ). IsPermutation (x ∷ xs) (p.0 ∷ p.1)) (λ (p : ℕ × List ℕ). (p.0, x ∷ p.1)) (parts xs)
    (All-weaker (λ (p : ℕ × List ℕ). IsPermutation xs (p.0 ∷ p.1)) (λ (p : ℕ × List ℕ). IsPermutation (x ∷ xs) (p.0 ∷ x ∷ p.1))
    (λ p h. IsPermutation-trans (x ∷ xs) (x ∷ p.0 ∷ p.1) (p.0 ∷ x ∷ p.1) (IsPermutation-cons x xs (p.0 ∷ p.1) h) (IsPermutation-middle (x ∷ []) p.0 p.1)) (parts xs) (parts_permute xs)))

-- without repeats the elements differ
pub differ : (xs : List ℕ) → HasNoRepeat xs → AllPairs ◌≢◌ xs
differ [] once = λ i j d l m. absurd (omega (arith, m))
differ (x ∷ xs) once =
    AllPairs-cons ◌≢◌ x xs
    (λ k d l e. let own : mark x (get_or xs k d) ≡ 1 = ap (mark x) (sym e) ∙ mark_same x in
    omega (arith, sum_by-cons (mark x) x xs, mark_same x, get_or-le-sum_by (mark x) xs k d l, own, once x))
    (differ xs (λ a. omega (arith, sum_by-cons (mark a) x xs, once a)))

-- all orders backwards are all orders
backwards : (xs : List ℕ) → HasNoRepeat xs → IsPermutation (orders xs) (map reverse (orders xs))
backwards xs once = permutation_from_within (orders xs) (map reverse (orders xs)) (orders_differ xs (differ xs once)) within (sym (length-map (orders xs) reverse))
  where
    within : All (Contains (map reverse (orders xs))) (orders xs)
    within k d l =
        let zs : List ℕ = get_or (orders xs) k d in
        let perm : IsPermutation xs zs = orders_permute xs k d l in
        let there = (listed_iff xs (reverse zs)).1 (IsPermutation-trans xs zs (reverse zs) perm (IsPermutation-reverse zs)) in (
          there.0,
          subst (λ n. there.0 < n) (sym (length-map (orders xs) reverse)) there.1,
          get_or-map reverse (orders xs) there.0 (reverse zs) zs there.1 ∙ ap reverse there.2 ∙ reverse-reverse zs,
        )

-- a sum over all orders is one over all orders backwards
pub total_backwards : (f : List ℕ → ℤ) (xs : List ℕ) → HasNoRepeat xs → total (λ zs. f (reverse zs)) (orders xs) ≡ total f (orders xs)
total_backwards f xs once = sym (total-map f reverse (orders xs)) ∙ total-permutation f (orders xs) (map reverse (orders xs)) (backwards xs once)

-- what is left of a list without repeats has none
pub rest_once : (xs : List ℕ) (x : ℕ) (rest : List ℕ) → IsPermutation xs (x ∷ rest) → HasNoRepeat xs → HasNoRepeat rest
rest_once xs x rest p once a = omega (arith, sum_by-cons (mark a) x rest, no_repeat-permutation xs (x ∷ rest) p once a)

-- over all orders: over who comes last, and over the orders of the others
pub lasts : (f : List ℕ → ℤ) (x : ℕ) (xs : List ℕ) → HasNoRepeat (x ∷ xs) → total f (orders (x ∷ xs)) ≡ total (λ p. total (λ zs. f (zs ++ p.0 ∷ [])) (orders p.1)) (parts (x ∷ xs))
lasts f x xs once =
    sym (total_backwards f (x ∷ xs) once)
    ∙ sym (combined_plus (λ zs. f (reverse zs)) (orders (x ∷ xs)))
    ∙ firsts plus (λ zs. f (reverse zs)) x xs
    ∙ combined_plus (λ p. combined plus (λ zs. f (reverse (p.0 ∷ zs))) (orders p.1)) (parts (x ∷ xs))
    ∙ total_all (λ (p : ℕ × List ℕ). IsPermutation (x ∷ xs) (p.0 ∷ p.1)) (λ p. combined plus (λ zs. f (reverse (p.0 ∷ zs))) (orders p.1)) (λ p. total (λ zs. f (zs ++ p.0 ∷ [])) (orders p.1)) (parts (x ∷ xs)) (parts_permute (x ∷ xs))
    (λ p h.
    combined_plus (λ zs. f (reverse (p.0 ∷ zs))) (orders p.1)
    ∙ total-same (λ (zs : List ℕ). f (reverse (p.0 ∷ zs))) (λ zs. f (reverse zs ++ p.0 ∷ [])) (λ zs. ap f (reverse-append (p.0 ∷ []) zs)) (orders p.1)
    ∙ total_backwards (λ zs. f (zs ++ p.0 ∷ [])) p.1 (rest_once (x ∷ xs) p.0 p.1 h once))
