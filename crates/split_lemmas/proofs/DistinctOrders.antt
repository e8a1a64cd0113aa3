-- No order is listed twice where the elements differ.
use Rattle.std.proofs.Common.{◌≡◌, ◌≢◌, ℕ, suc, zero, ◌+◌, ◌<◌, List, [], ◌∷◌, ◌++◌, length, take, drop, insert, filter, flat_map, get_or, All, AllPairs, Bool, true, false, cond, not, ◌==◌, arith, refl, sym, ap, ◌∙◌, subst}
use Rattle.std.specs.List.{range_with_len}
use Rattle.std.specs.List.Sorted.{IsPermutation}
use Rattle.std.proofs.lemmas.Bool.Decides.{nat_tests}
use Rattle.std.proofs.lemmas.List.{take-append-drop}
use Rattle.std.proofs.lemmas.List.Edits.{get_or-insert_at, get_or-insert_below}
use Rattle.std.proofs.lemmas.List.Elements.{All-head, All-tail, All-append, All-map, All-weaker, filter-append}
use Rattle.std.proofs.lemmas.List.FromFn.{get_or-map-range_with_len, length-map-range_with_len}
use Rattle.std.proofs.lemmas.List.Sorted.{All-permutation}
use Rattle.bid_rules.specs.Orders.{insertions, orders}
use Rattle.split_lemmas.proofs.OrderLaws.{All-flat_map, orders_permute}

-- pairs of a longer list
pairs_cons : {X : Type 0} (R : X → X → Type 0) (x : X) (xs : List X) → All (R x) xs → AllPairs R xs → AllPairs R (x ∷ xs)
pairs_cons R x xs first rest zero zero d l m = absurd (omega arith)
pairs_cons R x xs first rest zero (suc j) d l m = first j d (omega arith)
pairs_cons R x xs first rest (suc i) zero d l m = absurd (omega arith)
pairs_cons R x xs first rest (suc i) (suc j) d l m = rest i j d (omega arith) (omega arith)

-- the pairs with the first element
pub pairs_head : {X : Type 0} (R : X → X → Type 0) (x : X) (xs : List X) → AllPairs R (x ∷ xs) → All (R x) xs
pairs_head R x xs h k d l = h 0 (suc k) d (omega arith) (omega arith)

-- the pairs without the first element
pub pairs_tail : {X : Type 0} (R : X → X → Type 0) (x : X) (xs : List X) → AllPairs R (x ∷ xs) → AllPairs R xs
pairs_tail R x xs h i j d l m = h (suc i) (suc j) d (omega arith) (omega arith)

-- pairs of two lists joined
pairs_append : {X : Type 0} (R : X → X → Type 0) (xs ys : List X) → AllPairs R xs → AllPairs R ys → All (λ x. All (R x) ys) xs → AllPairs R (xs ++ ys)
pairs_append R [] ys h g across = g
pairs_append {X} R (x ∷ xs) ys h g across =
    let P : X → Type 0 = λ x. All (R x) ys in
    pairs_cons R x (xs ++ ys)
    (All-append (R x) xs ys (pairs_head R x xs h) (All-head P x xs across))
    (pairs_append R xs ys (pairs_tail R x xs h) g (All-tail P x xs across))

-- the list without a number
abbrev without : ℕ → List ℕ → List ℕ
without x ys = filter (λ y. not (y == x)) ys

-- the number is not in the list
abbrev Lacks : ℕ → List ℕ → Type 0
Lacks x ys = All (λ y. y ≢ x) ys

-- the number in front is left out
without-cons_same : (x : ℕ) (ys : List ℕ) → without x (x ∷ ys) ≡ without x ys
without-cons_same x ys = let e : not (x == x) ≡ false = grind (arith, nat_tests) in ap (λ b. cond b (x ∷ without x ys) (without x ys)) e

-- another in front is kept
without-cons_other : (x y : ℕ) (ys : List ℕ) → y ≢ x → without x (y ∷ ys) ≡ y ∷ without x ys
without-cons_other x y ys ne = let e : not (y == x) ≡ true = grind (arith, nat_tests) in ap (λ b. cond b (y ∷ without x ys) (without x ys)) e

-- where the number is not, nothing is left out
without-lacks : (x : ℕ) (ys : List ℕ) → Lacks x ys → without x ys ≡ ys
without-lacks x [] h = refl
without-lacks x (y ∷ ys) h =
    let P : ℕ → Type 0 = λ y. y ≢ x in
    without-cons_other x y ys (All-head P y ys h) ∙ ap (λ zs. y ∷ zs) (without-lacks x ys (All-tail P y ys h))

-- put in and left out again
without-insert : (x : ℕ) (ys : List ℕ) (place : ℕ) → Lacks x ys → without x (insert ys place x) ≡ ys
without-insert x ys place h =
    let p : ℕ → Bool = λ y. not (y == x) in
    filter-append p (take place ys) (x ∷ drop place ys)
    ∙ ap (λ zs. without x (take place ys) ++ zs) (without-cons_same x (drop place ys))
    ∙ sym (filter-append p (take place ys) (drop place ys))
    ∙ ap (without x) (take-append-drop place ys)
    ∙ without-lacks x ys h

-- each list with the number put in gives the list back without it
insertions_without : (x : ℕ) (ys : List ℕ) → Lacks x ys → All (λ u. without x u ≡ ys) (insertions x ys)
insertions_without x ys h = All-map (λ u. without x u ≡ ys) (λ place. insert ys place x) (range_with_len 0 (length ys + 1)) (λ k d _. without-insert x ys _ h)

-- the lists with the number put in at each place differ
insertions_differ : (x : ℕ) (ys : List ℕ) → Lacks x ys → AllPairs ◌≢◌ (insertions x ys)
insertions_differ x ys h i j d l m same =
    let n = length ys + 1 in
    let f : ℕ → List ℕ = λ place. insert ys place x in
    let room : j < n = subst (λ k. j < k) (length-map-range_with_len f 0 n) m in
    let first : get_or (insertions x ys) i d ≡ insert ys i x = get_or-map-range_with_len f 0 n i i d (omega arith) (omega arith) in
    let second : get_or (insertions x ys) j d ≡ insert ys j x = get_or-map-range_with_len f 0 n j j d room (omega arith) in
    let at : get_or (insert ys i x) i x ≡ x = get_or-insert_at ys i x x (omega arith) in
    let below : get_or (insert ys j x) i x ≡ get_or ys i x = get_or-insert_below ys j x x i l (omega arith) in
    h i x (omega arith) (sym below ∙ ap (λ u. get_or u i x) (sym second ∙ sym same ∙ first) ∙ at)

-- the lists made from others differ from those made from one
apart : (x : ℕ) (ys : List ℕ) (rest : List (List ℕ)) → Lacks x ys → All (Lacks x) rest → All (λ zs. ys ≢ zs) rest
    → All (λ u. All (λ v. u ≢ v) (flat_map (insertions x) rest)) (insertions x ys)
apart x ys rest h lacks differ =
    All-weaker (λ u. without x u ≡ ys) (λ u. All (λ v. u ≢ v) (flat_map (insertions x) rest))
    (λ u e. All-weaker (λ v. ys ≢ without x v) (λ v. u ≢ v) (λ v other same. other (sym e ∙ ap (without x) same)) (flat_map (insertions x) rest) others)
    (insertions x ys) (insertions_without x ys h)
  where
    others : All (λ v. ys ≢ without x v) (flat_map (insertions x) rest)
    others = All-flat_map (λ v. ys ≢ without x v) (insertions x) rest
        (λ k d l. All-weaker (λ v. without x v ≡ get_or rest k d) (λ v. ys ≢ without x v) (λ v e same. differ k d l (same ∙ e))
        (insertions x (get_or rest k d)) (insertions_without x (get_or rest k d) (lacks k d l)))

-- from lists that differ, lists that differ
insertions_all_differ : (x : ℕ) (lists : List (List ℕ)) → All (Lacks x) lists → AllPairs ◌≢◌ lists → AllPairs ◌≢◌ (flat_map (insertions x) lists)
insertions_all_differ x [] lacks differ = λ i j d l m. absurd (omega arith)
insertions_all_differ x (ys ∷ rest) lacks differ =
    let here = All-head (Lacks x) ys rest lacks in
    let there = All-tail (Lacks x) ys rest lacks in
    pairs_append ◌≢◌ (insertions x ys) (flat_map (insertions x) rest) (insertions_differ x ys here)
    (insertions_all_differ x rest there (pairs_tail ◌≢◌ ys rest differ))
    (apart x ys rest here there (pairs_head ◌≢◌ ys rest differ))

-- the orders of a list whose elements differ do
pub orders_differ : (xs : List ℕ) → AllPairs ◌≢◌ xs → AllPairs ◌≢◌ (orders xs)
orders_differ [] h = λ i j d l m. absurd (omega arith)
orders_differ (x ∷ xs) h =
    let first : All (λ y. x ≢ y) xs = pairs_head ◌≢◌ x xs h in
    let lacks : Lacks x xs = All-weaker (λ y. x ≢ y) (λ y. y ≢ x) (λ y other same. other (sym same)) xs first in
    insertions_all_differ x (orders xs)
    (All-weaker (IsPermutation xs) (Lacks x) (λ zs p. All-permutation (λ y. y ≢ x) xs zs p lacks) (orders xs) (orders_permute xs))
    (orders_differ xs (pairs_tail ◌≢◌ x xs h))
