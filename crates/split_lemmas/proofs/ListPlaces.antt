-- Lists that are made and compared place by place.
use Rattle.std.proofs.Common.{◌≡◌, ℕ, ℤ, pos, suc, zero, ◌+◌, ◌-◌, ◌<◌, ◌≤◌, List, [], ◌∷◌, ◌++◌, length, map, get_or, sum, All, arith, refl, sym, ◌∙◌, subst, ⊎_elim}
use Rattle.std.specs.List.{AllZip}
use Rattle.std.specs.List.Sorted.{IsStrictlyIncreasing}
use Rattle.std.proofs.lemmas.Bool.{cases_lt}
use Rattle.std.proofs.lemmas.List.Sums.{get_or-le-sum_by}
use Rattle.std.proofs.lemmas.List.{get_or_past, get_or_push, get_or_append_left, length_push, length-map, map-append}
use Rattle.bid_rules.specs.Walks.{weight_at}

-- one number more in a list that is made place by place
pub push_place : (P : ℕ → ℤ → Type 0) (k : ℕ) (xs : List ℤ) (x : ℤ) → length xs ≡ k → ((i : ℕ) → i < k → P i (weight_at xs i)) → P k x → (i : ℕ) → i < k + 1 → P i (weight_at (xs ++ x ∷ []) i)
push_place P k xs x e h here i l = ⊎_elim
    (λ (early : i < k). let a : i < length xs = omega arith in subst (P i) (sym (get_or_append_left xs (x ∷ []) (pos 0) i a)) (h i early))
    (λ late. let is : i ≡ k = omega arith in subst (P i) (sym (get_or_push xs x (pos 0) i (e ∙ sym is))) (subst (λ j. P j x) (sym is) here))
    (cases_lt i k)

-- where each place has a number, there is a list of them
pub choose : (P : ℕ → ℤ → Type 0) (n : ℕ) → ((i : ℕ) → i < n → (x : ℤ) × P i x) → (xs : List ℤ) × (length xs ≡ n) × ((i : ℕ) → i < n → P i (weight_at xs i))
choose P zero each = ([], refl, λ i l. absurd (omega arith))
choose P (suc n) each =
    let rest = choose P n (λ i l. each i (omega arith)) in
    let last = each n (omega arith) in
    let more = push_place P n rest.0 last.0 rest.1 rest.2 last.1 in
    (rest.0 ++ last.0 ∷ [], length_push rest.0 last.0 ∙ omega (arith, rest.1), λ i l. more i (omega arith))

-- lists of one length that are related at each place
pub zip_places : {A B : Type 0} (R : A → B → Type 0) (a : A) (b : B) (xs : List A) (ys : List B) → length xs ≡ length ys → ((i : ℕ) → i < length xs → R (get_or xs i a) (get_or ys i b)) → AllZip R xs ys
zip_places R a b [] [] e h = tt
zip_places R a b [] (y ∷ ys) e h = absurd (omega arith)
zip_places R a b (x ∷ xs) [] e h = absurd (omega arith)
zip_places R a b (x ∷ xs) (y ∷ ys) e h = (h 0 (omega arith), zip_places R a b xs ys (omega arith) (λ i l. h (suc i) (omega arith)))

-- one more in a list whose images hold by place
pub push_at : {X Y : Type 0} (f : X → Y) (d : Y) (P : ℕ → Y → Type 0) (k : ℕ) (xs : List X) (x : X) → length xs ≡ k → ((i : ℕ) → i < k → P i (get_or (map f xs) i d)) → P k (f x)
    → (i : ℕ) → i < k + 1 → P i (get_or (map f (xs ++ x ∷ [])) i d)
push_at {X} {Y} f d P k xs x e h here i l =
    let count : length (map f xs) ≡ k = length-map xs f ∙ e in
    let more : map f (xs ++ x ∷ []) ≡ map f xs ++ f x ∷ [] = map-append f xs (x ∷ []) in
    subst (λ (zs : List Y). P i (get_or zs i d)) (sym more) (⊎_elim
    (λ (early : i < k). let a : i < length (map f xs) = omega arith in subst (P i) (sym (get_or_append_left (map f xs) (f x ∷ []) d i a)) (h i early))
    (λ (late : k ≤ i). let is : i ≡ k = omega arith in subst (P i) (sym (get_or_push (map f xs) (f x) d i (count ∙ sym is))) (subst (λ j. P j (f x)) (sym is) here))
    (cases_lt i k))

-- a number of a list is at most their sum
pub get_le_sum : (xs : List ℕ) (k : ℕ) → get_or xs k 0 ≤ sum xs
get_le_sum xs k = ⊎_elim (λ l. get_or-le-sum_by (λ x. x) xs k 0 l) (λ m. let e = get_or_past xs k 0 m in omega (arith, e)) (cases_lt k (length xs))

-- rising numbers from 1 on are above their places
rises_by_one : (xs : List ℕ) → IsStrictlyIncreasing xs → All (λ x. 1 ≤ x) xs → (k : ℕ) → k < length xs → k + 1 ≤ get_or xs k 0
rises_by_one xs rising low zero l = low 0 0 l
rises_by_one xs rising low (suc k) l =
    let before = rises_by_one xs rising low k (omega arith) in
    let e : suc k ≡ k + 1 = omega arith in
    let here : get_or xs k 0 < get_or xs (k + 1) 0 = rising k (omega arith) in
    subst (λ j. j + 1 ≤ get_or xs j 0) (sym e) (omega (arith, before, here))

-- rising numbers from 1 to a number are no more than that
pub rising_few : (xs : List ℕ) (most : ℕ) → IsStrictlyIncreasing xs → All (λ x. (1 ≤ x) × (x ≤ most)) xs → length xs ≤ most
rising_few xs most rising within = ⊎_elim
    (λ (some : 0 < length xs).
    let last : length xs - 1 < length xs = omega (arith, some) in
    let high : get_or xs (length xs - 1) 0 ≤ most = (within (length xs - 1) 0 last).1 in
    omega (arith, high, some, rises_by_one xs rising (λ k d l. (within k d l).0) (length xs - 1) last))
    (λ none. omega (arith, none))
    (cases_lt 0 (length xs))
