-- Lists that are made entry by entry.
use Rattle.std.proofs.Common.{◌≡◌, ℕ, suc, ◌+◌, ◌*◌, ◌<◌, ◌≤◌, ◌||◌, List, [], ◌∷◌, ◌++◌, drop, drop-cons, get_or, length, map, arith, sym, ap, ◌∙◌, Bool, true, false, cond, append_assoc, append-nil}
use Rattle.std.specs.List.{count_by, filter, list_any, range_with_len}
use Rattle.std.proofs.lemmas.List.{map-append}
use Rattle.std.proofs.lemmas.List.Elements.{filter-append}
use Rattle.std.proofs.lemmas.List.FromFn.{map-range_with_len_more}
use Rattle.std.proofs.lemmas.List.Sums.{sum_by-drop_more}
use Rattle.estate_bounds.specs.Shown.{factors}
use Rattle.estate_bounds.proofs.TopSteps.{none_left}

-- one more entry of a list by players
pub map_more : (f : ℕ → ℕ) (xs new : List ℕ) (a k j v : ℕ) → a + k ≡ j → xs ≡ map f (range_with_len a k) → new ≡ xs ++ v ∷ [] → v ≡ f j → new ≡ map f (range_with_len a (k + 1))
map_more f xs new a k j v at is push e =
    push ∙ ap (λ ys. ys ++ v ∷ []) is ∙ ap (λ y. map f (range_with_len a k) ++ y ∷ []) e ∙ sym (map-range_with_len_more f a k j at)

-- one more entry of such a list, mapped again
pub mapped_more : (g f : ℕ → ℕ) (xs new : List ℕ) (k v : ℕ) → xs ≡ map g (map f (range_with_len 1 k)) → new ≡ xs ++ v ∷ [] → v ≡ g (f (k + 1)) → new ≡ map g (map f (range_with_len 1 (k + 1)))
mapped_more g f xs new k v is push e =
    let more : map f (range_with_len 1 (k + 1)) ≡ map f (range_with_len 1 k) ++ f (k + 1) ∷ [] = map-range_with_len_more f 1 k (k + 1) (omega arith) in
    push ∙ ap (λ ys. ys ++ v ∷ []) is ∙ ap (λ y. map g (map f (range_with_len 1 k)) ++ y ∷ []) e
    ∙ sym (map-append g (map f (range_with_len 1 k)) (f (k + 1) ∷ [])) ∙ ap (map g) (sym more)

-- one more entry that may be kept
pub filter_more : (p : ℕ → Bool) (f : ℕ → ℕ) (xs new : List ℕ) (k v : ℕ) → xs ≡ filter p (map f (range_with_len 1 k)) → new ≡ xs ++ filter p (v ∷ []) → v ≡ f (k + 1)
    → new ≡ filter p (map f (range_with_len 1 (k + 1)))
filter_more p f xs new k v is push e =
    let more : map f (range_with_len 1 (k + 1)) ≡ map f (range_with_len 1 k) ++ f (k + 1) ∷ [] = map-range_with_len_more f 1 k (k + 1) (omega arith) in
    push ∙ ap (λ ys. ys ++ filter p (v ∷ [])) is ∙ ap (λ y. filter p (map f (range_with_len 1 k)) ++ filter p (y ∷ [])) e
    ∙ sym (filter-append p (map f (range_with_len 1 k)) (f (k + 1) ∷ [])) ∙ ap (filter p) (sym more)

-- one more factor
pub factors_next : (count k v : ℕ) (old new ws ss whole : List ℕ) → k < length ws → length ss ≡ length ws → v ≡ count * get_or ws k 0 * get_or ss k 0 → new ≡ old ++ v ∷ []
    → old ++ factors count (drop k ws) (drop k ss) ≡ whole → new ++ factors count (drop (k + 1) ws) (drop (k + 1) ss) ≡ whole
factors_next count k v old new ws ss whole l each value push before =
    let e : k + 1 ≡ suc k = omega arith in
    let w : ℕ = get_or ws k 0 in
    let s : ℕ = get_or ss k 0 in
    let a : drop k ws ≡ w ∷ drop (suc k) ws = drop-cons ws k 0 l in
    let b : drop k ss ≡ s ∷ drop (suc k) ss = drop-cons ss k 0 (omega arith) in
    let c : factors count (drop k ws) (drop k ss) ≡ (count * w * s) ∷ factors count (drop (suc k) ws) (drop (suc k) ss) =
    ap (λ xs. factors count xs (drop k ss)) a ∙ ap (λ xs. factors count (w ∷ drop (suc k) ws) xs) b in
    ap (λ n. new ++ factors count (drop n ws) (drop n ss)) e ∙ ap (λ xs. xs ++ factors count (drop (suc k) ws) (drop (suc k) ss)) push
    ∙ append_assoc old (v ∷ []) (factors count (drop (suc k) ws) (drop (suc k) ss))
    ∙ ap (λ x. old ++ x ∷ factors count (drop (suc k) ws) (drop (suc k) ss)) value ∙ ap (λ xs. old ++ xs) (sym c) ∙ before

-- all factors
pub factors_all : (count k : ℕ) (list ws ss whole : List ℕ) → length ws ≤ k → list ++ factors count (drop k ws) (drop k ss) ≡ whole → list ≡ whole
factors_all count k list ws ss whole l is =
    let e : factors count (drop k ws) (drop k ss) ≡ [] = ap (λ xs. factors count xs (drop k ss)) (none_left ws k l) in
    sym (append-nil list) ∙ ap (λ xs. list ++ xs) (sym e) ∙ is

-- one more entry for a free good
pub free_more : (f : ℕ → ℕ) (goods : List ℕ) (place v : ℕ) (old new whole : List ℕ) → place < length goods → v ≡ f (get_or goods place 0) → new ≡ old ++ v ∷ []
    → old ++ map f (drop place goods) ≡ whole → new ++ map f (drop (place + 1) goods) ≡ whole
free_more f goods place v old new whole l value push before =
    let e : place + 1 ≡ suc place = omega arith in
    let a : drop place goods ≡ get_or goods place 0 ∷ drop (suc place) goods = drop-cons goods place 0 l in
    ap (λ n. new ++ map f (drop n goods)) e ∙ ap (λ xs. xs ++ map f (drop (suc place) goods)) push ∙ append_assoc old (v ∷ []) (map f (drop (suc place) goods))
    ∙ ap (λ x. old ++ x ∷ map f (drop (suc place) goods)) value ∙ ap (λ xs. old ++ map f xs) (sym a) ∙ before

-- all free goods
pub free_all : (f : ℕ → ℕ) (goods : List ℕ) (place : ℕ) (list whole : List ℕ) → length goods ≤ place → list ++ map f (drop place goods) ≡ whole → list ≡ whole
free_all f goods place list whole l is =
    let e : map f (drop place goods) ≡ [] = ap (map f) (none_left goods place l) in
    sym (append-nil list) ∙ ap (λ xs. list ++ xs) (sym e) ∙ is

-- one more that is counted or not
pub count_more : (p : ℕ → Bool) (xs : List ℕ) (place count v whole : ℕ) → place < length xs → v ≡ cond (p (get_or xs place 0)) 1 0 → count + count_by p (drop place xs) ≡ whole
    → count + v + count_by p (drop (place + 1) xs) ≡ whole
count_more p xs place count v whole l value before =
    let a : count_by p (drop place xs) ≡ cond (p (get_or xs place 0)) 1 0 + count_by p (drop (place + 1) xs) = sum_by-drop_more (λ x. cond (p x) 1 0) xs place 0 l in
    omega arith

-- all are counted
pub count_all : (p : ℕ → Bool) (xs : List ℕ) (place count whole : ℕ) → length xs ≤ place → count + count_by p (drop place xs) ≡ whole → count ≡ whole
count_all p xs place count whole l is =
    let e : count_by p (drop place xs) ≡ 0 = ap (count_by p) (none_left xs place l) in
    omega arith

-- the next one that passes
pub any_here : (p : ℕ → Bool) (xs : List ℕ) (k : ℕ) (whole : Bool) → k < length xs → p (get_or xs k 0) ≡ true → list_any p (drop k xs) ≡ whole → true ≡ whole
any_here p xs k whole l h is =
    let a : drop k xs ≡ get_or xs k 0 ∷ drop (suc k) xs = drop-cons xs k 0 l in
    sym (ap (λ b. b || list_any p (drop (suc k) xs)) h) ∙ sym (ap (list_any p) a) ∙ is

-- the next one that does not
pub any_later : (p : ℕ → Bool) (xs : List ℕ) (k : ℕ) (whole : Bool) → k < length xs → p (get_or xs k 0) ≡ false → list_any p (drop k xs) ≡ whole → list_any p (drop (k + 1) xs) ≡ whole
any_later p xs k whole l h is =
    let e : k + 1 ≡ suc k = omega arith in
    let a : drop k xs ≡ get_or xs k 0 ∷ drop (suc k) xs = drop-cons xs k 0 l in
    ap (λ n. list_any p (drop n xs)) e ∙ sym (ap (λ b. b || list_any p (drop (suc k) xs)) h) ∙ sym (ap (list_any p) a) ∙ is

-- none is left that passes
pub any_none : (p : ℕ → Bool) (xs : List ℕ) (k : ℕ) (whole : Bool) → length xs ≤ k → list_any p (drop k xs) ≡ whole → false ≡ whole
any_none p xs k whole l is = sym (ap (list_any p) (none_left xs k l)) ∙ is
