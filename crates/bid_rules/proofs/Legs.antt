-- The first number above the limit of cents, in a list of parts.
use Rattle.std.proofs.Common.{◌≡◌, ℕ, ◌+◌, ◌-◌, ◌<◌, ◌≤◌, List, ◌++◌, [], ◌∷◌, length, take, drop, get_or, All, flat_map, arith, sym, ap, ◌∙◌, subst, suc, ⊎_elim}
use Rattle.std.proofs.Math.Seq.{split_at, take-suc}
use Rattle.std.proofs.lemmas.Bool.{cases_lt}
use Rattle.std.proofs.lemmas.List.{get_or_append_left, get_or-append-add, length-append, append-nil}
use Rattle.std.proofs.lemmas.List.Concat.{flat_map-append}
use Rattle.bid_rules.specs.declared.limits.TheConstants.{MOST_FARE_CENTS}
use Rattle.bid_rules.specs.Facts.{IsFirstAboveLimit}

-- where the numbers before fit, the place in the row leads to the place in all
pub first_in_part : (before row after : List ℕ) (place : ℕ) → All (λ x. x ≤ MOST_FARE_CENTS) before → IsFirstAboveLimit row place → IsFirstAboveLimit (before ++ (row ++ after)) (length before + place)
first_in_part before row after place small h = record {
  stands = omega (arith, length-append before (row ++ after), length-append row after, h.stands);
  above = subst (λ n. MOST_FARE_CENTS < n) (sym (at place h.stands)) h.above;
  first = λ k below. ⊎_elim
      (λ early. subst (λ n. n ≤ MOST_FARE_CENTS) (sym (get_or_append_left before (row ++ after) 0 k early)) (small k 0 early))
      (λ late. let j : length before + (k - length before) ≡ k = omega arith in
      let near : k - length before < place = omega arith in
      let stands = h.stands in
      let within : k - length before < length row = omega arith in
      subst (λ n. get_or (before ++ (row ++ after)) n 0 ≤ MOST_FARE_CENTS) j
      (subst (λ n. n ≤ MOST_FARE_CENTS) (sym (at (k - length before) within)) (h.first (k - length before) near)))
      (cases_lt k (length before));
}
  where
    at : (i : ℕ) → i < length row → get_or (before ++ (row ++ after)) (length before + i) 0 ≡ get_or row i 0
    at i l = get_or-append-add before (row ++ after) i 0 ∙ get_or_append_left row after 0 i l

-- the parts before one, that part, and the parts after it
pub parts : {X : Type 0} (f : X → List ℕ) (xs : List X) (i : ℕ) (x : X) → i < length xs → x ≡ get_or xs i x → flat_map f xs ≡ flat_map f (take i xs) ++ (f x ++ flat_map f (drop (suc i) xs))
parts {X} f xs i x l e =
    ap (flat_map f) (split_at xs i x l) ∙ flat_map-append f (take i xs) (get_or xs i x ∷ drop (suc i) xs)
    ∙ ap (λ (y : X). flat_map f (take i xs) ++ (f y ++ flat_map f (drop (suc i) xs))) (sym e)

-- one more part
pub parts_more : {X : Type 0} (f : X → List ℕ) (xs : List X) (i : ℕ) (x : X) → i < length xs → x ≡ get_or xs i x → flat_map f (take (i + 1) xs) ≡ flat_map f (take i xs) ++ f x
parts_more {X} f xs i x l e =
    let next : i + 1 ≡ suc i = omega arith in
    ap (λ n. flat_map f (take n xs)) next ∙ ap (flat_map f) (take-suc xs i x l ∙ ap (λ (y : X). take i xs ++ y ∷ []) (sym e))
    ∙ flat_map-append f (take i xs) (x ∷ []) ∙ ap (λ ys. flat_map f (take i xs) ++ ys) (append-nil (f x))

-- where the parts before fit, the place in the part leads to the place in all
pub first_in_parts : {X : Type 0} (f : X → List ℕ) (xs : List X) (i : ℕ) (x : X) (passed place : ℕ) → i < length xs → x ≡ get_or xs i x
    → All (λ x. x ≤ MOST_FARE_CENTS) (flat_map f (take i xs)) → passed ≡ length (flat_map f (take i xs)) → IsFirstAboveLimit (f x) place
    → IsFirstAboveLimit (flat_map f xs) (passed + place)
first_in_parts f xs i x passed place l e fits is h =
    subst (λ n. IsFirstAboveLimit (flat_map f xs) (n + place)) (sym is)
    (subst (λ ys. IsFirstAboveLimit ys (length (flat_map f (take i xs)) + place)) (sym (parts f xs i x l e))
    (first_in_part (flat_map f (take i xs)) (f x) (flat_map f (drop (suc i) xs)) place fits h))
