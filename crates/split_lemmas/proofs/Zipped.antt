-- Two lists whose elements are related one by one.
use Rattle.std.proofs.Common.{◌≡◌, ℕ, suc, zero, ◌+◌, ◌<◌, List, [], ◌∷◌, ◌++◌, length, take, get_or, arith, refl, ap, ◌∙◌, sym, subst}
use Rattle.std.specs.List.{AllZip}
use Rattle.std.proofs.Math.Seq.{take-suc}

-- such lists have one length
pub length-AllZip : {A B : Type 0} (R : A → B → Type 0) (xs : List A) (ys : List B) → AllZip R xs ys → length ys ≡ length xs
length-AllZip R [] [] h = refl
length-AllZip R [] (y ∷ ys) h = absurd h
length-AllZip R (x ∷ xs) [] h = absurd h
length-AllZip R (x ∷ xs) (y ∷ ys) h = ap suc (length-AllZip R xs ys h.1)

-- one more related pair
pub AllZip-push : {A B : Type 0} (R : A → B → Type 0) (xs : List A) (ys : List B) (x : A) (y : B) → AllZip R xs ys → R x y → AllZip R (xs ++ x ∷ []) (ys ++ y ∷ [])
AllZip-push R [] [] x y h r = (r, tt)
AllZip-push R [] (z ∷ ys) x y h r = absurd h
AllZip-push R (z ∷ xs) [] x y h r = absurd h
AllZip-push R (a ∷ xs) (b ∷ ys) x y h r = (h.0, AllZip-push R xs ys x y h.1 r)

-- the next element and one related to it
pub AllZip-more : {A B : Type 0} (R : A → B → Type 0) (xs : List A) (ys : List B) (i : ℕ) (d : A) (y : B) → i < length xs → AllZip R (take i xs) ys → R (get_or xs i d) y → AllZip R (take (i + 1) xs) (ys ++ y ∷ [])
AllZip-more R xs ys i d y l h r =
    let next : i + 1 ≡ suc i = omega arith in
    subst (λ zs. AllZip R zs (ys ++ y ∷ [])) (sym (ap (λ n. take n xs) next ∙ take-suc xs i d l)) (AllZip-push R (take i xs) ys (get_or xs i d) y h r)

-- the elements at one place are related
pub AllZip-get_or : {A B : Type 0} (R : A → B → Type 0) (xs : List A) (ys : List B) (i : ℕ) (d : A) (e : B) → i < length xs → AllZip R xs ys → R (get_or xs i d) (get_or ys i e)
AllZip-get_or R [] ys i d e l h = absurd (omega arith)
AllZip-get_or R (x ∷ xs) [] i d e l h = absurd h
AllZip-get_or R (x ∷ xs) (y ∷ ys) zero d e l h = h.0
AllZip-get_or R (x ∷ xs) (y ∷ ys) (suc i) d e l h = AllZip-get_or R xs ys i d e (omega arith) h.1
