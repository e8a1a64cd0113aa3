-- Known bytes that grow piece by piece.
use Rattle.std.proofs.Common.{[], ap, ◌∙◌, append-nil, ◌≡◌, ℕ, ◌+◌, ◌<◌, ◌≤◌, Result, Ok, Err, OnErr, List, ◌∷◌, ◌++◌, Option, get_or, add-one, drop-cons, length, length-append, length-drop, arith, take, drop, sym, subst, take-append-drop, append_assoc}
use Rattle.std.specs.Io.KnownBytes.{Appends}
use Rattle.std.proofs.KnownBytes.{Appends-trans}
use Rattle.std.proofs.lemmas.List.{take_all, take_more}
use Rattle.std.specs.List.{flat_map}
use Rattle.std.proofs.lemmas.Grind.{flat_map-append}
use Rattle.split_http.specs.Pieces.{AppendsProperPart}

-- the first n of the bytes, where there are more, are a first part of them
pub proper_front : (a b : Option (List ℕ)) (n : ℕ) (xs : List ℕ) → n < length xs → Appends a b (take n xs) → AppendsProperPart a b xs
proper_front a b n xs fewer p = (take n xs, drop n xs, sym (take-append-drop n xs), omega (arith, fewer, length-drop {A = ℕ} n xs), p)

-- so where a write of all failed, a first part of them was written
pub OnErr-front : {A E : Type 0} (r : Result A E) (a b : Option (List ℕ)) (xs : List ℕ)
    → OnErr r ((n : ℕ) × (n < length xs) × Appends a b (take n xs)) → OnErr r (AppendsProperPart a b xs)
OnErr-front (Ok x) a b xs h = tt
OnErr-front (Err e) a b xs (n, fewer, p) = proper_front a b n xs fewer p

-- a first part of the next bytes, after all of the first
pub proper_after : (a b c : Option (List ℕ)) (xs ys zs : List ℕ)
    → Appends a b xs → AppendsProperPart b c ys → AppendsProperPart a c (xs ++ (ys ++ zs))
proper_after a b c xs ys zs p (part, rest, split, missing, q) =
    (xs ++ part, rest ++ zs, regroup, omega (arith, missing, length-append rest zs), Appends-trans a b c _ _ p q)
  where
    regroup : xs ++ (ys ++ zs) ≡ (xs ++ part) ++ (rest ++ zs)
    regroup = rw split (simp append_assoc)

-- a first part of some bytes is one of more bytes
pub proper_more : (a b : Option (List ℕ)) (xs zs : List ℕ) → AppendsProperPart a b xs → AppendsProperPart a b (xs ++ zs)
proper_more a b xs zs (part, rest, split, missing, q) = (part, rest ++ zs, rw split (simp append_assoc), omega (arith, missing, length-append rest zs), q)

-- a first part of the next bytes, after all of the first, and nothing after it
pub proper_next : (a b c : Option (List ℕ)) (xs ys : List ℕ) → Appends a b xs → AppendsProperPart b c ys → AppendsProperPart a c (xs ++ ys)
proper_next a b c xs ys p (part, rest, split, missing, q) = (xs ++ part, rest, rw split (simp append_assoc), missing, Appends-trans a b c _ _ p q)

-- where nothing was due no first part of it was written
pub proper_of_none : (a b : Option (List ℕ)) → AppendsProperPart a b [] → ⊥
proper_of_none a b (part, rest, split, missing, p) = let size : 0 ≡ length part + length rest = ap length split ∙ length-append part rest in omega (arith, size, missing)

-- bytes that wait, then a piece: some are written, and the others wait
pub held_more : (flat out held piece more next : List ℕ) → flat ≡ out ++ held → held ++ piece ≡ more ++ next → flat ++ piece ≡ (out ++ more) ++ next
held_more flat out held piece more next p q = rw p (simp append_assoc (ap (λ z. out ++ z) q))

-- one more piece
pub flat_map_next : {X : Type 0} (f : X → List ℕ) (xs : List X) (i : ℕ) (d : X) → i < length xs
    → flat_map f (take (i + 1) xs) ≡ flat_map f (take i xs) ++ f (get_or xs i d)
flat_map_next f xs i d h =
    let split : take (i + 1) xs ≡ take i xs ++ (get_or xs i d ∷ []) = take_more xs i d h in
    ap (flat_map f) split ∙ flat_map-append f (take i xs) (get_or xs i d ∷ []) ∙ ap (λ z. flat_map f (take i xs) ++ z) (append-nil (f (get_or xs i d)))

-- the pieces around one of them
pub flat_map_around : {X : Type 0} (f : X → List ℕ) (xs : List X) (i : ℕ) (d : X) → i < length xs
    → flat_map f xs ≡ flat_map f (take i xs) ++ (f (get_or xs i d) ++ flat_map f (drop (i + 1) xs))
flat_map_around f xs i d h =
    let split : take i xs ++ (get_or xs i d ∷ drop (i + 1) xs) ≡ xs = rw (add-one, ← drop-cons xs i d h) (take-append-drop i xs) in
    subst (λ ys. flat_map f ys ≡ flat_map f (take i xs) ++ (f (get_or xs i d) ++ flat_map f (drop (i + 1) xs))) split
    (flat_map-append f (take i xs) (get_or xs i d ∷ drop (i + 1) xs))

-- what was written, and a first part of what waited and the next piece, is a first part of all the pieces
pub part_of_pieces : {X : Type 0} (f : X → List ℕ) (xs : List X) (i : ℕ) (d : X) (a b c : Option (List ℕ)) (out held : List ℕ) → i < length xs
    → Appends a b out → flat_map f (take i xs) ≡ out ++ held → AppendsProperPart b c (held ++ f (get_or xs i d)) → AppendsProperPart a c (flat_map f xs)
part_of_pieces f xs i d a b c out held within written is part =
    let behind = flat_map f (drop (i + 1) xs) in
    let regroup : out ++ ((held ++ f (get_or xs i d)) ++ behind) ≡ flat_map f xs =
    sym (flat_map_around f xs i d within ∙ ap (λ front. front ++ (f (get_or xs i d) ++ behind)) is ∙ (simp append_assoc)) in
    subst (AppendsProperPart a c) regroup (proper_after a b c out (held ++ f (get_or xs i d)) behind written part)

-- what was written, and a first part of what waited last, is a first part of all the pieces
pub last_part : {X : Type 0} (f : X → List ℕ) (xs : List X) (i : ℕ) (a b c : Option (List ℕ)) (out held : List ℕ) → length xs ≤ i
    → Appends a b out → flat_map f (take i xs) ≡ out ++ held → AppendsProperPart b c held → AppendsProperPart a c (flat_map f xs)
last_part f xs i a b c out held past written is part =
    subst (AppendsProperPart a c) (sym is ∙ ap (flat_map f) (take_all i xs past)) (proper_next a b c out held written part)
