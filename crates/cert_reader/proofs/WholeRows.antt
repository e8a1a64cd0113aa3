-- Rows of whole numbers, from the fractions over 1 that a line was read to say.
use Rattle.std.proofs.Common.{◌≡◌, ℕ, ℤ, suc, ◌+◌, ◌<◌, List, [], ◌∷◌, ◌++◌, length, map, get_or, take, drop, All, true, to_z, of_z, arith, refl, sym, ap, ◌∙◌, subst}
use Rattle.std.specs.Int.{w128}
use Rattle.std.proofs.lemmas.Int.{fits_signed_from_abs, to_z-of_z}
use Rattle.std.proofs.lemmas.List.{get_or-map, map-append, take_more}
use Rattle.std.proofs.lemmas.List.Elements.{All-append, All-cons, All-nil, All-tail}
use Rattle.split_frac.specs.declared.frac.Frac.{Frac}
use Rattle.split_frac.specs.Frac.{fraction_of}
use Rattle.cert_reader.specs.Numbers.{AreSmall, IsNumber, IsSmall}
use Rattle.cert_reader.specs.Text.{wholes}

-- the number at a place is whole, and has at most 25 digits
pub whole_at : (numbers : List Frac) (k : ℕ) (d : Frac) → All (IsNumber true) (map fraction_of numbers) → k < length numbers → IsNumber true (fraction_of (get_or numbers k d))
whole_at numbers k d h l = subst (IsNumber true) (get_or-map fraction_of numbers k d (fraction_of d) l) (h k (fraction_of d) (subst (λ n. k < n) (sym (length_map numbers)) l))
  where
    length_map : (numbers : List Frac) → length (map fraction_of numbers) ≡ length numbers
    length_map [] = refl
    length_map (x ∷ xs) = ap suc (length_map xs)

-- one number more of a row
pub whole_more : (row : List ℤ) (numbers : List Frac) (k : ℕ) (n : Frac) → wholes row ≡ map fraction_of (take k numbers) → All (IsNumber true) (map fraction_of numbers) → k < length numbers → n ≡ get_or numbers k n
    → wholes (row ++ n.num ∷ []) ≡ map fraction_of (take (k + 1) numbers)
whole_more row numbers k n e whole l is =
    let one = subst (λ (f : Frac). IsNumber true (fraction_of f)) (sym is) (whole_at numbers k n whole l) in
    let pair : (n.num, 1) ≡ fraction_of n = ap (λ (den : ℕ). (n.num, den)) (sym (one.is_whole refl)) in
    map-append (λ number. (number, 1)) row (n.num ∷ []) ∙ ap (λ xs. xs ++ (n.num, 1) ∷ []) e ∙ ap (λ f. map fraction_of (take k numbers) ++ f ∷ []) pair
    ∙ sym (map-append fraction_of (take k numbers) (n ∷ [])) ∙ ap (λ f. map fraction_of (take k numbers ++ f ∷ [])) is ∙ ap (map fraction_of) (sym (take_more numbers k n l))

-- a row of numbers of at most 25 digits stays one with the next number of a line
pub small_more : (row : List ℤ) (numbers : List Frac) (k : ℕ) (n : Frac) → AreSmall row → All (IsNumber true) (map fraction_of numbers) → k < length numbers → n ≡ get_or numbers k n → AreSmall (row ++ n.num ∷ [])
small_more row numbers k n small whole l is =
    let one = subst (λ (f : Frac). IsNumber true (fraction_of f)) (sym is) (whole_at numbers k n whole l) in
    All-append IsSmall row (n.num ∷ []) small (All-cons IsSmall n.num [] one.size (All-nil IsSmall))

-- a number of at most 25 digits is read back from 128 bits
pub same_back : (z : ℤ) → IsSmall z → to_z w128 (of_z w128 z) ≡ z
same_back z small = to_z-of_z w128 z (fits_signed_from_abs w128 z (omega (arith, small)))

-- the number at a place is small
pub small_at : (numbers : List Frac) (k : ℕ) (n : Frac) → All (IsNumber true) (map fraction_of numbers) → k < length numbers → n ≡ get_or numbers k n → IsSmall n.num
small_at numbers k n whole l is = (subst (λ (f : Frac). IsNumber true (fraction_of f)) (sym is) (whole_at numbers k n whole l)).size

-- a row of one number
pub one_number : (numbers : List Frac) (n : Frac) → All (IsNumber true) (map fraction_of numbers) → length numbers ≡ 1 → n ≡ get_or numbers 0 n → wholes (n.num ∷ []) ≡ map fraction_of numbers
one_number [] n whole one is = absurd (omega arith)
one_number (x ∷ []) n whole one is =
    let whole_n = subst (λ (f : Frac). IsNumber true (fraction_of f)) (sym is) (whole_at (x ∷ []) 0 n whole (omega arith)) in
    ap (λ (den : ℕ). (n.num, den) ∷ []) (sym (whole_n.is_whole refl)) ∙ ap (λ f. fraction_of f ∷ []) is
one_number (x ∷ y ∷ ys) n whole one is = absurd (omega arith)

-- whichever number replaces one that is absent
pub first_is : (numbers : List Frac) (d : Frac) → length numbers ≡ 1 → get_or numbers 0 d ≡ get_or numbers 0 (get_or numbers 0 d)
first_is [] d one = absurd (omega arith)
first_is (x ∷ xs) d one = refl

-- the numbers except for the first
pub whole_rest : (numbers : List Frac) → All (IsNumber true) (map fraction_of numbers) → All (IsNumber true) (map fraction_of (drop 1 numbers))
whole_rest [] h = h
whole_rest (x ∷ xs) h = All-tail (IsNumber true) (fraction_of x) (map fraction_of xs) h
