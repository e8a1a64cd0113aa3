-- The numbers from one on, one more and in two parts.
use Rattle.std.proofs.Common.{◌≡◌, ℕ, zero, suc, ◌+◌, List, [], ◌∷◌, ◌++◌, flat_map, append-nil, arith, refl, ap, ◌∙◌}
use Rattle.std.specs.List.{range_with_len, sum_by}
use Rattle.std.proofs.lemmas.List.Sums.{sum_by-cons, sum_by-append}
use Rattle.std.proofs.lemmas.List.Concat.{flat_map-append}

-- one more number comes last
pub range_next : (a n last : ℕ) → a + n ≡ last → range_with_len a (n + 1) ≡ range_with_len a n ++ last ∷ []
range_next a zero last e = ap (λ x. x ∷ []) (let same : a ≡ last = omega (arith, e) in same)
range_next a (suc n) last e =
    let more : suc n + 1 ≡ suc (n + 1) = omega arith in
    ap (range_with_len a) more ∙ ap (λ xs. a ∷ xs) (range_next (a + 1) n last (omega (arith, e)))

-- which is their first and their count
pub range_more : (a n : ℕ) → range_with_len a (n + 1) ≡ range_with_len a n ++ (a + n) ∷ []
range_more a n = range_next a n (a + n) refl

-- the first numbers, and the others
pub range_split : (a m n : ℕ) → range_with_len a (m + n) ≡ range_with_len a m ++ range_with_len (a + m) n
range_split a zero n = let e : zero + n ≡ n = omega arith in let g : a + zero ≡ a = omega arith in rw (e, g) refl
range_split a (suc m) n = let e : suc m + n ≡ suc (m + n) = omega arith in let g : a + suc m ≡ a + 1 + m = omega arith in rw (e, g) (ap (λ xs. a ∷ xs) (range_split (a + 1) m n))

-- one more summand
pub sum_more : (g : ℕ → ℕ) (a i : ℕ) → sum_by g (range_with_len a (i + 1)) ≡ sum_by g (range_with_len a i) + g (a + i)
sum_more g a i =
    let one : sum_by g ((a + i) ∷ []) ≡ g (a + i) + 0 = sum_by-cons g (a + i) [] in
    let two : sum_by g (range_with_len a i ++ (a + i) ∷ []) ≡ sum_by g (range_with_len a i) + sum_by g ((a + i) ∷ []) = sum_by-append g (range_with_len a i) ((a + i) ∷ []) in
    ap (sum_by g) (range_more a i) ∙ two ∙ omega (arith, one)

-- one more part of a joined list
pub flat_more : {X : Type 0} (f : ℕ → List X) (a i : ℕ) → flat_map f (range_with_len a (i + 1)) ≡ flat_map f (range_with_len a i) ++ f (a + i)
flat_more f a i =
    ap (flat_map f) (range_more a i) ∙ flat_map-append f (range_with_len a i) ((a + i) ∷ []) ∙ ap (λ xs. flat_map f (range_with_len a i) ++ xs) (append-nil (f (a + i)))
