-- The order of lists of numbers.
use Rattle.std.proofs.Common.{◌≡◌, ◌≢◌, ℕ, ◌<◌, List, [], ◌∷◌, Ordering, refl, ap, ◌∙◌}
use Rattle.std.specs.Cmp.Lexicographic.{slice_cmp}
use Rattle.std.specs.Ordering.{nat_cmp, ordering_then, ordering_reverse, MatchOrdering}
use Rattle.std.specs.declared.cmp.Ordering.TheVariants.{Less, Equal, Greater}
use Rattle.std.proofs.lemmas.Cmp.{ranked, nat_list_cmp_total}

-- lists that compare as equal are the same
same_from_cmp : (xs ys : List ℕ) → slice_cmp nat_cmp xs ys ≡ Equal → xs ≡ ys
same_from_cmp [] [] h = refl
same_from_cmp [] (y ∷ ys) h = cc
same_from_cmp (x ∷ xs) [] h = cc
same_from_cmp (x ∷ xs) (y ∷ ys) h = split (nat_cmp x y) (ranked x y (nat_cmp x y) refl) h (same_from_cmp xs ys)
  where
    split : (o : Ordering) → MatchOrdering o (x < y) (x ≡ y) (y < x) → ordering_then o (slice_cmp nat_cmp xs ys) ≡ Equal → (slice_cmp nat_cmp xs ys ≡ Equal → xs ≡ ys) → x ∷ xs ≡ y ∷ ys
    split Less first h rest = cc
    split Equal first h rest = let e = rest h in cc
    split Greater first h rest = cc

-- lists of which neither is before the other are the same
pub same_from_neither : (xs ys : List ℕ) → slice_cmp nat_cmp xs ys ≢ Less → slice_cmp nat_cmp ys xs ≢ Less → xs ≡ ys
same_from_neither xs ys low high = split (slice_cmp nat_cmp xs ys) refl
  where
    split : (o : Ordering) → slice_cmp nat_cmp xs ys ≡ o → xs ≡ ys
    split Less e = absurd (low e)
    split Equal e = same_from_cmp xs ys e
    split Greater e = absurd (high (nat_list_cmp_total.antisymm ys xs ∙ ap ordering_reverse e))
