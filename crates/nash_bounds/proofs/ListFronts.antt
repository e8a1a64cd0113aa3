-- How lists compare with another one, by its first owners.
use Rattle.std.proofs.Common.{◌≡◌, ℕ, zero, suc, ◌<◌, List, [], ◌∷◌, ◌++◌, length, take, get_or, Ordering, arith, refl, subst}
use Rattle.std.specs.Cmp.Lexicographic.{slice_cmp}
use Rattle.std.specs.Ordering.{nat_cmp, ordering_then}
use Rattle.std.specs.declared.cmp.Ordering.TheVariants.{Less, Equal, Greater}
use Rattle.std.proofs.lemmas.Cmp.{nat_list_cmp_total}
use Rattle.std.proofs.lemmas.Map.Lookups.{exact_bytes}
use Rattle.nash_bounds.proofs.BestOfRising.{Rising}

-- what begins with a list that is before the front of another is before that one
pub before_front : (front rest answer : List ℕ) → slice_cmp nat_cmp front (take (length front) answer) ≡ Less → slice_cmp nat_cmp (front ++ rest) answer ≡ Less
before_front [] rest answer h = cc
before_front (x ∷ front) rest [] h = cc
before_front (x ∷ front) rest (y ∷ answer) h = split (nat_cmp x y) h (before_front front rest answer)
  where
    split : (o : Ordering) → ordering_then o (slice_cmp nat_cmp front (take (length front) answer)) ≡ Less
        → (slice_cmp nat_cmp front (take (length front) answer) ≡ Less → slice_cmp nat_cmp (front ++ rest) answer ≡ Less)
        → ordering_then o (slice_cmp nat_cmp (front ++ rest) answer) ≡ Less
    split Less h more = refl
    split Equal h more = more h
    split Greater h more = cc

-- and what begins with one that is after the front of another is after that one's front
pub after_longer : (front rest answer : List ℕ) → slice_cmp nat_cmp front (take (length front) answer) ≡ Greater
    → slice_cmp nat_cmp (front ++ rest) (take (length (front ++ rest)) answer) ≡ Greater
after_longer [] rest answer h = cc
after_longer (x ∷ front) rest [] h = refl
after_longer (x ∷ front) rest (y ∷ answer) h = split (nat_cmp x y) h (after_longer front rest answer)
  where
    split : (o : Ordering) → ordering_then o (slice_cmp nat_cmp front (take (length front) answer)) ≡ Greater
        → (slice_cmp nat_cmp front (take (length front) answer) ≡ Greater → slice_cmp nat_cmp (front ++ rest) (take (length (front ++ rest)) answer) ≡ Greater)
        → ordering_then o (slice_cmp nat_cmp (front ++ rest) (take (length (front ++ rest)) answer)) ≡ Greater
    split Less h more = cc
    split Equal h more = more h
    split Greater h more = refl

-- a list before one that is not after a third is before the third
pub before_through : (a b d : List ℕ) → slice_cmp nat_cmp a b ≡ Less → (slice_cmp nat_cmp b d ≡ Greater → ⊥) → slice_cmp nat_cmp a d ≡ Less
before_through a b d h k = go (slice_cmp nat_cmp b d) refl
  where
    go : (o : Ordering) → slice_cmp nat_cmp b d ≡ o → slice_cmp nat_cmp a d ≡ Less
    go Less e = nat_list_cmp_total.trans a b d h e
    go Equal e = subst (λ x. slice_cmp nat_cmp a x ≡ Less) (exact_bytes b d e) h
    go Greater e = absurd (k e)

-- of a rising list
pub rising_places : (xs : List (List ℕ)) (i j : ℕ) → Rising xs → i < j → j < length xs → slice_cmp nat_cmp (get_or xs i []) (get_or xs j []) ≡ Less
rising_places [] i j r l m = absurd (omega arith)
rising_places (x ∷ xs) i zero r l m = absurd (omega arith)
rising_places (x ∷ xs) zero (suc j) r l m = r.0 j [] (omega arith)
rising_places (x ∷ xs) (suc i) (suc j) r l m = rising_places xs i j r.1 (omega arith) (omega arith)
