-- Lemmas on what reads and writes do to known bytes.
use Rattle.std.proofs.Common.{◌≡◌, ℕ, ◌+◌, ◌<◌, ◌≤◌, min, List, [], ◌++◌, None, Some, IfSome, length, take, drop, arith, sym, ap, ◌∙◌, subst, take-append-drop, drop-drop, drop_of_length-le, length-append}
use Rattle.std.specs.Prelude.{Option}
use Rattle.std.specs.Io.KnownBytes.{Appends, Consumes}
use Rattle.std.proofs.KnownBytes.{Appends-trans}
use Rattle.std.proofs.lemmas.List.{drop_at}
use Rattle.std.proofs.Math.Seq.{take-add}

-- the next bytes of a piece were written after its front
pub Appends-take : (a b c : Option (List ℕ)) (xs : List ℕ) (i n : ℕ) → Appends a b (take i xs) → Appends b c (take n (drop i xs)) → Appends a c (take (i + n) xs)
Appends-take a b c xs i n p q = subst (Appends a c) (sym (take-add i n xs)) (Appends-trans a b c _ _ p q)

-- n bytes after the first ones, and more are not asked for
pub Consumes-over : (a c : Option (List ℕ)) (bs : List ℕ) (most : ℕ) → length bs ≡ most + 1 → Consumes a c bs
    → IfSome a (λ xs. (most < length xs) × (c ≡ Some (drop (most + 1) xs)))
Consumes-over None c bs most long p = tt
Consumes-over (Some x) None bs most long p = absurd p
Consumes-over (Some x) (Some y) bs most long p = (
  (let e = ap length p in omega (arith, length-append bs y)),
  ap Some (sym (ap (drop (most + 1)) p ∙ drop_at bs y (most + 1) long)),
)

-- one read of a source in memory
pub copied : (xs old new : List ℕ) (at n most : ℕ) → n ≡ min most (min (length old) (length (drop at xs))) → length new ≡ length old → 0 < most
    → take n new ≡ take n (drop at xs)
    → (n ≤ length new) × (drop at xs ≡ take n new ++ drop (at + n) xs) × (n ≡ 0 → 0 < length new → drop (at + n) xs ≡ [])
copied xs old new at n most count same some front = (
  omega arith,
  (sym (take-append-drop n (drop at xs)) ∙ ap (λ l. l ++ drop n (drop at xs)) (sym front) ∙ ap (λ l. take n new ++ l) (drop-drop n at xs)),
  λ zero room. sym (drop-drop n at xs) ∙ drop_of_length-le (drop at xs) (omega arith),
)
