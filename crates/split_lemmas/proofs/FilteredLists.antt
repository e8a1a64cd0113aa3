-- What a test lets through a list of numbers, and the first place of a number.
use Rattle.std.proofs.Common.{◌≡◌, ℕ, zero, suc, ◌<◌, ◌≤◌, ◌==◌, not, List, [], ◌∷◌, get_or, length, Contains, Bool, true, false, cond, arith, ap, ◌∙◌, ⊎_elim}
use Rattle.std.specs.List.{filter, position_or_len}
use Rattle.std.proofs.lemmas.Bool.{cases_lt}
use Rattle.std.proofs.lemmas.Bool.Decides.{nat_tests}
use Rattle.std.proofs.lemmas.List.{get_or_default}
use Rattle.std.proofs.lemmas.List.Sums.{prefix_len_passes, prefix_len_stops}

-- a number of a list has a place in it
pub placed : (x : ℕ) (xs : List ℕ) → Contains xs x → (position_or_len (λ y. y == x) xs < length xs) × (get_or xs (position_or_len (λ y. y == x) xs) 0 ≡ x)
placed x xs c =
    let k : ℕ = position_or_len (λ y. y == x) xs in
    let within : k < length xs = ⊎_elim
    (λ l. l)
    (λ (above : length xs ≤ k).
    let passes : not (get_or xs c.0 x == x) ≡ true = prefix_len_passes (λ y. not (y == x)) xs c.0 x (omega (arith, c.1, above)) in
    let same = c.2 in
    absurd (opposite (get_or xs c.0 x) x same passes))
    (cases_lt k (length xs)) in
    let stops : not (get_or xs k x == x) ≡ false = prefix_len_stops (λ y. not (y == x)) xs x within in
    (within, get_or_default xs k 0 x within ∙ stopped (get_or xs k x) x stops)
  where
    opposite : (y x : ℕ) → y ≡ x → not (y == x) ≡ true → ⊥
    opposite y x e h = grind (arith, nat_tests)

    stopped : (y x : ℕ) → not (y == x) ≡ false → y ≡ x
    stopped y x h = grind (arith, nat_tests)

-- a number that passes a test is let through
pub kept : (p : ℕ → Bool) (xs : List ℕ) (x : ℕ) → Contains xs x → p x ≡ true → Contains (filter p xs) x
kept p [] x c e = absurd (let l = c.1 in omega arith)
kept p (y ∷ xs) x (zero, l, at) e = by (p y) (ap p at ∙ e)
  where
    by : (b : Bool) → b ≡ true → Contains (cond b (y ∷ filter p xs) (filter p xs)) x
    by true f = (0, omega arith, at)
    by false f = cc
kept p (y ∷ xs) x (suc k, l, at) e = by (p y) (kept p xs x (k, omega arith, at) e)
  where
    by : (b : Bool) → Contains (filter p xs) x → Contains (cond b (y ∷ filter p xs) (filter p xs)) x
    by true f = (suc f.0, (let m = f.1 in omega arith), f.2)
    by false f = f
