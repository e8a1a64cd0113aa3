-- How many starts a set has.
use Rattle.std.proofs.Common.{◌≡◌, ℕ, zero, suc, ◌+◌, ◌-◌, ◌≤◌, ◌<◌, ◌==◌, [], ◌∷◌, ◌++◌, length, cond, arith, ap, ◌∙◌, not, length-append, refl, Bool}
use Rattle.std.specs.Int.{bit_at}
use Rattle.std.specs.List.{filter, range_with_len}
use Rattle.std.proofs.lemmas.List.Elements.{filter-append}
use Rattle.std.proofs.lemmas.List.FromFn.{length-range_with_len}
use Rattle.std.proofs.lemmas.List.Sums.{length-filter, count_by-le-length}
use Rattle.bid_rules.specs.Coalitions.{has_rider}
use Rattle.split_lemmas.proofs.RangeSteps.{range_next}
use Rattle.cert_reader.specs.Sets.{starts}

-- at most one more than there are riders
pub starts_few : (n set : ℕ) → length (starts n set) ≤ n + 1
starts_few n set =
    let absent : ℕ → Bool = λ rider. not (has_rider set rider) in
    omega (arith, length-filter absent (range_with_len 1 n), count_by-le-length absent (range_with_len 1 n), length-range_with_len 1 n)

-- the next rider is a start where the bit isn't set
starts_more : (n set : ℕ) → starts (n + 1) set ≡ starts n set ++ cond (not (bit_at set n == 1)) ((n + 1) ∷ []) []
starts_more n set =
    let absent : ℕ → Bool = λ rider. not (has_rider set rider) in
    let before : n + 1 - 1 ≡ n = omega arith in
    ap (λ xs. 0 ∷ filter absent xs) (range_next 1 n (n + 1) (omega arith))
    ∙ ap (λ xs. 0 ∷ xs) (filter-append absent (range_with_len 1 n) ((n + 1) ∷ []))
    ∙ ap (λ k. 0 ∷ (filter absent (range_with_len 1 n) ++ cond (not (bit_at set k == 1)) ((n + 1) ∷ []) [])) before

-- one start more
pub start_without : (n set count : ℕ) → bit_at set n ≡ 0 → count ≡ length (starts n set) → count + 1 ≡ length (starts (n + 1) set)
start_without n set count h e =
    let more : length (starts (n + 1) set) ≡ length (starts n set ++ (n + 1) ∷ []) = ap length (starts_more n set ∙ ap (λ b. starts n set ++ cond (not (b == 1)) ((n + 1) ∷ []) []) h) in
    omega (arith, more, length-append (starts n set) ((n + 1) ∷ []))

-- no start more
pub start_with : (n set count : ℕ) → (bit_at set n ≡ 0 → ⊥) → bit_at set n < 2 → count ≡ length (starts n set) → count ≡ length (starts (n + 1) set)
start_with n set count h low e =
    let one : bit_at set n ≡ 1 = above (bit_at set n) h low in
    let more : length (starts (n + 1) set) ≡ length (starts n set ++ []) = ap length (starts_more n set ∙ ap (λ b. starts n set ++ cond (not (b == 1)) ((n + 1) ∷ []) []) one) in
    omega (arith, more, length-append {A = ℕ} (starts n set) [])
  where
    above : (b : ℕ) → (b ≡ 0 → ⊥) → b < 2 → b ≡ 1
    above zero g l = absurd (g refl)
    above (suc b) g l = omega arith
