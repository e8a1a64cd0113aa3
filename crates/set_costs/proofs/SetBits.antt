-- The riders of a set are those of the first riders whose bit is set.
use Rattle.std.proofs.Common.{◌≡◌, ℕ, ◌+◌, ◌-◌, ◌≤◌, ◌==◌, List, [], ◌∷◌, ◌++◌, length, false, cond, arith, sym, ap, ◌∙◌}
use Rattle.std.specs.Int.{bit_at}
use Rattle.std.specs.List.{filter, range_with_len}
use Rattle.std.proofs.lemmas.Bool.Decides.{nat_tests}
use Rattle.std.proofs.lemmas.List.{append-nil}
use Rattle.std.proofs.lemmas.List.Elements.{filter-append}
use Rattle.std.proofs.lemmas.List.FromFn.{length-range_with_len}
use Rattle.std.proofs.lemmas.List.Sums.{length-filter, count_by-le-length}
use Rattle.bid_rules.specs.Coalitions.{has_rider}
use Rattle.split_lemmas.proofs.RangeSteps.{range_next}

-- some of the first riders are no more than they
pub first_few : (set n : ℕ) → length (filter (has_rider set) (range_with_len 1 n)) ≤ n
first_few set n =
    omega (arith, length-filter (has_rider set) (range_with_len 1 n), count_by-le-length (has_rider set) (range_with_len 1 n), length-range_with_len 1 n)

-- the next rider is kept where the bit is set
first_more : (set n : ℕ) → filter (has_rider set) (range_with_len 1 (n + 1)) ≡ filter (has_rider set) (range_with_len 1 n) ++ cond (bit_at set n == 1) ((n + 1) ∷ []) []
first_more set n =
    let before : n + 1 - 1 ≡ n = omega arith in
    ap (filter (has_rider set)) (range_next 1 n (n + 1) (omega arith))
    ∙ filter-append (has_rider set) (range_with_len 1 n) ((n + 1) ∷ [])
    ∙ ap (λ k. filter (has_rider set) (range_with_len 1 n) ++ cond (bit_at set k == 1) ((n + 1) ∷ []) []) before

-- a rider whose bit is set is one more
pub first_with : (set n : ℕ) (old new : List ℕ) → bit_at set n ≡ 1 → new ≡ old ++ (n + 1) ∷ [] → old ≡ filter (has_rider set) (range_with_len 1 n) → new ≡ filter (has_rider set) (range_with_len 1 (n + 1))
first_with set n old new h e is =
    e ∙ ap (λ xs. xs ++ (n + 1) ∷ []) is ∙ sym (first_more set n ∙ ap (λ b. filter (has_rider set) (range_with_len 1 n) ++ cond (b == 1) ((n + 1) ∷ []) []) h)

-- another is left out
pub first_without : (set n : ℕ) (old : List ℕ) → (bit_at set n ≡ 1 → ⊥) → old ≡ filter (has_rider set) (range_with_len 1 n) → old ≡ filter (has_rider set) (range_with_len 1 (n + 1))
first_without set n old h is =
    let test : (bit_at set n == 1) ≡ false = unset (bit_at set n) h in
    is ∙ sym (append-nil (filter (has_rider set) (range_with_len 1 n))) ∙ sym (first_more set n ∙ ap (λ b. filter (has_rider set) (range_with_len 1 n) ++ cond b ((n + 1) ∷ []) []) test)
  where
    unset : (b : ℕ) → (b ≡ 1 → ⊥) → (b == 1) ≡ false
    unset b g = grind (arith, nat_tests)
