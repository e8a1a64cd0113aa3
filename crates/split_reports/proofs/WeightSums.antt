-- The sums of drawn weights.
use Rattle.std.proofs.Common.{◌≡◌, ℕ, zero, suc, ◌+◌, ◌*◌, ◌%◌, ◌≤◌, length, sum, ap, ◌∙◌, subst, arith}
use Rattle.std.proofs.lemmas.List.FromFn.{length-map-range_with_len}
use Rattle.std.proofs.lemmas.List.Sums.{sum_by_push}
use Rattle.split_reports.specs.declared.limits.TheConstants.{WEIGHTS}
use Rattle.split_reports.specs.TrialDraws.{after, next, weights_behind}
use Rattle.split_reports.proofs.Drawing.{weights_more, weights_none}

-- each weight adds 1 to WEIGHTS
sum_more : (draw n : ℕ) → sum (weights_behind draw (n + 1)) ≡ sum (weights_behind draw n) + (1 + next (after n draw) % WEIGHTS)
sum_more draw n = ap sum (weights_more draw n) ∙ sum_by_push (λ x. x) (weights_behind draw n) (1 + next (after n draw) % WEIGHTS)

pub weights_low : (draw n : ℕ) → n ≤ sum (weights_behind draw n)
weights_low draw zero = omega arith
weights_low draw (suc n) =
    let more = sum_more draw n in
    let before = weights_low draw n in
    let now : n + 1 ≤ sum (weights_behind draw (n + 1)) = omega (arith, more, before) in
    let same : n + 1 ≡ suc n = omega arith in
    subst (λ (k : ℕ). k ≤ sum (weights_behind draw k)) same now

pub weights_high : (draw n : ℕ) → sum (weights_behind draw n) ≤ 1000 * n
weights_high draw zero = let none = ap sum (weights_none draw) in omega (arith, none)
weights_high draw (suc n) =
    let more = sum_more draw n in
    let before = weights_high draw n in
    let now : sum (weights_behind draw (n + 1)) ≤ 1000 * (n + 1) = omega (arith, more, before) in
    let same : n + 1 ≡ suc n = omega arith in
    subst (λ (k : ℕ). sum (weights_behind draw k) ≤ 1000 * k) same now

pub weights_length : (draw n : ℕ) → length (weights_behind draw n) ≡ n
unfolding weights_behind
weights_length draw n = length-map-range_with_len (λ j. 1 + after (j + 1) draw % WEIGHTS) 0 n
