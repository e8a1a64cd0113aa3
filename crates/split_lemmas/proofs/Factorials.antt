-- How large n! is.
use Rattle.std.proofs.Common.{◌≡◌, ℕ, zero, suc, ◌+◌, ◌*◌, ◌<◌, ◌≤◌, arith, ap, ◌∙◌, ⊎_elim}
use Rattle.std.proofs.lemmas.Bool.{cases_lt}
use Rattle.bid_rules.specs.Orders.{factorial}

-- more elements have no fewer orders
pub factorial_rises : (n m : ℕ) → n ≤ m → factorial n ≤ factorial m
factorial_rises n zero h = let none : n ≡ 0 = omega (arith, h) in let same = ap factorial none in omega (arith, same)
factorial_rises n (suc m) h = ⊎_elim
    (λ (less : n < suc m). let before = factorial_rises n m (omega (arith, less)) in omega (arith, before))
    (λ above. let here : n ≡ suc m = omega (arith, h, above) in let same = ap factorial here in omega (arith, same))
    (cases_lt n (suc m))

-- one more element
pub factorial_more : (n : ℕ) → factorial (n + 1) ≡ factorial n * (n + 1)
factorial_more n = let next : n + 1 ≡ suc n = omega arith in ap factorial next ∙ omega arith
