-- Quotients by one divisor: their sum, and that each has one value.
use Rattle.std.proofs.Common.{◌≡◌, ℕ, ℤ, pos, ◌*◌, ◌<◌, ◌+ℤ◌, ◌*ℤ◌, List, [], ◌∷◌, arith, sym, ap, ◌∙◌}
use Rattle.std.specs.List.{AllZip}
use Rattle.std.proofs.Math.IntN.{zero-*ℤ}
use Rattle.bid_rules.specs.Fractions.{Fraction, IsQuotient, HasSameValue, fraction_sum, sum_of_fractions}
use Rattle.split_lemmas.proofs.SignedProducts.{add_times, times_one, times_times, times_swap, times_cancel}
use Rattle.bid_rules.specs.Sums.{total}

-- a quotient times another denominator, times the divisor
crosswise : (a : Fraction) (whole : ℤ) (k n : ℕ) → IsQuotient a whole k → a.0 *ℤ pos n *ℤ pos k ≡ whole *ℤ pos (a.1 * n)
crosswise a whole k n h = times_swap a.0 n k ∙ ap (λ z. z *ℤ pos n) h.1 ∙ times_times whole a.1 n

-- two quotients of the same have one value
pub same_value : (a b : Fraction) (whole : ℤ) (k : ℕ) → 0 < k → IsQuotient a whole k → IsQuotient b whole k → HasSameValue a b
same_value a b whole k some h g =
    let other : a.1 * b.1 ≡ b.1 * a.1 = omega arith in
    times_cancel (a.0 *ℤ pos b.1) (b.0 *ℤ pos a.1) k some
    (crosswise a whole k b.1 h ∙ ap (λ n. whole *ℤ pos n) other ∙ sym (crosswise b whole k a.1 g))

-- two lists of quotients of the same have the same values
pub same_values : {X : Type 0} (whole : X → ℤ) (k : ℕ) → 0 < k → (xs : List X) (fs gs : List Fraction)
    → AllZip (λ x a. IsQuotient a (whole x) k) xs fs → AllZip (λ x b. IsQuotient b (whole x) k) xs gs → AllZip HasSameValue fs gs
same_values whole k some [] [] [] h g = tt
same_values whole k some [] [] (b ∷ gs) h g = absurd g
same_values whole k some [] (a ∷ fs) gs h g = absurd h
same_values whole k some (x ∷ xs) [] gs h g = absurd h
same_values whole k some (x ∷ xs) (a ∷ fs) [] h g = absurd g
same_values whole k some (x ∷ xs) (a ∷ fs) (b ∷ gs) h g = (same_value a b (whole x) k some h.0 g.0, same_values whole k some xs fs gs h.1 g.1)

-- the sum of two quotients
pub sum_of_two : (a b : Fraction) (u v : ℤ) (k : ℕ) → IsQuotient a u k → IsQuotient b v k → IsQuotient (fraction_sum a b) (u +ℤ v) k
sum_of_two a b u v k h g =
    let some : 0 < a.1 * b.1 = (let x = h.0 in let y = g.0 in grind arith) in
    let other : b.1 * a.1 ≡ a.1 * b.1 = omega arith in (
      some,
      add_times (a.0 *ℤ pos b.1) (b.0 *ℤ pos a.1) k
          ∙ ap (λ z. z +ℤ b.0 *ℤ pos a.1 *ℤ pos k) (crosswise a u k b.1 h)
          ∙ ap (λ z. u *ℤ pos (a.1 * b.1) +ℤ z) (crosswise b v k a.1 g ∙ ap (λ n. v *ℤ pos n) other)
          ∙ sym (add_times u v (a.1 * b.1)),
    )

-- the sum of a list of quotients
pub sum_of_quotients : {X : Type 0} (whole : X → ℤ) (k : ℕ) (xs : List X) (fs : List Fraction) → AllZip (λ x a. IsQuotient a (whole x) k) xs fs → IsQuotient (sum_of_fractions fs) (total whole xs) k
sum_of_quotients whole k [] [] h = (omega arith, zero-*ℤ (pos k) ∙ sym (zero-*ℤ (pos 1)))
sum_of_quotients whole k [] (a ∷ fs) h = absurd h
sum_of_quotients whole k (x ∷ xs) [] h = absurd h
sum_of_quotients whole k (x ∷ xs) (a ∷ fs) h = sum_of_two a (sum_of_fractions fs) (whole x) (total whole xs) k h.0 (sum_of_quotients whole k xs fs h.1)

-- so many times a whole, divided into so many parts, is the whole
pub quotient_whole : (a : Fraction) (whole : ℤ) (k : ℕ) → 0 < k → IsQuotient a (whole *ℤ pos k) k → IsQuotient a whole 1
quotient_whole a whole k some h = (h.0, times_one a.0 ∙ times_cancel a.0 (whole *ℤ pos a.1) k some (h.1 ∙ times_swap whole k a.1))
