-- Prices as fractions and in k-ths: two ways to write one price, and the sum of the prices.
use Rattle.std.proofs.Common.{◌≡◌, ℕ, ℤ, pos, suc, ◌*◌, ◌<◌, ◌≤◌, ◌*ℤ◌, List, [], ◌∷◌, length, arith, sym, ap, ◌∙◌}
use Rattle.std.specs.List.{AllZip}
use Rattle.std.proofs.Math.IntN.{zero-*ℤ, *ℤ_comm, pos-*ℤ-pos}
use Rattle.bid_rules.specs.Fractions.{Fraction, IsQuotient, HasSameValue, sum_of_fractions}
use Rattle.bid_rules.specs.Rent.{HasParts}
use Rattle.bid_rules.specs.Sums.{total}
use Rattle.bid_rules.specs.Walks.{weight_at}
use Rattle.split_lemmas.proofs.SignedProducts.{times_one, times_swap, times_cancel}
use Rattle.split_lemmas.proofs.FractionLaws.{sum_of_two}

-- a quotient, both sides times the denominator and the divisor of another
crossed : (a : Fraction) (x : ℤ) (k m n : ℕ) → IsQuotient a x k → a.0 *ℤ pos m *ℤ pos k *ℤ pos n ≡ x *ℤ pos n *ℤ pos a.1 *ℤ pos m
crossed a x k m n h =
    ap (λ z. z *ℤ pos n) (times_swap a.0 m k ∙ ap (λ z. z *ℤ pos m) h.1)
    ∙ times_swap (x *ℤ pos a.1) m n
    ∙ ap (λ z. z *ℤ pos m) (times_swap x a.1 n)

-- quotients of equal values have one value
same_quotient : (a b : Fraction) (x y : ℤ) (k l : ℕ) → 1 ≤ k → 1 ≤ l → IsQuotient a x k → IsQuotient b y l → x *ℤ pos l ≡ y *ℤ pos k → HasSameValue a b
same_quotient a b x y k l some more h g e =
    let ours = crossed a x k b.1 l h in
    let theirs = crossed b y l a.1 k g in
    let turned = times_swap (y *ℤ pos k) a.1 b.1 in
    let both : a.0 *ℤ pos b.1 *ℤ pos k *ℤ pos l ≡ b.0 *ℤ pos a.1 *ℤ pos k *ℤ pos l =
    ours ∙ ap (λ z. z *ℤ pos a.1 *ℤ pos b.1) e ∙ turned ∙ sym theirs ∙ times_swap (b.0 *ℤ pos a.1) l k in
    times_cancel (a.0 *ℤ pos b.1) (b.0 *ℤ pos a.1) k (omega arith)
    (times_cancel (a.0 *ℤ pos b.1 *ℤ pos k) (b.0 *ℤ pos a.1 *ℤ pos k) l (omega arith) both)

-- two lists of fractions whose parts have the same values
pub same_prices : (prices others : List Fraction) (k l : ℕ) (p q : List ℤ) → 1 ≤ k → 1 ≤ l → HasParts prices k p → HasParts others l q → length p ≡ length q
    → ((i : ℕ) → i < length p → pos l *ℤ weight_at p i ≡ pos k *ℤ weight_at q i) → AllZip HasSameValue prices others
same_prices [] [] k l [] [] some more h g e same = tt
same_prices [] (b ∷ others) k l [] [] some more h g e same = absurd g
same_prices (a ∷ prices) others k l [] q some more h g e same = absurd h
same_prices [] others k l (x ∷ p) q some more h g e same = absurd h
same_prices [] others k l [] (y ∷ q) some more h g e same = absurd (omega arith)
same_prices (a ∷ prices) [] k l (x ∷ p) (y ∷ q) some more h g e same = absurd g
same_prices (a ∷ prices) others k l (x ∷ p) [] some more h g e same = absurd (omega arith)
same_prices (a ∷ prices) (b ∷ others) k l (x ∷ p) (y ∷ q) some more h g e same =
    let first = same 0 (omega arith) in (
      same_quotient a b x y k l some more h.0 g.0 (*ℤ_comm x (pos l) ∙ first ∙ *ℤ_comm (pos k) y),
      same_prices prices others k l p q some more h.1 g.1 (omega arith) (λ i m. same (suc i) (omega arith)),
    )

-- the sum of the fractions is that of the parts
parts_sum : (k : ℕ) (prices : List Fraction) (p : List ℤ) → HasParts prices k p → IsQuotient (sum_of_fractions prices) (total (λ x. x) p) k
parts_sum k [] [] h = (omega arith, zero-*ℤ (pos k) ∙ sym (zero-*ℤ (pos 1)))
parts_sum k [] (x ∷ p) h = absurd h
parts_sum k (a ∷ prices) [] h = absurd h
parts_sum k (a ∷ prices) (x ∷ p) h = sum_of_two a (sum_of_fractions prices) x (total (λ x. x) p) k h.0 (parts_sum k prices p h.1)

-- parts that sum to k times a whole are of fractions that sum to it
pub whole_sum : (k whole : ℕ) (prices : List Fraction) (p : List ℤ) → 1 ≤ k → HasParts prices k p → total (λ x. x) p ≡ pos (k * whole) → IsQuotient (sum_of_fractions prices) (pos whole) 1
whole_sum k whole prices p some h e =
    let sum = parts_sum k prices p h in
    let fraction : Fraction = sum_of_fractions prices in
    let turned : k * whole ≡ whole * k = omega arith in
    let is : fraction.0 *ℤ pos k ≡ pos whole *ℤ pos fraction.1 *ℤ pos k =
    sum.1 ∙ ap (λ z. z *ℤ pos fraction.1) (e ∙ ap pos turned ∙ sym (pos-*ℤ-pos whole k)) ∙ times_swap (pos whole) k fraction.1 in
    (sum.0, times_one fraction.0 ∙ times_cancel fraction.0 (pos whole *ℤ pos fraction.1) k (omega arith) is)
