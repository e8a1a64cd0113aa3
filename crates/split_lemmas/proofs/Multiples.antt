-- A natural number of times a signed number, as sums and orders keep it: products with the natural number in front.
use Rattle.std.proofs.Common.{◌≡◌, ℕ, ℤ, pos, ◌*◌, ◌≤◌, ◌+ℤ◌, ◌-ℤ◌, ◌*ℤ◌, ◌≤ℤ◌, ◌<ℤ◌, arith, sym, ap, ◌∙◌, subst}
use Rattle.std.proofs.lemmas.Int.{ints, by_lt_z}
use Rattle.std.proofs.Math.IntN.{*ℤ_comm}
use Rattle.split_lemmas.proofs.SignedProducts.{add_times, le_times, less_times, times_swap, times_times}

-- so many times a sum
pub multiple_sum : (k : ℕ) (a b : ℤ) → pos k *ℤ (a +ℤ b) ≡ pos k *ℤ a +ℤ pos k *ℤ b
multiple_sum k a b = omega (arith, ints, add_times a b k, *ℤ_comm (pos k) (a +ℤ b), *ℤ_comm (pos k) a, *ℤ_comm (pos k) b)

-- so many times a difference
pub multiple_difference : (k : ℕ) (a b : ℤ) → pos k *ℤ (a -ℤ b) ≡ pos k *ℤ a -ℤ pos k *ℤ b
multiple_difference k a b =
    let whole : a -ℤ b +ℤ b ≡ a = omega (arith, ints) in
    let sum : pos k *ℤ a ≡ pos k *ℤ (a -ℤ b) +ℤ pos k *ℤ b = subst (λ z. pos k *ℤ z ≡ pos k *ℤ (a -ℤ b) +ℤ pos k *ℤ b) whole (multiple_sum k (a -ℤ b) b) in
    omega (arith, ints, sum)

-- so many times a number that is no greater
pub multiple_le : (k : ℕ) (a b : ℤ) → a ≤ℤ b → (pos k *ℤ a) ≤ℤ (pos k *ℤ b)
multiple_le k a b h = omega (arith, ints, le_times a b k h, *ℤ_comm (pos k) a, *ℤ_comm (pos k) b)

-- what is no greater when taken a positive number of times is no greater
pub multiple_cancel : (k : ℕ) (a b : ℤ) → 1 ≤ k → (pos k *ℤ a) ≤ℤ (pos k *ℤ b) → a ≤ℤ b
multiple_cancel k a b some h =
    by_lt_z b a (λ (low : b <ℤ a). absurd (omega (arith, ints, h, less_times b a k (omega arith) low, *ℤ_comm (pos k) a, *ℤ_comm (pos k) b))) (λ (up : a ≤ℤ b). up)

-- one number of times after another
pub multiple_multiple : (m n : ℕ) (z : ℤ) → pos (m * n) *ℤ z ≡ pos m *ℤ (pos n *ℤ z)
multiple_multiple m n z =
    let inner : pos m *ℤ (pos n *ℤ z) ≡ z *ℤ pos n *ℤ pos m = *ℤ_comm (pos m) (pos n *ℤ z) ∙ ap (λ y. y *ℤ pos m) (*ℤ_comm (pos n) z) in
    *ℤ_comm (pos (m * n)) z ∙ sym (times_times z m n) ∙ times_swap z m n ∙ sym inner
