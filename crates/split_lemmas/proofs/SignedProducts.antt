-- Signed numbers times natural numbers.
use Rattle.std.proofs.Common.{◌≡◌, ℕ, ℤ, pos, suc, zero, ◌+◌, ◌*◌, ◌<◌, ◌+ℤ◌, ◌*ℤ◌, ◌≤ℤ◌, ◌<ℤ◌, arith, sym, ap, ◌∙◌}
use Rattle.std.proofs.lemmas.Int.{ints, by_lt_z}
use Rattle.std.proofs.Math.IntN.{suc_ℤ-*ℤ, *ℤ-zero, *ℤ_comm}

-- once more
pub times_suc : (z : ℤ) (k : ℕ) → z *ℤ pos (suc k) ≡ z *ℤ pos k +ℤ z
times_suc z k = *ℤ_comm z (pos (suc k)) ∙ suc_ℤ-*ℤ (pos k) z ∙ ap (λ y. y +ℤ z) (*ℤ_comm (pos k) z)

-- once
pub times_one : (z : ℤ) → z *ℤ pos 1 ≡ z
times_one z = omega (arith, ints, times_suc z 0, *ℤ-zero z)

-- a sum, so many times
pub add_times : (a b : ℤ) (k : ℕ) → (a +ℤ b) *ℤ pos k ≡ a *ℤ pos k +ℤ b *ℤ pos k
add_times a b zero = omega (arith, ints, *ℤ-zero (a +ℤ b), *ℤ-zero a, *ℤ-zero b)
add_times a b (suc k) = let h = add_times a b k in omega (arith, ints, h, times_suc (a +ℤ b) k, times_suc a k, times_suc b k)

-- so many times and so many more
pub times_add : (z : ℤ) (m n : ℕ) → z *ℤ pos (m + n) ≡ z *ℤ pos m +ℤ z *ℤ pos n
times_add z m zero = let none : m + 0 ≡ m = omega arith in let same = ap (λ k. z *ℤ pos k) none in omega (arith, ints, same, *ℤ-zero z)
times_add z m (suc n) =
    let next : m + suc n ≡ suc (m + n) = omega arith in
    let same = ap (λ k. z *ℤ pos k) next in
    let h = times_add z m n in
    omega (arith, ints, same, h, times_suc z (m + n), times_suc z n)

-- one number of times after another
pub times_times : (z : ℤ) (m n : ℕ) → z *ℤ pos m *ℤ pos n ≡ z *ℤ pos (m * n)
times_times z m zero = let none : m * 0 ≡ 0 = omega arith in *ℤ-zero (z *ℤ pos m) ∙ sym (ap (λ k. z *ℤ pos k) none ∙ *ℤ-zero z)
times_times z m (suc n) =
    let next : m * suc n ≡ m * n + m = omega arith in
    let same = ap (λ k. z *ℤ pos k) next in
    let h = times_times z m n in
    omega (arith, ints, same, h, times_suc (z *ℤ pos m) n, times_add z (m * n) m)

-- in either order
pub times_swap : (z : ℤ) (m n : ℕ) → z *ℤ pos m *ℤ pos n ≡ z *ℤ pos n *ℤ pos m
times_swap z m n = let other : m * n ≡ n * m = omega arith in times_times z m n ∙ ap (λ k. z *ℤ pos k) other ∙ sym (times_times z n m)

-- a smaller number is smaller when taken a positive number of times
times_lt : (a b : ℤ) (k : ℕ) → a <ℤ b → (a *ℤ pos (suc k)) <ℤ (b *ℤ pos (suc k))
times_lt a b zero h = omega (arith, ints, times_one a, times_one b)
times_lt a b (suc k) h = let r = times_lt a b k h in omega (arith, ints, r, times_suc a (suc k), times_suc b (suc k))

-- what is equal when taken a positive number of times
pub times_cancel : (a b : ℤ) (k : ℕ) → 0 < k → a *ℤ pos k ≡ b *ℤ pos k → a ≡ b
times_cancel a b zero some h = absurd (omega arith)
times_cancel a b (suc k) some h = by_lt_z a b
    (λ (low : a <ℤ b). absurd (let r = times_lt a b k low in omega (arith, ints, h, r)))
    (λ (up : b ≤ℤ a). by_lt_z b a (λ (low : b <ℤ a). absurd (let r = times_lt b a k low in omega (arith, ints, h, r))) (λ (down : a ≤ℤ b). omega (arith, ints)))

-- what is no greater stays so when taken so many times
pub le_times : (a b : ℤ) (k : ℕ) → a ≤ℤ b → (a *ℤ pos k) ≤ℤ (b *ℤ pos k)
le_times a b zero h = omega (arith, ints, *ℤ-zero a, *ℤ-zero b)
le_times a b (suc k) h = let r = le_times a b k h in omega (arith, ints, r, times_suc a k, times_suc b k)

-- what is smaller stays so when taken a positive number of times
pub less_times : (a b : ℤ) (k : ℕ) → 0 < k → a <ℤ b → (a *ℤ pos k) <ℤ (b *ℤ pos k)
less_times a b zero some h = absurd (omega arith)
less_times a b (suc k) some h = times_lt a b k h

-- what is smaller when taken so many times is smaller
pub less_cancel : (a b : ℤ) (k : ℕ) → (a *ℤ pos k) <ℤ (b *ℤ pos k) → a <ℤ b
less_cancel a b k h = by_lt_z a b (λ low. low) (λ (up : b ≤ℤ a). absurd (let r = le_times b a k up in omega (arith, ints, r, h)))
