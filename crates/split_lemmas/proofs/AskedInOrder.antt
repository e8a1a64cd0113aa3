-- Rules that are asked one after another, from 1 on: all hold, or there is one first that does not.
use Rattle.std.proofs.Common.{◌≡◌, ℕ, ◌+◌, ◌<◌, ◌≤◌, arith, subst, ⊎_elim, ◌⊎◌, ◌↔◌}
use Rattle.std.proofs.lemmas.Bool.{cases_lt, cases_order}

-- the rules below this one, from 1 on, hold
abbrev pub HoldBelow : (ℕ → Type 0) → ℕ → Type 0
HoldBelow rule end = (number : ℕ) → 1 ≤ number → number < end → rule number

-- of so many rules this is the first that does not hold
abbrev pub IsFirstBroken : (ℕ → Type 0) → ℕ → ℕ → Type 0
IsFirstBroken rule count number = (1 ≤ number) × (number ≤ count) × HoldBelow rule number × (rule number → ⊥)

-- no rule comes before the first
pub none_asked : (rule : ℕ → Type 0) → HoldBelow rule 1
none_asked rule number low high = absurd (omega arith)

-- one rule more
pub one_asked : (rule : ℕ → Type 0) (k : ℕ) → HoldBelow rule k → rule k → HoldBelow rule (k + 1)
one_asked rule k before here number low high = ⊎_elim
    (λ (early : number < k). before number low early)
    (λ (late : k ≤ number). subst rule (let e : k ≡ number = omega arith in e) here)
    (cases_lt number k)

-- where all hold, none is broken
pub none_broken : (rule : ℕ → Type 0) (count n : ℕ) → HoldBelow rule (count + 1) → IsFirstBroken rule count n → ⊥
none_broken rule count n h k = k.3 (h n k.0 (let l = k.1 in omega arith))

-- one is the first that is broken
pub one_broken : (rule : ℕ → Type 0) (count n m : ℕ) → IsFirstBroken rule count n → IsFirstBroken rule count m → n ≡ m
one_broken rule count n m h k = ⊎_elim
    (λ (e : n ≡ m). e)
    (λ (other : (n < m) ⊎ (m < n)). ⊎_elim
    (λ (l : n < m). absurd (h.3 (k.2 n h.0 l)))
    (λ (l : m < n). absurd (k.3 (h.2 m k.0 l)))
    other)
    (cases_order n m)

module _ (rule other : ℕ → Type 0) (count : ℕ) (same : (number : ℕ) → 1 ≤ number → number ≤ count → rule number ↔ other number) where
  -- rules that hold alike all hold alike
  pub same_held : HoldBelow rule (count + 1) → HoldBelow other (count + 1)
  same_held h number low high = (same number low (omega arith)).0 (h number low high)

  -- and have the same first broken one
  pub same_broken : (number : ℕ) → IsFirstBroken rule count number → IsFirstBroken other count number
  same_broken number h = (
    h.0,
    h.1,
    (λ k low high. (same k low (let most = h.1 in omega arith)).0 (h.2 k low high)),
    λ holds. h.3 ((same number h.0 h.1).1 holds),
  )
