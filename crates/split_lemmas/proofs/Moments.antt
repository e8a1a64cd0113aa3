-- What a crash may leave since a moment, over stretches of calls of a disk.
use Rattle.std.proofs.Common.{◌≡◌, inl, inr, ⊎_elim, ℕ, ◌+◌, List, length, take, drop, ap, arith}
use Rattle.std.proofs.lemmas.List.{take_all}
use Rattle.split_base.specs.Disk.{IsTorn, LeavesOnly, Rests}

-- a write may leave a file as it was
pub untorn : (place n : ℕ) (file : List ℕ) → IsTorn place n file file
untorn place n file = let e : take (length file) file ≡ file = take_all (length file) file (omega arith) in record {
  no_shorter = omega arith;
  before = ap (λ (l : List ℕ). take place l) e;
  after = ap (λ (l : List ℕ). drop (place + n) l) e;
}

module _ {D : Type 0} (moment : D → ℕ) (left_since : D → ℕ → List ℕ → Type 0) where
  -- before the first call
  pub started : (old : D) (P : List ℕ → Type 0) → ((c : List ℕ) → left_since old (moment old) c → P c) → LeavesOnly moment left_since old old P
  started old P here = record { later = omega arith; each = here; before = λ t c le left. inl left; keeps = λ t c le left. left }

  -- two stretches, one after the other
  pub joined : (old mid new : D) (P Q R : List ℕ → Type 0) → LeavesOnly moment left_since old mid P → LeavesOnly moment left_since mid new Q
      → ((c : List ℕ) → P c → R c) → ((c : List ℕ) → Q c → R c) → LeavesOnly moment left_since old new R
  joined old mid new P Q R first second from_P from_Q = record {
    later = omega (arith, first.later, second.later);
    each = λ c left. ⊎_elim (λ l. from_P c (first.each c l)) (λ q. from_Q c q) (second.before (moment old) c first.later left);
    before = λ t c le left. ⊎_elim (λ l. ⊎_elim (λ k. inl k) (λ p. inr (from_P c p)) (first.before t c le l)) (λ q. inr (from_Q c q)) (second.before t c (omega (arith, le, first.later)) left);
    keeps = λ t c le left. second.keeps t c (omega (arith, le, first.later)) (first.keeps t c le left);
  }

  pub weaker : (old new : D) (P R : List ℕ → Type 0) → LeavesOnly moment left_since old new P → ((c : List ℕ) → P c → R c) → LeavesOnly moment left_since old new R
  weaker old new P R first from_P = record {
    later = first.later;
    each = λ c left. from_P c (first.each c left);
    before = λ t c le left. ⊎_elim (λ k. inl k) (λ p. inr (from_P c p)) (first.before t c le left);
    keeps = first.keeps;
  }

  -- a call that changes no byte, or several of them
  pub rests_leave : (seen : D → List ℕ) (images : D → List ℕ → Type 0) (old new : D) (P : List ℕ → Type 0) → Rests seen images moment left_since old new
      → ((c : List ℕ) → left_since old (moment old) c → images old c) → ((c : List ℕ) → images old c → P c) → LeavesOnly moment left_since old new P
  rests_leave seen images old new P rests only here = record {
    later = rests.time.later;
    each = λ c left. ⊎_elim (λ was. here c (only c was)) (here c) (rests.time.nothing_else (moment old) c (omega arith) left);
    before = λ t c le left. ⊎_elim (λ was. inl was) (λ now. inr (here c now)) (rests.time.nothing_else t c le left);
    keeps = rests.time.keeps;
  }
