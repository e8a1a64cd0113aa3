-- There is one start value.
use Rattle.std.proofs.Common.{◌≡◌, ℕ, suc, zero, ◌-◌, ◌<◌, ◌≤◌, List, [], ◌∷◌, ◌++◌, length, take, slice_index, arith, refl, sym, ap, ◌∙◌, subst, ◌⊎◌, inl, inr}
use Rattle.bid_rules.specs.declared.goods.GoodsCase.{GoodsCase}
use Rattle.bid_rules.specs.Goods.{player_count, points, utilities, order_of}
use Rattle.std.proofs.Math.Seq.{take-suc}
use Rattle.bid_rules.specs.declared.pair.Pair.{Pair}
use Rattle.bid_rules.specs.Pairs.{nash_welfare}
use Rattle.nash_bounds.specs.Steps.{HasSteps, step_count}
use Rattle.nash_bounds.specs.Start.{IsStartOwner, IsStart, IsStartValue}

-- a player comes first before another, by what both have and give
abbrev First : ℕ → ℕ → ℕ → ℕ → ℕ → ℕ → Type 0
First up uo pp po p o = (up < uo) ⊎ ((up ≡ uo) × ((po < pp) ⊎ ((po ≡ pp) × (p ≤ o))))

-- a list is its own first few
pub take_own : (xs : List ℕ) → take (length xs) xs ≡ xs
take_own [] = refl
take_own (x ∷ xs) = ap (λ ys. x ∷ ys) (take_own xs)

-- of two who come first before each other, both are the same
both_first : (up uq pp pq p q : ℕ) → First up uq pp pq p q → First uq up pq pp q p → p ≡ q
both_first up uq pp pq p q h k = grind arith

-- the rule decides the owner
same_owner : (case : GoodsCase) (us : List ℕ) (good p q : ℕ) → 1 ≤ p → p ≤ player_count case → 1 ≤ q → q ≤ player_count case → IsStartOwner case us good p → IsStartOwner case us good q → p ≡ q
same_owner case us good p q a b d e (inl h) (inl k) =
    both_first (slice_index us (p - 1)) (slice_index us (q - 1)) (points case p good) (points case q good) p q (h.1 q d e k.0) (k.1 p a b h.0)
same_owner case us good p q a b d e (inl h) (inr k) = absurd (let x = h.0 in let y = k.1 p a b in omega arith)
same_owner case us good p q a b d e (inr h) (inl k) = absurd (let x = k.0 in let y = h.1 q d e in omega arith)
same_owner case us good p q a b d e (inr h) (inr k) = h.0 ∙ sym k.0

-- two starts have the same first few owners
same_front : (case : GoodsCase) (xs ys : List ℕ) (k : ℕ) → IsStart case xs → IsStart case ys → k ≤ case.facts.goods → take k xs ≡ take k ys
same_front case xs ys zero a b l = refl
same_front case xs ys (suc k) a b l =
    let rest : take k xs ≡ take k ys = same_front case xs ys k a b (omega arith) in
    let lx : k < length xs = (let e = a.allocation.each in omega arith) in
    let ly : k < length ys = (let e = b.allocation.each in omega arith) in
    let px = a.allocation.owned k 0 lx in
    let py = b.allocation.owned k 0 ly in
    let here = a.each k (omega arith) in
    let there : IsStartOwner case (utilities case (take k xs)) (slice_index (order_of case) k) (slice_index ys k) =
    subst (λ zs. IsStartOwner case (utilities case zs) (slice_index (order_of case) k) (slice_index ys k)) (sym rest) (b.each k (omega arith)) in
    let e : slice_index xs k ≡ slice_index ys k =
    same_owner case (utilities case (take k xs)) (slice_index (order_of case) k) (slice_index xs k) (slice_index ys k) px.0 px.1 py.0 py.1 here there in
    take-suc xs k 0 lx ∙ ap (λ zs. zs ++ slice_index xs k ∷ []) rest ∙ ap (λ o. take k ys ++ o ∷ []) e ∙ sym (take-suc ys k 0 ly)

-- so there is one start value
pub same_value : (case : GoodsCase) (a b : Pair) → IsStartValue case a → IsStartValue case b → a ≡ b
same_value case a b h k =
    let front = same_front case h.0 k.0 case.facts.goods h.1 k.1 (omega arith) in
    let nx : length h.0 ≡ case.facts.goods = h.1.allocation.each in
    let ny : length k.0 ≡ case.facts.goods = k.1.allocation.each in
    let same : h.0 ≡ k.0 = sym (take_own h.0) ∙ ap (λ n. take n h.0) nx ∙ front ∙ ap (λ n. take n k.0) (sym ny) ∙ take_own k.0 in
    h.2 ∙ ap (λ xs. nash_welfare (utilities case xs)) same ∙ sym k.2

-- and one step count
pub one_count : (case : GoodsCase) (steps other : ℕ) → HasSteps case steps → HasSteps case other → steps ≡ other
one_count case steps other a b = a.2 ∙ ap (step_count case) (same_value case a.0 b.0 a.1 b.1) ∙ sym b.2
