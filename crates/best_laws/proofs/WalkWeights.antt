-- Weights that are attained and that no step exceeds are the greatest ones, and the other way round.
use Rattle.std.proofs.Common.{◌≡◌, ℕ, ℤ, pos, suc, zero, ◌+◌, ◌<◌, ◌≤◌, ◌+ℤ◌, ◌≤ℤ◌, List, [], ◌∷◌, length, get_or, arith, refl, sym, ap, ◌∙◌, subst, ◌⊎◌, inl, inr, ⊎_elim}
use Rattle.std.proofs.lemmas.Int.{ints}
use Rattle.std.proofs.lemmas.List.{ext_get_or}
use Rattle.std.proofs.lemmas.List.Elements.{All-nil, All-cons, All-head, All-tail}
use Rattle.bid_rules.specs.Walks.{walk_weight, weight_at, AreVertices, IsAttained, AreGreatestWeights, AreRanks, AreShownWeights, AreShownRanks}

-- no walk is heavier than shown weights
shown_bound : (n : ℕ) (w : ℕ → ℕ → ℤ) (weights : List ℤ) → AreShownWeights n w weights → (to : ℕ) (before : List ℕ) → to < n → AreVertices n before → walk_weight w to before ≤ℤ weight_at weights to
shown_bound n w weights shown to [] l v = shown.low to l
shown_bound n w weights shown to (from ∷ before) l v =
    let known : from < n = All-head (λ j. j < n) from before v in
    let rest = shown_bound n w weights shown from before known (All-tail (λ j. j < n) from before v) in
    let step = shown.steps from to known l in
    omega (arith, ints, rest, step)

-- shown weights are the greatest
pub shown_greatest : (n : ℕ) (w : ℕ → ℕ → ℤ) (weights : List ℤ) → AreShownWeights n w weights → AreGreatestWeights n w weights
shown_greatest n w weights shown = record {
  count = shown.count;
  each = λ to l. record { attained = shown.attained to l; greatest = λ before v. shown_bound n w weights shown to before l v };
}

-- no step exceeds the greatest weights
pub greatest_shown : (n : ℕ) (w : ℕ → ℕ → ℤ) (weights : List ℤ) → AreGreatestWeights n w weights → AreShownWeights n w weights
greatest_shown n w weights greatest = record {
  count = greatest.count;
  low = λ to l. (greatest.each to l).greatest [] (All-nil (λ j. j < n));
  steps = λ from to l m.
      let there = (greatest.each from l).attained in
      let h = (greatest.each to m).greatest (from ∷ there.0) (All-cons (λ j. j < n) from there.0 l there.1) in
      subst (λ z. (z +ℤ w from to) ≤ℤ weight_at weights to) there.2 h;
  attained = λ to l. (greatest.each to l).attained;
}

-- along a walk the weights rise by no less than the steps
start_of : (n : ℕ) (w : ℕ → ℕ → ℤ) (weights : List ℤ) → AreShownWeights n w weights → (to : ℕ) (before : List ℕ) → to < n → AreVertices n before
    → (j : ℕ) × (j < n) × ((weight_at weights j +ℤ walk_weight w to before) ≤ℤ weight_at weights to)
start_of n w weights shown to [] l v = (to, l, omega (arith, ints))
start_of n w weights shown to (from ∷ before) l v =
    let known : from < n = All-head (λ j. j < n) from before v in
    let rest = start_of n w weights shown from before known (All-tail (λ j. j < n) from before v) in
    let step = shown.steps from to known l in
    (rest.0, rest.1, omega (arith, ints, rest.2, step))

-- some vertex has the weight 0
pub zero_weight : (n : ℕ) (w : ℕ → ℕ → ℤ) (weights : List ℤ) → 1 ≤ n → AreShownWeights n w weights → (j : ℕ) × (j < n) × (weight_at weights j ≡ pos 0)
zero_weight n w weights some shown =
    let first : 0 < n = omega arith in
    let there = shown.attained 0 first in
    let start = start_of n w weights shown 0 there.0 first there.1 in
    let low = shown.low start.0 start.1 in
    (start.0, start.1, omega (arith, ints, start.2, there.2, low))

-- shown ranks lead back to a walk of the weight, with as many steps
walk_back : (n : ℕ) (w : ℕ → ℕ → ℤ) (weights : List ℤ) (ranks : List ℕ) → AreShownRanks n w weights ranks → (rank to : ℕ) → to < n → get_or ranks to 0 ≡ rank
    → (before : List ℕ) × AreVertices n before × (walk_weight w to before ≡ weight_at weights to) × (length before ≡ rank)
walk_back n w weights ranks shown zero to l e = ⊎_elim
    (λ (start : (get_or ranks to 0 ≡ 0) × (weight_at weights to ≡ pos 0)). ([], All-nil (λ j. j < n), sym start.1, refl))
    (λ (step : (from : ℕ) × (from < n) × (get_or ranks from 0 + 1 ≡ get_or ranks to 0) × (weight_at weights to ≡ weight_at weights from +ℤ w from to)). absurd (omega (arith, step.2, e)))
    (shown to l)
walk_back n w weights ranks shown (suc rank) to l e = ⊎_elim
    (λ (start : (get_or ranks to 0 ≡ 0) × (weight_at weights to ≡ pos 0)). absurd (omega (arith, start.0, e)))
    (λ (step : (from : ℕ) × (from < n) × (get_or ranks from 0 + 1 ≡ get_or ranks to 0) × (weight_at weights to ≡ weight_at weights from +ℤ w from to)).
    let rest = walk_back n w weights ranks shown rank step.0 step.1 (omega (arith, step.2, e)) in
    (step.0 ∷ rest.0, All-cons (λ j. j < n) step.0 rest.0 step.1 rest.1, ap (λ z. z +ℤ w step.0 to) rest.2 ∙ sym step.3, omega (arith, rest.3)))
    (shown to l)

-- shown ranks show that each weight is attained
pub ranks_attain : (n : ℕ) (w : ℕ → ℕ → ℤ) (weights : List ℤ) (ranks : List ℕ) → AreShownRanks n w weights ranks → (to : ℕ) → to < n → IsAttained n w to (weight_at weights to)
ranks_attain n w weights ranks shown to l = let there = walk_back n w weights ranks shown (get_or ranks to 0) to l refl in (there.0, there.1, there.2)

-- by vertex: the rank is 0 and so is the weight, or some step leads there from a vertex whose rank is one less
abbrev IsShownRank : ℕ → (ℕ → ℕ → ℤ) → List ℤ → List ℕ → ℕ → Type 0
IsShownRank n w weights ranks to = ((get_or ranks to 0 ≡ 0) × (weight_at weights to ≡ pos 0))
    ⊎ ((from : ℕ) × (from < n) × (get_or ranks from 0 + 1 ≡ get_or ranks to 0) × (weight_at weights to ≡ weight_at weights from +ℤ w from to))

-- a walk of the greatest weight and of the least number of steps: the walk to the vertex before the last has both too
rank_back : (n : ℕ) (w : ℕ → ℕ → ℤ) (weights : List ℤ) (ranks : List ℕ) → AreGreatestWeights n w weights → AreRanks n w weights ranks → (to : ℕ) → to < n
    → (before : List ℕ) → AreVertices n before → walk_weight w to before ≡ weight_at weights to → length before ≡ get_or ranks to 0 → IsShownRank n w weights ranks to
rank_back n w weights ranks greatest least to l [] v is count = inl (sym count, sym is)
rank_back n w weights ranks greatest least to l (from ∷ before) v is count =
    let known : from < n = All-head (λ j. j < n) from before v in
    let rest : AreVertices n before = All-tail (λ j. j < n) from before v in
    let most = (greatest.each from known).greatest before rest in
    let step = (greatest_shown n w weights greatest).steps from to known l in
    let weight : walk_weight w from before ≡ weight_at weights from = omega (arith, ints, is, most, step) in
    let low = (least.each from known).least before rest weight in
    let there = (least.each from known).attained in
    let longer : walk_weight w to (from ∷ there.0) ≡ weight_at weights to = omega (arith, ints, there.2, weight, is) in
    let high = (least.each to l).least (from ∷ there.0) (All-cons (λ j. j < n) from there.0 known there.1) longer in
    inr (from, known, omega (arith, low, high, there.3, count), sym is ∙ ap (λ z. z +ℤ w from to) weight)

-- the ranks of the greatest weights lead back to a weight of 0
pub ranks_shown : (n : ℕ) (w : ℕ → ℕ → ℤ) (weights : List ℤ) (ranks : List ℕ) → AreGreatestWeights n w weights → AreRanks n w weights ranks → AreShownRanks n w weights ranks
ranks_shown n w weights ranks greatest least to l =
    let there = (least.each to l).attained in
    rank_back n w weights ranks greatest least to l there.0 there.1 there.2 there.3

-- the greatest weights are one list
pub one_weights : (n : ℕ) (w : ℕ → ℕ → ℤ) (weights other : List ℤ) → AreGreatestWeights n w weights → AreGreatestWeights n w other → other ≡ weights
one_weights n w weights other a b =
    let long = b.count in
    ext_get_or (pos 0) other weights (b.count ∙ sym a.count) (λ to m.
    let l : to < n = omega (arith, m, long) in
    let ours = a.each to l in
    let theirs = b.each to l in
    let there = theirs.attained in
    let here = ours.attained in
    let low = ours.greatest there.0 there.1 in
    let high = theirs.greatest here.0 here.1 in
    omega (arith, ints, low, high, there.2, here.2))

-- the ranks of some weights are one list
pub one_ranks : (n : ℕ) (w : ℕ → ℕ → ℤ) (weights : List ℤ) (ranks other : List ℕ) → AreRanks n w weights ranks → AreRanks n w weights other → other ≡ ranks
one_ranks n w weights ranks other a b =
    let long = b.count in
    ext_get_or 0 other ranks (b.count ∙ sym a.count) (λ to m.
    let l : to < n = omega (arith, m, long) in
    let ours = a.each to l in
    let theirs = b.each to l in
    let there = theirs.attained in
    let here = ours.attained in
    let low = ours.least there.0 there.1 there.2 in
    let high = theirs.least here.0 here.1 here.2 in
    omega (arith, low, high, there.3, here.3))
