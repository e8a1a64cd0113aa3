-- Greatest weights of walks have walks of the fewest steps, and are small where the steps are.
use Rattle.std.proofs.Common.{◌≡◌, ℕ, ℤ, pos, zero, suc, ◌+◌, ◌*◌, ◌<◌, ◌≤◌, ◌≤ℤ◌, ◌<ℤ◌, ◌⊎◌, List, [], ◌∷◌, length, map, get_or, All, unsigned_abs, arith, sym, ◌∙◌, subst, inl, inr, ⊎_elim}
use Rattle.std.proofs.Math.Nat.{mul-le-mul_right}
use Rattle.std.proofs.lemmas.Bool.{cases_lt}
use Rattle.std.proofs.lemmas.Int.{by_lt_z, ints}
use Rattle.std.proofs.lemmas.List.{get_or-map, length-map}
use Rattle.std.proofs.lemmas.List.Elements.{All-nil, All-head, All-tail, All-from_get_or}
use Rattle.bid_rules.specs.Walks.{AreGreatestWeights, AreRanks, AreVertices, IsGreatestWeight, IsRank, walk_weight, weight_at}
use Rattle.split_lemmas.proofs.ListPlaces.{choose}
use Rattle.program_laws.proofs.Cycles.{HasNoPositiveRound}
use Rattle.program_laws.proofs.HeaviestWalks.{few_steps, heaviest, short_walk}

-- the least number of which something holds
record IsLeast (P : ℕ → Type 0) (number : ℕ) : Type 0 where
  holds : P number
  least : (other : ℕ) → P other → number ≤ other

-- below a number there is a least one, or none
least_below : (P : ℕ → Type 0) → ((k : ℕ) → P k ⊎ (P k → ⊥)) → (n : ℕ) → ((k : ℕ) × IsLeast P k) ⊎ ((j : ℕ) → j < n → P j → ⊥)
least_below P test zero = inr (λ j l p. omega (arith, l))
least_below P test (suc n) = ⊎_elim
    (λ (found : (k : ℕ) × IsLeast P k). inl found)
    (λ (none : (j : ℕ) → j < n → P j → ⊥). ⊎_elim
    (λ (p : P n). inl (n, record { holds = p; least = λ other q. ⊎_elim (λ (l : other < n). absurd (none other l q)) (λ (m : n ≤ other). m) (cases_lt other n) }))
    (λ (not : P n → ⊥). inr (λ j l q. ⊎_elim (λ (m : j < n). none j m q) (λ (m : n ≤ j). let is : j ≡ n = omega (arith, l, m) in not (subst P is q)) (cases_lt j n)))
    (test n))
    (least_below P test n)

-- so there is a least one where there is any
some_least : (P : ℕ → Type 0) → ((k : ℕ) → P k ⊎ (P k → ⊥)) → (most : ℕ) → P most → (k : ℕ) × IsLeast P k
some_least P test most p = ⊎_elim (λ (found : (k : ℕ) × IsLeast P k). found) (λ (none : (j : ℕ) → j < suc most → P j → ⊥). absurd (none most (omega arith) p)) (least_below P test (suc most))

-- walks of so many steps reach a weight
abbrev Reaches : ℕ → (ℕ → ℕ → ℤ) → ℕ → ℤ → ℕ → Type 0
Reaches n w to weight steps = weight ≤ℤ walk_weight w to (heaviest n w steps to).0

reaches_or_not : (n : ℕ) (w : ℕ → ℕ → ℤ) (to : ℕ) (weight : ℤ) (steps : ℕ) → Reaches n w to weight steps ⊎ (Reaches n w to weight steps → ⊥)
reaches_or_not n w to weight steps =
    by_lt_z (walk_weight w to (heaviest n w steps to).0) weight
    (λ (less : walk_weight w to (heaviest n w steps to).0 <ℤ weight). inr (λ p. omega (arith, ints, less, p)))
    (λ (there : weight ≤ℤ walk_weight w to (heaviest n w steps to).0). inl there)

-- a vertex has a rank below the number of vertices
record HasRank (n : ℕ) (w : ℕ → ℕ → ℤ) (to : ℕ) (weight : ℤ) (rank : ℕ) : Type 0 where
  is : IsRank n w to weight rank
  below : rank < n

some_rank : (n : ℕ) (w : ℕ → ℕ → ℤ) → HasNoPositiveRound n w → (to : ℕ) (weight : ℤ) → to < n → IsGreatestWeight n w to weight → (rank : ℕ) × HasRank n w to weight rank
some_rank n w none to weight l g =
    let any = g.attained in
    let attains = any.2 in
    let short = short_walk n w none to any.0 l any.1 in
    let few = few_steps n to short.walk l short.vertices short.distinct in
    let heavy = short.heavy in
    let over = (heaviest n w (length short.walk) to).1.greatest short.walk short.vertices (omega arith) in
    let found = some_least (Reaches n w to weight) (reaches_or_not n w to weight) (length short.walk) (omega (arith, ints, attains, heavy, over)) in
    let rank = found.0 in
    let best = heaviest n w rank to in
    let low = found.1.holds in
    let high = g.greatest best.0 best.1.vertices in
    let itself = (heaviest n w (length best.0) to).1.greatest best.0 best.1.vertices (omega arith) in
    let least = found.1.least (length best.0) (omega (arith, ints, low, itself)) in
    let limit = best.1.short in
    let least_short = found.1.least (length short.walk) (omega (arith, ints, attains, heavy, over)) in (
      rank,
      record {
        is = record {
          attained = (best.0, best.1.vertices, omega (arith, ints, low, high), omega (arith, least, limit));
          least = λ before v is.
              let there = (heaviest n w (length before) to).1.greatest before v (omega arith) in
              found.1.least (length before) (omega (arith, ints, is, there));
        };
        below = omega (arith, few, least_short);
      },
    )

-- so there are ranks
pub some_ranks : (n : ℕ) (w : ℕ → ℕ → ℤ) → HasNoPositiveRound n w → (weights : List ℤ) → AreGreatestWeights n w weights → (ranks : List ℕ) × AreRanks n w weights ranks × All (λ rank. rank < n) ranks
some_ranks n w none weights greatest =
    let found = choose (λ to z. HasRank n w to (weight_at weights to) (unsigned_abs z)) n (λ to l. let one = some_rank n w none to (weight_at weights to) l (greatest.each to l) in (pos one.0, one.1)) in
    let ranks : List ℕ = map unsigned_abs found.0 in
    let count : length ranks ≡ n = length-map found.0 unsigned_abs ∙ found.1 in
    let read : (to : ℕ) → to < n → get_or ranks to 0 ≡ unsigned_abs (weight_at found.0 to) = λ to l. let long = found.1 in get_or-map unsigned_abs found.0 to (pos 0) 0 (omega (arith, l, long)) in (
      ranks,
      record { count = count; each = λ to l. subst (IsRank n w to (weight_at weights to)) (sym (read to l)) (found.2 to l).is },
      All-from_get_or (λ rank. rank < n) ranks 0 (λ to l. let known : to < n = omega (arith, l, count) in subst (λ rank. rank < n) (sym (read to known)) (found.2 to known).below),
    )

-- a walk weighs at most as much as its steps do at most
walk_most : (n : ℕ) (w : ℕ → ℕ → ℤ) (most : ℕ) → ((from to : ℕ) → from < n → to < n → w from to ≤ℤ pos most) → (to : ℕ) (walk : List ℕ) → to < n → AreVertices n walk → walk_weight w to walk ≤ℤ pos (length walk * most)
walk_most n w most steps to [] l v = omega (arith, ints)
walk_most n w most steps to (from ∷ before) l v =
    let known : from < n = All-head (λ j. j < n) from before v in
    let rest = walk_most n w most steps from before known (All-tail (λ j. j < n) from before v) in
    let one = steps from to known l in
    let more : length (from ∷ before) * most ≡ length before * most + most = omega arith in
    omega (arith, ints, rest, one, more)

-- so greatest weights are small
pub small_weights : (n : ℕ) (w : ℕ → ℕ → ℤ) (most : ℕ) → HasNoPositiveRound n w → ((from to : ℕ) → from < n → to < n → w from to ≤ℤ pos most) → (weights : List ℤ) → AreGreatestWeights n w weights
    → All (λ weight. unsigned_abs weight ≤ n * most) weights
small_weights n w most none steps weights greatest = All-from_get_or (λ weight. unsigned_abs weight ≤ n * most) weights (pos 0) (λ to l.
    let count = greatest.count in
    let known : to < n = omega (arith, l, count) in
    let g = greatest.each to known in
    let any = g.attained in
    let attains = any.2 in
    let short = short_walk n w none to any.0 known any.1 in
    let few = few_steps n to short.walk known short.vertices short.distinct in
    let heavy = short.heavy in
    let high = walk_most n w most steps to short.walk known short.vertices in
    let low : pos 0 ≤ℤ weight_at weights to = g.greatest [] (All-nil (λ j. j < n)) in
    let less : length short.walk * most ≤ n * most = mul-le-mul_right most (let fewer : length short.walk ≤ n = omega (arith, few) in fewer) in
    omega (arith, ints, attains, heavy, high, low, less))
