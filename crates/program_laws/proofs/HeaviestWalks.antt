-- Where no cycle has a positive weight, each vertex has a heaviest walk.
use Rattle.std.proofs.Common.{◌≡◌, ℕ, ℤ, pos, zero, suc, ◌+◌, ◌<◌, ◌≤◌, ◌+ℤ◌, ◌≤ℤ◌, ◌<ℤ◌, ◌⊎◌, ◌||◌, List, [], ◌∷◌, ◌++◌, length, true, false, eqb, arith, refl, sym, ap, ◌∙◌, subst, inl, inr, ⊎_elim}
use Rattle.std.specs.List.{AllByRecursion, IsDistinct, list_any}
use Rattle.std.proofs.lemmas.Bool.{cases_lt}
use Rattle.std.proofs.lemmas.Bool.Decides.{nat_tests}
use Rattle.std.proofs.lemmas.Int.{by_lt_z, ints}
use Rattle.std.proofs.lemmas.List.Elements.{All-nil, All-cons, All-head, All-tail}
use Rattle.std.proofs.lemmas.Map.Keys.{IsDistinct-cons, IsDistinct-head, IsDistinct-tail}
use Rattle.std.proofs.lemmas.Map.Steps.{length-le_from_distinct_below}
use Rattle.bid_rules.specs.Walks.{AreGreatestWeights, AreVertices, IsGreatestWeight, walk_weight}
use Rattle.split_lemmas.proofs.ListPlaces.{choose}
use Rattle.program_laws.proofs.Cycles.{HasNoPositiveRound}

-- a walk through a vertex is the walk to it and the walk from it
through : (w : ℕ → ℕ → ℤ) (to : ℕ) (xs : List ℕ) (v : ℕ) (ys : List ℕ) → walk_weight w to (xs ++ v ∷ ys) ≡ walk_weight w v ys +ℤ walk_weight w to (xs ++ v ∷ [])
through w to [] v ys = omega (arith, ints)
through w to (x ∷ xs) v ys = let h = through w x xs v ys in omega (arith, ints, h)

-- a list with a vertex in it
record IsCutAt (v : ℕ) (xs : List ℕ) : Type 0 where
  before : List ℕ
  after : List ℕ
  is : xs ≡ before ++ v ∷ after

same_or_apart : (v x : ℕ) → (x ≡ v) ⊎ (eqb v x ≡ false)
same_or_apart v x = ⊎_elim
    (λ l. inr (grind (arith, nat_tests)))
    (λ l. ⊎_elim (λ m. inr (grind (arith, nat_tests))) (λ m. inl (omega arith)) (cases_lt x v))
    (cases_lt v x)

flipped : (x y : ℕ) → eqb x y ≡ false → eqb y x ≡ false
flipped x y e = grind (arith, nat_tests)

-- a vertex is in a list or apart from it
cut_or_apart : (v : ℕ) (xs : List ℕ) → IsCutAt v xs ⊎ AllByRecursion (λ y. eqb v y ≡ false) xs
cut_or_apart v [] = inr tt
cut_or_apart v (x ∷ xs) = ⊎_elim
    (λ (e : x ≡ v). inl (record { before = []; after = xs; is = ap (λ y. y ∷ xs) e }))
    (λ (d : eqb v x ≡ false). ⊎_elim
    (λ (h : IsCutAt v xs). inl (record { before = x ∷ h.before; after = h.after; is = ap (λ ys. x ∷ ys) h.is }))
    (λ (h : AllByRecursion (λ y. eqb v y ≡ false) xs). inr (d, h))
    (cut_or_apart v xs))
    (same_or_apart v x)

-- both parts of a list with no vertex twice
distinct_after : (xs : List ℕ) (v : ℕ) (ys : List ℕ) → IsDistinct eqb (xs ++ v ∷ ys) → IsDistinct eqb (v ∷ ys)
distinct_after [] v ys h = h
distinct_after (x ∷ xs) v ys h = distinct_after xs v ys (IsDistinct-tail eqb x (xs ++ v ∷ ys) h)

apart_before : (x : ℕ) (xs : List ℕ) (v : ℕ) (ys : List ℕ) → AllByRecursion (λ y. eqb x y ≡ false) (xs ++ v ∷ ys) → AllByRecursion (λ y. eqb x y ≡ false) xs × (eqb x v ≡ false)
apart_before x [] v ys h = (tt, h.0)
apart_before x (z ∷ xs) v ys h = let rest = apart_before x xs v ys h.1 in ((h.0, rest.0), rest.1)

nothing : IsDistinct eqb []
unfolding IsDistinct
nothing = tt

distinct_before : (xs : List ℕ) (v : ℕ) (ys : List ℕ) → IsDistinct eqb (xs ++ v ∷ ys) → IsDistinct eqb (v ∷ xs)
distinct_before [] v ys h = IsDistinct-cons eqb v [] tt nothing
distinct_before (x ∷ xs) v ys h =
    let off = apart_before x xs v ys (IsDistinct-head eqb x (xs ++ v ∷ ys) h) in
    let rest = distinct_before xs v ys (IsDistinct-tail eqb x (xs ++ v ∷ ys) h) in
    IsDistinct-cons eqb v (x ∷ xs) (flipped x v off.1, IsDistinct-head eqb v xs rest) (IsDistinct-cons eqb x xs off.0 (IsDistinct-tail eqb v xs rest))

-- both parts of a walk have vertices
vertices_of : (n : ℕ) (xs : List ℕ) (v : ℕ) (ys : List ℕ) → AreVertices n (xs ++ v ∷ ys) → AreVertices n xs × AreVertices n ys
vertices_of n [] v ys h = (All-nil (λ j. j < n), All-tail (λ j. j < n) v ys h)
vertices_of n (x ∷ xs) v ys h =
    let rest = vertices_of n xs v ys (All-tail (λ j. j < n) x (xs ++ v ∷ ys) h) in
    (All-cons (λ j. j < n) x xs (All-head (λ j. j < n) x (xs ++ v ∷ ys) h) rest.0, rest.1)

-- a walk with no vertex twice that is as heavy
pub record HasShortWalk (n : ℕ) (w : ℕ → ℕ → ℤ) (to : ℕ) (before : List ℕ) : Type 0 where
  pub walk : List ℕ
  pub vertices : AreVertices n walk
  pub distinct : IsDistinct eqb (to ∷ walk)
  pub heavy : walk_weight w to before ≤ℤ walk_weight w to walk

-- one step more, without the cycle that it may close
one_more : (n : ℕ) (w : ℕ → ℕ → ℤ) → HasNoPositiveRound n w → (to from : ℕ) (before : List ℕ) → to < n → from < n → HasShortWalk n w from before → HasShortWalk n w to (from ∷ before)
one_more n w none to from before l known r =
    let heavy = r.heavy in
    let vertices : AreVertices n (from ∷ r.walk) = All-cons (λ j. j < n) from r.walk known r.vertices in
    ⊎_elim
    (λ (cut : IsCutAt to (from ∷ r.walk)).
    let parts = vertices_of n cut.before to cut.after (subst (AreVertices n) cut.is vertices) in
    let whole : IsDistinct eqb (cut.before ++ to ∷ cut.after) = subst (IsDistinct eqb) cut.is r.distinct in
    let weight : walk_weight w to (from ∷ r.walk) ≡ walk_weight w to cut.after +ℤ walk_weight w to (cut.before ++ to ∷ []) = ap (walk_weight w to) cut.is ∙ through w to cut.before to cut.after in
    let round = none to cut.before l parts.0 (distinct_before cut.before to cut.after whole) in
    record { walk = cut.after; vertices = parts.1; distinct = distinct_after cut.before to cut.after whole; heavy = omega (arith, ints, heavy, weight, round) })
    (λ (off : AllByRecursion (λ y. eqb to y ≡ false) (from ∷ r.walk)).
    record { walk = from ∷ r.walk; vertices = vertices; distinct = IsDistinct-cons eqb to (from ∷ r.walk) off r.distinct; heavy = omega (arith, ints, heavy) })
    (cut_or_apart to (from ∷ r.walk))

pub short_walk : (n : ℕ) (w : ℕ → ℕ → ℤ) → HasNoPositiveRound n w → (to : ℕ) (before : List ℕ) → to < n → AreVertices n before → HasShortWalk n w to before
short_walk n w none to [] l h = record { walk = []; vertices = All-nil (λ j. j < n); distinct = IsDistinct-cons eqb to [] tt nothing; heavy = omega (arith, ints) }
short_walk n w none to (from ∷ before) l h =
    let known : from < n = All-head (λ j. j < n) from before h in
    one_more n w none to from before l known (short_walk n w none from before known (All-tail (λ j. j < n) from before h))

-- such a walk has at most n - 1 steps
found_below : (n : ℕ) (xs : List ℕ) → AreVertices n xs → (q : ℕ) → list_any (eqb q) xs ≡ true → q < n
found_below n [] h q e = cc
found_below n (x ∷ xs) h q e = ⊎_elim
    (λ (same : x ≡ q). subst (λ y. y < n) same (All-head (λ j. j < n) x xs h))
    (λ (d : eqb q x ≡ false). found_below n xs (All-tail (λ j. j < n) x xs h) q (ap (λ b. b || list_any (eqb q) xs) (sym d) ∙ e))
    (same_or_apart q x)

pub few_steps : (n to : ℕ) (walk : List ℕ) → to < n → AreVertices n walk → IsDistinct eqb (to ∷ walk) → length walk + 1 ≤ n
few_steps n to walk l h d = let count = length-le_from_distinct_below (to ∷ walk) n d (found_below n (to ∷ walk) (All-cons (λ j. j < n) to walk l h)) in omega (arith, count)

-- a walk of at most so many steps that no other of at most so many exceeds
pub record IsHeaviest (n : ℕ) (w : ℕ → ℕ → ℤ) (limit to : ℕ) (walk : List ℕ) : Type 0 where
  pub vertices : AreVertices n walk
  pub short : length walk ≤ limit
  pub greatest : (before : List ℕ) → AreVertices n before → length before ≤ limit → walk_weight w to before ≤ℤ walk_weight w to walk

-- a walk of at most so many steps that neither no step nor the walks over the first k vertices exceed
record IsOver (n : ℕ) (w : ℕ → ℕ → ℤ) (limit to k : ℕ) (walks : ℕ → List ℕ) (walk : List ℕ) : Type 0 where
  vertices : AreVertices n walk
  short : length walk ≤ limit
  low : pos 0 ≤ℤ walk_weight w to walk
  each : (from : ℕ) → from < k → walk_weight w to (from ∷ walks from) ≤ℤ walk_weight w to walk

over_first : (n : ℕ) (w : ℕ → ℕ → ℤ) (limit to : ℕ) (walks : ℕ → List ℕ) → ((from : ℕ) → AreVertices n (walks from)) → ((from : ℕ) → length (walks from) ≤ limit) → (k : ℕ) → k ≤ n
    → (walk : List ℕ) × IsOver n w (suc limit) to k walks walk
over_first n w limit to walks are short zero l = ([], record { vertices = All-nil (λ j. j < n); short = omega arith; low = omega (arith, ints); each = λ from m. absurd (omega (arith, m)) })
over_first n w limit to walks are short (suc k) l =
    let rest = over_first n w limit to walks are short k (omega (arith, l)) in
    let low = rest.1.low in
    by_lt_z (walk_weight w to rest.0) (walk_weight w to (k ∷ walks k))
    (λ (more : walk_weight w to rest.0 <ℤ walk_weight w to (k ∷ walks k)). (
      k ∷ walks k,
      record {
        vertices = All-cons (λ j. j < n) k (walks k) (omega (arith, l)) (are k);
        short = omega (arith, short k);
        low = omega (arith, ints, low, more);
        each = λ from m. ⊎_elim
            (λ (early : from < k). let h = rest.1.each from early in omega (arith, ints, h, more))
            (λ (late : k ≤ from). let is : k ≡ from = omega (arith, m, late) in
            subst (λ j. walk_weight w to (j ∷ walks j) ≤ℤ walk_weight w to (k ∷ walks k)) is (omega (arith, ints)))
            (cases_lt from k);
      },
    ))
    (λ (less : walk_weight w to (k ∷ walks k) ≤ℤ walk_weight w to rest.0). (
      rest.0,
      record {
        vertices = rest.1.vertices;
        short = rest.1.short;
        low = low;
        each = λ from m. ⊎_elim
            (λ (early : from < k). rest.1.each from early)
            (λ (late : k ≤ from). let is : k ≡ from = omega (arith, m, late) in
            subst (λ j. walk_weight w to (j ∷ walks j) ≤ℤ walk_weight w to rest.0) is less)
            (cases_lt from k);
      },
    ))

one_step_more : (n : ℕ) (w : ℕ → ℕ → ℤ) (limit to : ℕ) (walks : ℕ → List ℕ) → ((from : ℕ) → IsHeaviest n w limit from (walks from)) → (walk : List ℕ) → IsOver n w (suc limit) to n walks walk
    → (before : List ℕ) → AreVertices n before → length before ≤ suc limit → walk_weight w to before ≤ℤ walk_weight w to walk
one_step_more n w limit to walks are walk over [] v short = over.low
one_step_more n w limit to walks are walk over (from ∷ before) v short =
    let rest = (are from).greatest before (All-tail (λ j. j < n) from before v) (omega (arith, short)) in
    let one = over.each from (All-head (λ j. j < n) from before v) in
    omega (arith, ints, rest, one)

-- there is one, for each number of steps
pub heaviest : (n : ℕ) (w : ℕ → ℕ → ℤ) (limit to : ℕ) → (walk : List ℕ) × IsHeaviest n w limit to walk
heaviest n w zero to = ([], record { vertices = All-nil (λ j. j < n); short = omega arith; greatest = λ before v short. alone before short })
  where
    alone : (before : List ℕ) → length before ≤ 0 → walk_weight w to before ≤ℤ pos 0
    alone [] short = omega (arith, ints)
    alone (x ∷ before) short = absurd (omega (arith, short))
heaviest n w (suc limit) to =
    let walks : ℕ → List ℕ = λ from. (heaviest n w limit from).0 in
    let are : (from : ℕ) → IsHeaviest n w limit from (walks from) = λ from. (heaviest n w limit from).1 in
    let best = over_first n w limit to walks (λ from. (are from).vertices) (λ from. (are from).short) n (omega arith) in
    (best.0, record { vertices = best.1.vertices; short = best.1.short; greatest = one_step_more n w limit to walks are best.0 best.1 })

-- so each vertex has a greatest weight
pub greatest_weights : (n : ℕ) (w : ℕ → ℕ → ℤ) → HasNoPositiveRound n w → (weights : List ℤ) × AreGreatestWeights n w weights
greatest_weights n w none =
    let found = choose (IsGreatestWeight n w) n (λ to l. let best = heaviest n w n to in (
      walk_weight w to best.0,
      record {
        attained = (best.0, best.1.vertices, refl);
        greatest = λ before v.
            let short = short_walk n w none to before l v in
            let few = few_steps n to short.walk l short.vertices short.distinct in
            let below = best.1.greatest short.walk short.vertices (omega (arith, few)) in
            let heavy = short.heavy in
            omega (arith, ints, below, heavy);
      },
    )) in
    (found.0, record { count = found.1; each = found.2 })
