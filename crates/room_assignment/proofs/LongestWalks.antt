-- Laws on walks: how a walk is cut, and that few steps are enough where no cycle has a positive weight.
use Rattle.std.proofs.Common.{◌≡◌, ℕ, ℤ, pos, ◌+◌, ◌*◌, ◌<◌, ◌≤◌, ◌+ℤ◌, ◌≤ℤ◌, ◌<ℤ◌, ◌⊎◌, ◌||◌, List, [], ◌∷◌, ◌++◌, length, All, get_or, replicate, unsigned_abs, true, false, eqb, arith, refl, sym, ap, ◌∙◌, subst, inl, inr, ⊎_elim}
use Rattle.std.specs.List.{IsDistinct, AllByRecursion, list_any}
use Rattle.std.proofs.lemmas.Int.{ints}
use Rattle.std.proofs.lemmas.Bool.{cases_lt}
use Rattle.std.proofs.lemmas.Bool.Decides.{nat_tests}
use Rattle.std.proofs.lemmas.List.{length-append, get_or-replicate, length-replicate, get_or_push, get_or_append_left}
use Rattle.std.proofs.lemmas.List.Elements.{All-nil, All-cons, All-head, All-tail, All-replicate, All-weaker, All-from_get_or}
use Rattle.std.proofs.lemmas.Map.Keys.{IsDistinct-tail, IsDistinct-cons}
use Rattle.std.proofs.lemmas.Map.Steps.{length-le_from_distinct_below}
use Rattle.bid_rules.specs.Walks.{walk_weight, AreVertices, HasNoPositiveCycle, IsGreatestWeight, IsRank, AreGreatestWeights, AreRanks}
use Rattle.room_assignment.specs.declared.limits.TheConstants.{MOST_STEP}
use Rattle.room_assignment.specs.Matrix.{IsSquare, Matrix, entry}
use Rattle.room_assignment.specs.Rounds.{IsLongestWithin, AreLongestWithin}

-- a walk through a vertex is the walk to it and the walk from it
pub walk_weight-append : (w : ℕ → ℕ → ℤ) (to : ℕ) (xs : List ℕ) (v : ℕ) (ys : List ℕ) → walk_weight w to (xs ++ v ∷ ys) ≡ walk_weight w v ys +ℤ walk_weight w to (xs ++ v ∷ [])
walk_weight-append w to [] v ys = omega (arith, ints)
walk_weight-append w to (x ∷ xs) v ys = let h = walk_weight-append w x xs v ys in omega (arith, ints, h)

-- a vertex is in a list or apart from it
pub record IsCutAt (i : ℕ) (xs : List ℕ) : Type 0 where
  pub before : List ℕ
  pub after : List ℕ
  pub is : xs ≡ before ++ i ∷ after

-- two vertices are the same or apart
same_or_apart : (i x : ℕ) → (x ≡ i) ⊎ (eqb i x ≡ false)
same_or_apart i x = ⊎_elim
    (λ l. inr (grind (arith, nat_tests)))
    (λ l. ⊎_elim (λ m. inr (grind (arith, nat_tests))) (λ m. inl (omega arith)) (cases_lt x i))
    (cases_lt i x)

-- a list is cut at a vertex, or the vertex is apart from it
pub cut_or_apart : (i : ℕ) (xs : List ℕ) → IsCutAt i xs ⊎ AllByRecursion (λ y. eqb i y ≡ false) xs
cut_or_apart i [] = inr tt
cut_or_apart i (x ∷ xs) = ⊎_elim
    (λ (e : x ≡ i). inl (record { before = []; after = xs; is = ap (λ y. y ∷ xs) e }))
    (λ (d : eqb i x ≡ false). ⊎_elim
    (λ (h : IsCutAt i xs). inl (record { before = x ∷ h.before; after = h.after; is = ap (λ ys. x ∷ ys) h.is }))
    (λ (h : AllByRecursion (λ y. eqb i y ≡ false) xs). inr (d, h))
    (cut_or_apart i xs))
    (same_or_apart i x)

-- the second part of a list with no vertex twice
distinct_after : (xs : List ℕ) (v : ℕ) (ys : List ℕ) → IsDistinct eqb (xs ++ v ∷ ys) → IsDistinct eqb (v ∷ ys)
distinct_after [] v ys h = h
distinct_after (x ∷ xs) v ys h = distinct_after xs v ys (IsDistinct-tail eqb x (xs ++ v ∷ ys) h)

-- both parts of a cut walk have vertices
vertices_after : (n : ℕ) (xs : List ℕ) (v : ℕ) (ys : List ℕ) → AreVertices n (xs ++ v ∷ ys) → AreVertices n xs × AreVertices n ys
vertices_after n [] v ys h = (All-nil (λ j. j < n), All-tail (λ j. j < n) v ys h)
vertices_after n (x ∷ xs) v ys h =
    let rest = vertices_after n xs v ys (All-tail (λ j. j < n) x (xs ++ v ∷ ys) h) in
    (All-cons (λ j. j < n) x xs (All-head (λ j. j < n) x (xs ++ v ∷ ys) h) rest.0, rest.1)

-- no vertex comes twice in an empty walk
nothing : IsDistinct eqb []
unfolding IsDistinct
nothing = tt

-- a walk with no vertex twice that is as heavy and not longer
pub record HasShortWalk (n : ℕ) (w : ℕ → ℕ → ℤ) (to : ℕ) (before : List ℕ) : Type 0 where
  pub walk : List ℕ
  pub vertices : AreVertices n walk
  pub distinct : IsDistinct eqb (to ∷ walk)
  pub heavy : walk_weight w to before ≤ℤ walk_weight w to walk
  pub short : length walk ≤ length before

-- and so has the walk with one step more
short_walk_more : (n : ℕ) (w : ℕ → ℕ → ℤ) → HasNoPositiveCycle n w → (to from : ℕ) (before : List ℕ) → to < n → from < n → HasShortWalk n w from before → HasShortWalk n w to (from ∷ before)
short_walk_more n w none to from before l known r = ⊎_elim
    (λ (cut : IsCutAt to (from ∷ r.walk)).
    let parts : AreVertices n cut.before × AreVertices n cut.after = vertices_after n cut.before to cut.after (subst (AreVertices n) cut.is vertices) in
    let weight : walk_weight w to (from ∷ r.walk) ≡ walk_weight w to cut.after +ℤ walk_weight w to (cut.before ++ to ∷ []) = ap (walk_weight w to) cut.is ∙ walk_weight-append w to cut.before to cut.after in
    let round = none to cut.before l parts.0 in
    let heavy = r.heavy in
    let short = r.short in
    let count : length (from ∷ r.walk) ≡ length cut.before + length (to ∷ cut.after) = ap length cut.is ∙ length-append cut.before (to ∷ cut.after) in
    record {
      walk = cut.after;
      vertices = parts.1;
      distinct = distinct_after cut.before to cut.after (subst (IsDistinct eqb) cut.is r.distinct);
      heavy = omega (arith, ints);
      short = omega arith;
    })
    (λ (apart : AllByRecursion (λ y. eqb to y ≡ false) (from ∷ r.walk)).
    let heavy = r.heavy in
    let short = r.short in
    record {
      walk = from ∷ r.walk;
      vertices = vertices;
      distinct = IsDistinct-cons eqb to (from ∷ r.walk) apart r.distinct;
      heavy = omega (arith, ints);
      short = omega arith;
    })
    (cut_or_apart to (from ∷ r.walk))
  where
    vertices : AreVertices n (from ∷ r.walk)
    vertices = All-cons (λ j. j < n) from r.walk known r.vertices

-- each walk has a short one
pub short_walk : (n : ℕ) (w : ℕ → ℕ → ℤ) → HasNoPositiveCycle n w → (to : ℕ) (before : List ℕ) → to < n → AreVertices n before → HasShortWalk n w to before
short_walk n w none to [] l h = record { walk = []; vertices = All-nil (λ j. j < n); distinct = IsDistinct-cons eqb to [] tt nothing; heavy = omega (arith, ints); short = omega arith }
short_walk n w none to (from ∷ before) l h =
    let known : from < n = All-head (λ j. j < n) from before h in
    short_walk_more n w none to from before l known (short_walk n w none from before known (All-tail (λ j. j < n) from before h))

-- a vertex that is found in a list is below n
member_below : (n : ℕ) (xs : List ℕ) → AreVertices n xs → (q : ℕ) → list_any (eqb q) xs ≡ true → q < n
member_below n [] h q e = cc
member_below n (x ∷ xs) h q e = ⊎_elim
    (λ (same : x ≡ q). subst (λ y. y < n) same (All-head (λ j. j < n) x xs h))
    (λ (d : eqb q x ≡ false). member_below n xs (All-tail (λ j. j < n) x xs h) q (ap (λ b. b || list_any (eqb q) xs) (sym d) ∙ e))
    (same_or_apart q x)

-- such a walk has at most n - 1 steps
pub short_count : (n to : ℕ) (walk : List ℕ) → to < n → AreVertices n walk → IsDistinct eqb (to ∷ walk) → length walk + 1 ≤ n
short_count n to walk l h d =
    let all : AreVertices n (to ∷ walk) = All-cons (λ j. j < n) to walk l h in
    let count = length-le_from_distinct_below (to ∷ walk) n d (member_below n (to ∷ walk) all) in
    omega arith

-- what is greatest within n - 1 steps is greatest
pub all_steps : (limit n : ℕ) (w : ℕ → ℕ → ℤ) (to : ℕ) (weight : ℤ) (steps : ℕ) → HasNoPositiveCycle n w → to < n → n ≤ limit + 1 → IsLongestWithin limit n w to weight steps
    → IsGreatestWeight n w to weight × IsRank n w to weight steps
all_steps limit n w to weight steps none l enough h = (
  record {
    attained = (h.attained.0, h.attained.1, h.attained.2);
    greatest = λ before vertices.
        let s : HasShortWalk n w to before = short_walk n w none to before l vertices in
        let count = short_count n to s.walk l s.vertices s.distinct in
        let below = h.greatest s.walk s.vertices (omega arith) in
        let heavy = s.heavy in
        omega (arith, ints);
  },
  record {
    attained = h.attained;
    least = λ before vertices is.
        let s : HasShortWalk n w to before = short_walk n w none to before l vertices in
        let count = short_count n to s.walk l s.vertices s.distinct in
        let below = h.greatest s.walk s.vertices (omega arith) in
        let heavy = s.heavy in
        let short = s.short in
        let least = h.shortest s.walk s.vertices (omega arith) (omega (arith, ints)) in
        omega arith;
  },
)

-- one step more
pub longer : (limit n : ℕ) (w : ℕ → ℕ → ℤ) (weight_of : ℕ → ℤ) (rank_of : ℕ → ℕ) → ((j : ℕ) → j < n → IsLongestWithin limit n w j (weight_of j) (rank_of j))
    → (to : ℕ) (best : ℤ) → to < n → ((from : ℕ) × (from < n) × (best ≡ weight_of from +ℤ w from to)) → ((from : ℕ) → from < n → (weight_of from +ℤ w from to) ≤ℤ best)
    → (weight_of to <ℤ best → IsLongestWithin (limit + 1) n w to best (limit + 1)) × (best ≤ℤ weight_of to → IsLongestWithin (limit + 1) n w to (weight_of to) (rank_of to))
longer limit n w weight_of rank_of h to best l reached greatest = (
  λ (above : weight_of to <ℤ best).
      let from = reached.0 in
      let last = h from reached.1 in
      let walk = last.attained in
      let within = last.within in
      let vertices : AreVertices n (from ∷ walk.0) = All-cons (λ j. j < n) from walk.0 reached.1 walk.1 in
      let weight : walk_weight w to (from ∷ walk.0) ≡ best = ap (λ z. z +ℤ w from to) walk.2 ∙ sym reached.2 in
      let many = exact above (from ∷ walk.0) vertices weight in
      let short = walk.3 in
      record {
        attained = (from ∷ walk.0, vertices, weight, omega arith);
        within = omega arith;
        greatest = heaviest best (omega (arith, ints)) (omega (arith, ints));
        shortest = λ before vertices short is. exact above before vertices is;
      },
  λ (below : best ≤ℤ weight_of to).
      let within = (h to l).within in
      record {
        attained = (h to l).attained;
        within = omega arith;
        greatest = heaviest (weight_of to) below (omega (arith, ints));
        shortest = λ before vertices short is. ⊎_elim
            (λ (few : length before < limit + 1). (h to l).shortest before vertices (omega arith) is)
            (λ many. omega arith)
            (cases_lt (length before) (limit + 1));
      },
)
  where
    exact : weight_of to <ℤ best → (before : List ℕ) → AreVertices n before → walk_weight w to before ≡ best → limit + 1 ≤ length before
    exact above before vertices is = ⊎_elim
        (λ (few : length before < limit + 1). absurd (let below = (h to l).greatest before vertices (omega arith) in omega (arith, ints)))
        (λ many. many)
        (cases_lt (length before) (limit + 1))

    heaviest : (most : ℤ) → best ≤ℤ most → weight_of to ≤ℤ most → (before : List ℕ) → AreVertices n before → length before ≤ limit + 1 → walk_weight w to before ≤ℤ most
    heaviest most a b [] vertices short = let heavy = (h to l).greatest [] vertices (omega arith) in omega (arith, ints)
    heaviest most a b (from ∷ before) vertices short =
        let known : from < n = All-head (λ j. j < n) from before vertices in
        let heavy = (h from known).greatest before (All-tail (λ j. j < n) from before vertices) (omega arith) in
        let one = greatest from known in
        omega (arith, ints)

-- the walk of no steps alone
pub no_steps : (n : ℕ) (w : ℕ → ℕ → ℤ) (to : ℕ) → IsLongestWithin 0 n w to (pos 0) 0
no_steps n w to = record {
  attained = ([], All-nil (λ j. j < n), refl, refl);
  within = omega arith;
  greatest = λ before vertices short. empty before short;
  shortest = λ before vertices short is. omega arith;
}
  where
    empty : (before : List ℕ) → length before ≤ 0 → walk_weight w to before ≤ℤ pos 0
    empty [] short = omega (arith, ints)
    empty (x ∷ before) short = absurd (omega arith)

-- no entry is above 10^21 in size
pub entry_small : (m : Matrix) (from to : ℕ) → IsSquare m → from < length m.items → to < length m.items → unsigned_abs (entry m from to) ≤ MOST_STEP
unfolding entry
entry_small m from to square a b =
    let row = square.small from (record { items = [] }) a in
    let columns = square.columns from (record { items = [] }) a in
    row to (pos 0) (omega arith)

-- the first weights and ranks are those of walks of no steps
pub none_within : (n : ℕ) (w : ℕ → ℕ → ℤ) (weights : List ℤ) (ranks : List ℕ) → weights ≡ replicate n (pos 0) → ranks ≡ replicate n 0 → AreLongestWithin 0 n w weights ranks
none_within n w weights ranks e f = record {
  weights_count = ap length e ∙ length-replicate n (pos 0);
  ranks_count = ap length f ∙ length-replicate n 0;
  small = subst (All (λ z. unsigned_abs z ≤ MOST_STEP * 0)) (sym e) (All-replicate (λ z. unsigned_abs z ≤ MOST_STEP * 0) n (pos 0) (omega arith));
  longest = λ i l.
      let a : pos 0 ≡ get_or weights i (pos 0) = sym (ap (λ zs. get_or zs i (pos 0)) e ∙ get_or-replicate n i (pos 0) (pos 0) l) in
      let b : 0 ≡ get_or ranks i 0 = sym (ap (λ zs. get_or zs i 0) f ∙ get_or-replicate n i 0 0 l) in
      subst (λ z. IsLongestWithin 0 n w i z (get_or ranks i 0)) a (subst (λ k. IsLongestWithin 0 n w i (pos 0) k) b (no_steps n w i));
}

-- after n - 1 rounds the weights are the greatest, and the ranks are theirs
pub all_greatest : (limit n : ℕ) (w : ℕ → ℕ → ℤ) (weights : List ℤ) (ranks : List ℕ) → HasNoPositiveCycle n w → n ≤ limit + 1 → AreLongestWithin limit n w weights ranks → AreGreatestWeights n w weights
all_greatest limit n w weights ranks none enough h = record {
  count = h.weights_count;
  each = λ i l. (all_steps limit n w i (get_or weights i (pos 0)) (get_or ranks i 0) none l enough (h.longest i l)).0;
}

-- the ranks after n - 1 rounds
pub all_ranks : (limit n : ℕ) (w : ℕ → ℕ → ℤ) (weights : List ℤ) (ranks : List ℕ) → HasNoPositiveCycle n w → n ≤ limit + 1 → AreLongestWithin limit n w weights ranks → AreRanks n w weights ranks
all_ranks limit n w weights ranks none enough h = record {
  count = h.ranks_count;
  each = λ i l. (all_steps limit n w i (get_or weights i (pos 0)) (get_or ranks i 0) none l enough (h.longest i l)).1;
}

-- and they are small
pub all_small : (limit n : ℕ) (w : ℕ → ℕ → ℤ) (weights : List ℤ) (ranks : List ℕ) → limit ≤ n → AreLongestWithin limit n w weights ranks → All (λ z. unsigned_abs z ≤ MOST_STEP * n) weights
all_small limit n w weights ranks few h = All-weaker (λ z. unsigned_abs z ≤ MOST_STEP * limit) (λ z. unsigned_abs z ≤ MOST_STEP * n) (λ z a. omega (arith, a, few)) weights h.small

-- each rank is below the number of vertices, where the walks have fewer steps
pub ranks_below : (limit n : ℕ) (w : ℕ → ℕ → ℤ) (weights : List ℤ) (ranks : List ℕ) → (0 < n → limit < n) → AreLongestWithin limit n w weights ranks → All (λ rank. rank < n) ranks
ranks_below limit n w weights ranks few h = All-from_get_or (λ rank. rank < n) ranks 0 (λ i l.
    let count = h.ranks_count in
    let known : i < n = omega (arith, l, count) in
    let within = (h.longest i known).within in
    let low = few (omega (arith, known)) in
    omega (arith, within, low))

-- one vertex more
pub push_longest : (limit n : ℕ) (w : ℕ → ℕ → ℤ) (k : ℕ) (weights : List ℤ) (ranks : List ℕ) (weight : ℤ) (steps : ℕ) → length weights ≡ k → length ranks ≡ k
    → ((i : ℕ) → i < k → IsLongestWithin limit n w i (get_or weights i (pos 0)) (get_or ranks i 0)) → IsLongestWithin limit n w k weight steps
    → (i : ℕ) → i < k + 1 → IsLongestWithin limit n w i (get_or (weights ++ weight ∷ []) i (pos 0)) (get_or (ranks ++ steps ∷ []) i 0)
push_longest limit n w k weights ranks weight steps e f h here i l = ⊎_elim
    (λ (early : i < k).
    let a : i < length weights = omega arith in
    let b : i < length ranks = omega arith in
    rw (get_or_append_left weights (weight ∷ []) (pos 0) i a, get_or_append_left ranks (steps ∷ []) 0 i b) (h i early))
    (λ late.
    let is : i ≡ k = omega arith in
    rw (get_or_push weights weight (pos 0) i (e ∙ sym is), get_or_push ranks steps 0 i (f ∙ sym is)) (subst (λ j. IsLongestWithin limit n w j weight steps) (sym is) here))
    (cases_lt i k)

-- the greatest so far, one more
pub more_best : (f : ℕ → ℤ) (n k : ℕ) (best other new : ℤ) → k < n → other ≡ f k → ((from : ℕ) × (from < n) × (best ≡ f from)) → ((from : ℕ) → from < k → f from ≤ℤ best)
    → best ≤ℤ new → other ≤ℤ new → (new ≡ best) ⊎ (new ≡ other) → ((from : ℕ) × (from < n) × (new ≡ f from)) × ((from : ℕ) → from < k + 1 → f from ≤ℤ new)
more_best f n k best other new l is reached greatest above_best above_other one = (
  ⊎_elim (λ (e : new ≡ best). (reached.0, reached.1, e ∙ reached.2)) (λ (e : new ≡ other). (k, l, e ∙ is)) one,
  λ from m. ⊎_elim
      (λ (early : from < k). let h = greatest from early in omega (arith, ints))
      (λ late. let same : from ≡ k = omega arith in let is' : f from ≡ f k = ap f same in omega (arith, ints))
      (cases_lt from k),
)

-- the same read from slices that hold the lists
pub longer_lists : (limit n : ℕ) (w : ℕ → ℕ → ℤ) (weights seen read : List ℤ) (ranks marks : List ℕ) (to : ℕ) (best : ℤ) → AreLongestWithin limit n w weights ranks → to < n
    → seen ≡ weights → read ≡ weights → marks ≡ ranks
    → ((from : ℕ) × (from < length seen) × (best ≡ get_or seen from (pos 0) +ℤ w from to)) → ((from : ℕ) → from < length seen → (get_or seen from (pos 0) +ℤ w from to) ≤ℤ best)
    → (get_or read to (pos 0) <ℤ best → IsLongestWithin (limit + 1) n w to best (limit + 1)) × (best ≤ℤ get_or read to (pos 0) → IsLongestWithin (limit + 1) n w to (get_or read to (pos 0)) (get_or marks to 0))
longer_lists limit n w weights seen read ranks marks to best h l e f g reached greatest =
    let count : length seen ≡ n = ap length e ∙ h.weights_count in
    let at : (i : ℕ) → get_or seen i (pos 0) ≡ get_or weights i (pos 0) = λ i. ap (λ zs. get_or zs i (pos 0)) e in
    let both = longer limit n w (λ i. get_or weights i (pos 0)) (λ i. get_or ranks i 0) h.longest to best l
    (reached.0, subst (λ k. reached.0 < k) count reached.1, reached.2 ∙ ap (λ z. z +ℤ w reached.0 to) (at reached.0))
    (λ from m. subst (λ z. (z +ℤ w from to) ≤ℤ best) (at from) (greatest from (subst (λ k. from < k) (sym count) m))) in (
      subst (λ zs. get_or zs to (pos 0) <ℤ best → IsLongestWithin (limit + 1) n w to best (limit + 1)) (sym f) both.0,
      subst (λ zs. best ≤ℤ get_or zs to (pos 0) → IsLongestWithin (limit + 1) n w to (get_or zs to (pos 0)) (get_or marks to 0)) (sym f)
          (subst (λ ks. best ≤ℤ get_or weights to (pos 0) → IsLongestWithin (limit + 1) n w to (get_or weights to (pos 0)) (get_or ks to 0)) (sym g) both.1),
    )

-- the weight of one step more is small
pub longer_small : (limit : ℕ) (m : Matrix) (weights seen : List ℤ) (to : ℕ) (best : ℤ) → IsSquare m → to < length m.items → length weights ≡ length m.items → seen ≡ weights → All (λ z. unsigned_abs z ≤ MOST_STEP * limit) weights
    → ((from : ℕ) × (from < length seen) × (best ≡ get_or seen from (pos 0) +ℤ entry m from to)) → unsigned_abs best ≤ MOST_STEP * (limit + 1)
longer_small limit m weights seen to best square l count e small reached =
    let known : reached.0 < length m.items = subst (λ k. reached.0 < k) (ap length e ∙ count) reached.1 in
    let a = entry_small m reached.0 to square known l in
    let b : unsigned_abs (get_or seen reached.0 (pos 0)) ≤ MOST_STEP * limit = subst (λ zs. unsigned_abs (get_or zs reached.0 (pos 0)) ≤ MOST_STEP * limit) (sym e) (small reached.0 (pos 0) (subst (λ k. reached.0 < k) (ap length e) reached.1)) in
    let is = reached.2 in
    omega (arith, ints)
