-- The first of the players at a good.
use Rattle.std.proofs.Common.{◌≡◌, ℕ, ◌+◌, ◌-◌, ◌<◌, ◌≤◌, List, [], ◌∷◌, ◌++◌, length, take, slice_index, arith, refl, sym, ap, ◌∙◌, subst, ◌⊎◌, inl, inr}
use Rattle.std.proofs.lemmas.Bool.{cases_eq}
use Rattle.bid_rules.specs.declared.goods.GoodsCase.{GoodsCase}
use Rattle.bid_rules.specs.Goods.{points, utilities, order_of}
use Rattle.std.proofs.lemmas.List.{take-append-le, get_or_append_left}
use Rattle.std.proofs.Math.Seq.{get_or-append_seam}
use Rattle.nash_bounds.specs.Levels.{bound_of}
use Rattle.nash_bounds.specs.Prefixes.{IsPrefix, prefix_bound}
use Rattle.nash_bounds.specs.declared.prefix.Prefix.{Prefix}
use Rattle.nash_bounds.specs.Start.{ComesFirst, IsStartOwner}
use Rattle.nash_search.specs.First.{IsFirstAmong}
use Rattle.std.proofs.Math.Seq.{take-length}

-- a player comes first before another, by what both have and give
abbrev First : ℕ → ℕ → ℕ → ℕ → ℕ → ℕ → Type 0
First up uo pp po p o = (up < uo) ⊎ ((up ≡ uo) × ((po < pp) ⊎ ((po ≡ pp) × (p ≤ o))))

-- who comes first before one that comes first before a third comes first before the third
chain : (up ub uo pp pb po p b o : ℕ) → b < p → First up ub pp pb p b → First ub uo pb po b o → First up uo pp po p o
chain up ub uo pp pb po p b o l h k = grind arith

-- a player comes first before itself
itself : (u p n : ℕ) → First u u p p n n
itself u p n = inr (refl, inr (refl, omega arith))

-- a player without points for the good changes nothing
pub first_skip : (case : GoodsCase) (us : List ℕ) (good player best : ℕ) → 1 ≤ player → points case player good ≡ 0 → IsFirstAmong case us good (player - 1) best → IsFirstAmong case us good player best
first_skip case us good player best l z (inl h) = inl (h.0, λ o a b. elim (cases_eq o player) [ inl e ↦ subst (λ n. points case n good ≡ 0) (sym e) z | inr ne ↦ h.1 o a (omega arith) ])
first_skip case us good player best l z (inr h) = inr (
  h.0,
  (let x = h.1 in omega arith),
  h.2,
  λ o a b some.
      elim (cases_eq o player) [ inl e ↦ absurd (let y : 0 < points case player good = subst (λ n. 0 < points case n good) e some in omega arith) | inr ne ↦ h.3 o a (omega arith) some ],
)

-- the first player with points is the best so far
pub first_one : (case : GoodsCase) (us : List ℕ) (good player best : ℕ) → 1 ≤ player → best ≡ 0 → 0 < points case player good → IsFirstAmong case us good (player - 1) best → IsFirstAmong case us good player player
first_one case us good player best l z some (inr h) = absurd (let x = h.0 in omega arith)
first_one case us good player best l z some (inl h) = inr (
  l,
  omega arith,
  some,
  λ o a b more.
      elim (cases_eq o player) [
        | inl e ↦ subst (λ n. ComesFirst case us good player n) (sym e) (itself (slice_index us (player - 1)) (points case player good) player)
        | inr ne ↦ absurd (let y = h.1 o a (omega arith) in omega arith)
      ],
)

-- a player who comes before the best so far is the best so far
pub first_new : (case : GoodsCase) (us : List ℕ) (good player best : ℕ) → 1 ≤ player → 0 < best → 0 < points case player good → ComesFirst case us good player best → IsFirstAmong case us good (player - 1) best → IsFirstAmong case us good player player
first_new case us good player best l z some c (inl h) = absurd (let x = h.0 in omega arith)
first_new case us good player best l z some c (inr h) = inr (
  l,
  omega arith,
  some,
  λ o a b more.
      elim (cases_eq o player) [
        | inl e ↦ subst (λ n. ComesFirst case us good player n) (sym e) (itself (slice_index us (player - 1)) (points case player good) player)
        | inr ne ↦ chain (slice_index us (player - 1)) (slice_index us (best - 1)) (slice_index us (o - 1)) (points case player good) (points case best good) (points case o good) player best o
            (let x = h.1 in omega arith) c (h.3 o a (omega arith) more)
      ],
)

-- a player who doesn't leaves the best so far
pub first_old : (case : GoodsCase) (us : List ℕ) (good player best : ℕ) → 1 ≤ player → 0 < best → ComesFirst case us good best player → IsFirstAmong case us good (player - 1) best → IsFirstAmong case us good player best
first_old case us good player best l z c (inl h) = absurd (let x = h.0 in omega arith)
first_old case us good player best l z c (inr h) = inr (
  h.0,
  (let x = h.1 in omega arith),
  h.2,
  λ o a b more.
      elim (cases_eq o player) [ inl e ↦ subst (λ n. ComesFirst case us good best n) (sym e) c | inr ne ↦ h.3 o a (omega arith) more ],
)

-- one more good given by the rule
pub each_more : (case : GoodsCase) (owners new low : List ℕ) (o k good : ℕ) → length owners ≡ k → new ≡ owners ++ o ∷ [] → low ≡ utilities case owners → good ≡ slice_index (order_of case) k
    → IsStartOwner case low good o
    → ((j : ℕ) → j < k → IsStartOwner case (utilities case (take j owners)) (slice_index (order_of case) j) (slice_index owners j))
    → (j : ℕ) → j < k + 1 → IsStartOwner case (utilities case (take j new)) (slice_index (order_of case) j) (slice_index new j)
each_more case owners new low o k good long is low_is good_is here before j l =
    elim (cases_eq j k) [
      | inl e ↦ (
          let front : take j new ≡ owners = ap (take j) is ∙ take-append-le j owners (o ∷ []) (omega arith) ∙ ap (λ n. take n owners) (e ∙ sym long) ∙ take-length owners in
          let last : slice_index new j ≡ o = ap (λ n. slice_index new n) (e ∙ sym long) ∙ ap (λ xs. slice_index xs (length owners)) is ∙ get_or-append_seam owners o [] 0 in
          let good_at : good ≡ slice_index (order_of case) j = good_is ∙ ap (slice_index (order_of case)) (sym e) in
          subst (λ us. IsStartOwner case us (slice_index (order_of case) j) (slice_index new j)) (low_is ∙ ap (utilities case) (sym front))
          (subst (λ q. IsStartOwner case low (slice_index (order_of case) j) q) (sym last)
          (subst (λ q. IsStartOwner case low q o) good_at here)))
      | inr ne ↦ (
          let front : take j new ≡ take j owners = ap (take j) is ∙ take-append-le j owners (o ∷ []) (omega arith) in
          let at : slice_index new j ≡ slice_index owners j = ap (λ xs. slice_index xs j) is ∙ get_or_append_left owners (o ∷ []) 0 j (omega arith) in
          subst (λ xs. IsStartOwner case (utilities case xs) (slice_index (order_of case) j) (slice_index new j)) (sym front)
          (subst (λ q. IsStartOwner case (utilities case (take j owners)) (slice_index (order_of case) j) q) (sym at) (before j (omega arith))))
    ]

-- a prefix's bound is that of its owners
pub prefix_pair : (case : GoodsCase) (prefix : Prefix) → IsPrefix case prefix → bound_of prefix.low.items prefix.high.items prefix.top ≡ prefix_bound case prefix.owners.items
prefix_pair case prefix is = rw (is.is_low, is.is_high, is.is_top) refl
