-- A valid case has a start value, and so a step count.
use Rattle.std.proofs.Common.{◌≡◌, ℕ, zero, suc, ◌-◌, ◌<◌, ◌≤◌, ◌⊎◌, List, [], ◌∷◌, ◌++◌, length, take, slice_index, arith, refl, subst, ⊎_elim, inl, inr}
use Rattle.std.proofs.lemmas.List.{length_push}
use Rattle.std.proofs.lemmas.List.Elements.{All-nil, All-push}
use mathlib.Core.Logic.{dite}
use native.Mathlib.Decide.{dec_le}
use Rattle.bid_rules.specs.declared.goods.GoodsCase.{GoodsCase}
use Rattle.bid_rules.specs.declared.pair.Pair.{Pair}
use Rattle.bid_rules.specs.Goods.{AreOwners, IsValidGoodsCase, order_of, player_count, points, utilities}
use Rattle.bid_rules.specs.Pairs.{nash_welfare}
use Rattle.nash_bounds.specs.Start.{IsStartOwner, IsStartValue}
use Rattle.nash_bounds.specs.Steps.{HasSteps, step_count}
use Rattle.nash_search.specs.First.{IsFirstAmong}
use Rattle.nash_search.proofs.FirstPlayers.{each_more, first_new, first_old, first_one, first_skip}

-- of two players one comes first before the other
either_first : (up uo pp po p o : ℕ) → ((up < uo) ⊎ ((up ≡ uo) × ((po < pp) ⊎ ((po ≡ pp) × (p ≤ o))))) ⊎ ((uo < up) ⊎ ((uo ≡ up) × ((pp < po) ⊎ ((pp ≡ po) × (o ≤ p)))))
either_first up uo pp po p o = grind arith

-- among the players up to one more, where the first of those before is known
next_first : (case : GoodsCase) (us : List ℕ) (good player best : ℕ) → 1 ≤ player → IsFirstAmong case us good (player - 1) best → (first : ℕ) × IsFirstAmong case us good player first
next_first case us good player best low before = dite (dec_le 1 (points case player good))
    (λ some. dite (dec_le 1 best)
    (λ there. ⊎_elim
    (λ new. (player, first_new case us good player best low there some new before))
    (λ old. (best, first_old case us good player best low there old before))
    (either_first (slice_index us (player - 1)) (slice_index us (best - 1)) (points case player good) (points case best good) player best))
    (λ none. (player, first_one case us good player best low (omega (arith, none)) some before)))
    (λ none. (best, first_skip case us good player best low (omega (arith, none)) before))

-- there is a first of the first few players
some_first : (case : GoodsCase) (us : List ℕ) (good k : ℕ) → (first : ℕ) × IsFirstAmong case us good k first
some_first case us good zero = (0, inl (refl, λ other low high. absurd (omega (arith, low, high))))
some_first case us good (suc k) =
    let before = some_first case us good k in
    let e : k ≡ suc k - 1 = omega arith in
    next_first case us good (suc k) before.0 (omega arith) (subst (λ n. IsFirstAmong case us good n before.0) e before.1)

-- and so an owner of the good by the rule
some_owner : (case : GoodsCase) (us : List ℕ) (good : ℕ) → 1 ≤ player_count case → (owner : ℕ) × IsStartOwner case us good owner × (1 ≤ owner) × (owner ≤ player_count case)
some_owner case us good players =
    let first = some_first case us good (player_count case) in
    ⊎_elim (λ none. (1, inr (refl, none.1), omega arith, players)) (λ some. (first.0, inl (some.2, some.3), some.0, some.1)) first.1

-- the first few goods given by the rule
record Front (case : GoodsCase) (k : ℕ) (owners : List ℕ) : Type 0 where
  long : length owners ≡ k
  owned : AreOwners case owners
  each : (j : ℕ) → j < k → IsStartOwner case (utilities case (take j owners)) (slice_index (order_of case) j) (slice_index owners j)

-- so many goods can be given
some_front : (case : GoodsCase) → 1 ≤ player_count case → (k : ℕ) → (owners : List ℕ) × Front case k owners
some_front case players zero = ([], record { long = refl; owned = All-nil (λ owner. (1 ≤ owner) × (owner ≤ player_count case)); each = λ j l. absurd (omega (arith, l)) })
some_front case players (suc k) =
    let before = some_front case players k in
    let owners : List ℕ = before.0 in
    let front = before.1 in
    let good : ℕ = slice_index (order_of case) k in
    let one = some_owner case (utilities case owners) good players in
    let longer = length_push owners one.0 in
    let long = front.long in (
      owners ++ one.0 ∷ [],
      record {
        long = omega (arith, longer, long);
        owned = All-push (λ owner. (1 ≤ owner) × (owner ≤ player_count case)) owners one.0 front.owned (one.2, one.3);
        each = λ j l. each_more case owners (owners ++ one.0 ∷ []) (utilities case owners) one.0 k good front.long refl refl refl one.1 front.each j (omega (arith, l));
      },
    )

-- all goods
pub some_start : (case : GoodsCase) → IsValidGoodsCase case → (start : Pair) × IsStartValue case start
some_start case valid =
    let some = valid.some in
    let each = valid.each in
    let all = some_front case (omega (arith, some, each)) case.facts.goods in
    let owners : List ℕ = all.0 in
    (nash_welfare (utilities case owners), (owners, record { allocation = record { each = all.1.long; owned = all.1.owned }; each = all.1.each }, refl))

-- and the count from there
pub some_steps : (case : GoodsCase) → IsValidGoodsCase case → (steps : ℕ) × HasSteps case steps
some_steps case valid = let start = some_start case valid in (step_count case start.0, (start.0, start.1, refl))
