use Rattle.std.proofs.Common.{arith, ◌≡◌, ◌≤◌, ℕ, List, ◌∙◌, refl, Bool, true, false, IsTrue, inl, inr, not}
use Rattle.bid_rules.specs.declared.goods.GoodsCase.{GoodsCase}
use Rattle.bid_rules.specs.declared.limits.TheConstants.{MEMBER_ROOM}
use Rattle.bid_rules.specs.Goods.{player_count}
use Rattle.nash_bounds.specs.Lanes.{by_lane, has}
use Rattle.prefix_trees.specs.Ranks.{AreRanked}
use Rattle.prefix_trees.specs.Twins.{IsTwin}
use Rattle.prefix_trees.proofs.RankedTwins.{Compared, more_from_twin, ranks_from_twin, twin_from_ranks}
use Rattle.prefix_trees.proofs.twin.is_twin.Goals as goal

-- what was compared
abbrev compared : (case : GoodsCase) (twin owners lows highs low_ranks high_ranks : List ℕ) → player_count case ≤ MEMBER_ROOM → lows ≡ by_lane (has case owners) → highs ≡ by_lane (has case twin)
    → AreRanked case lows low_ranks → AreRanked case highs high_ranks → Compared case twin owners
compared case twin owners lows highs low_ranks high_ranks few is_low is_high low high = record {
  few = omega arith;
  lows = lows;
  highs = highs;
  low_ranks = low_ranks;
  high_ranks = high_ranks;
  is_low = is_low;
  is_high = is_high;
  low = low;
  high = high;
}

-- a test and what it says, turned round
turned : (b : Bool) (P : Type 0) → (b ≡ false → P) → (b ≡ true → P → ⊥) → (IsTrue (not b) → P) × (P → IsTrue (not b))
turned true P shown refuted = (λ h. absurd (let e : false ≡ true = h in cc), λ p. absurd (refuted refl p))
turned false P shown refuted = (λ h. shown refl, λ p. refl)

pub returns-then-not-nowhere_above : goal.returns-then-not-nowhere_above
returns-then-not-nowhere_above c =
    let case = c.args.case.now in
    let twin : List ℕ = c.args.twin.now in
    let owners : List ℕ = c.args.owners.now in
    let h = compared case twin owners c.as_array.result.now c.sums_under.result c.ranked-ranks.result c.ranked-twin_ranks.result c.requires.table.few
    (c.as_array.ensures ∙ c.requires.lanes.is_low) c.sums_under.ensures c.ranked-ranks.ensures c.ranked-twin_ranks.ensures in
    let above = c.nowhere_above.ensures.above c.if-not-nowhere_above.true in (
      λ yes. absurd (let e : false ≡ true = yes in cc),
      λ is. absurd (let under = ranks_from_twin case twin owners h is above.0 above.1 in omega (arith, above.2, under)),
    )

pub returns-then-is_earlier : goal.returns-then-is_earlier
returns-then-is_earlier c =
    let case = c.args.case.now in
    let twin : List ℕ = c.args.twin.now in
    let owners : List ℕ = c.args.owners.now in
    let h = compared case twin owners c.as_array.result.now c.sums_under.result c.ranked-ranks.result c.ranked-twin_ranks.result c.requires.table.few
    (c.as_array.ensures ∙ c.requires.lanes.is_low) c.sums_under.ensures c.ranked-ranks.ensures c.ranked-twin_ranks.ensures in (
      λ yes. twin_from_ranks case twin owners h (c.are_owners.ensures.0 c.if-not-are_owners.false) c.if-twin-owners.false (c.nowhere_above.ensures.under c.if-not-nowhere_above.false)
          (inl (c.is_earlier.ensures.0 c.if-is_earlier.true)),
      λ is. refl,
    )

pub returns : goal.returns
returns c =
    let case = c.args.case.now in
    let twin : List ℕ = c.args.twin.now in
    let owners : List ℕ = c.args.owners.now in
    let h = compared case twin owners c.as_array.result.now c.sums_under.result c.ranked-ranks.result c.ranked-twin_ranks.result c.requires.table.few
    (c.as_array.ensures ∙ c.requires.lanes.is_low) c.sums_under.ensures c.ranked-ranks.ensures c.ranked-twin_ranks.ensures in
    turned c.nowhere_above-2.result (IsTwin case twin owners)
    (λ no. twin_from_ranks case twin owners h (c.are_owners.ensures.0 c.if-not-are_owners.false) c.if-twin-owners.false (c.nowhere_above.ensures.under c.if-not-nowhere_above.false)
    (inr (c.nowhere_above-2.ensures.above no)))
    (λ yes is. more_from_twin case twin owners h is (λ earlier. let a = c.is_earlier.ensures.1 earlier in let b = c.if-is_earlier.false in cc) (c.nowhere_above-2.ensures.under yes))
