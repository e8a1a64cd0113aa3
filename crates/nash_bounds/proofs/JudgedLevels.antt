-- Whether a bound reaches a goal, by the entries at a level that fits.
use Rattle.std.proofs.Common.{◌≡◌, ℕ, ◌+◌, ◌*◌, ◌-◌, ◌^◌, ◌<◌, ◌≤◌, List, [], ◌∷◌, length, get_or, sum, All, Bool, true, false, arith, ap, ◌∙◌, sym, subst, inl, inr}
use Rattle.std.specs.List.{AllZip}
use Rattle.std.proofs.lemmas.Bool.Decides.{nat_tests}
use Rattle.std.proofs.Math.Nat.{mul-le-mul}
use Rattle.std.proofs.lemmas.Nat.{pow_pos}
use Rattle.bid_rules.specs.declared.pair.Pair.{Pair}
use Rattle.bid_rules.specs.Pairs.{positives, product, IsLess}
use Rattle.nash_bounds.specs.Bound.{IsBetween}
use Rattle.nash_bounds.specs.Goals.{IsAbove, IsGoal, IsShort, is_reached}
use Rattle.nash_bounds.specs.Levels.{bound_of, entries_at_level}
use Rattle.nash_bounds.specs.Reach.{IsFitting, IsSpan, entries_at}
use Rattle.nash_bounds.specs.declared.fitting.Fitting.{Fitting}
use Rattle.nash_bounds.specs.declared.goals.Goal.{Goal}
use Rattle.nash_bounds.specs.declared.lanes.Lanes.{Lanes}
use Rattle.nash_bounds.proofs.FarOwners.{entries_within}
use Rattle.nash_bounds.proofs.FarProducts.{below_units, slack_at}
use Rattle.nash_bounds.proofs.LaneEntries.{entries_length, entries_positive, entries_small, filled_zero, positives_le}
use Rattle.nash_bounds.proofs.LaneVectors.{entries_none}
use Rattle.nash_bounds.proofs.OneBound.{bound_of-is}
use Rattle.split_lemmas.proofs.PairOrder.{at_most-from, at_most-to, less-from, less-to}
use Rattle.bid_rules.specs.declared.limits.TheConstants.{MEMBER_ROOM, WHOLE_POINTS}
use Rattle.nash_bounds.specs.declared.limits.TheConstants.{LANES}

-- there is an entry for each lane
pub fitting_long : (lanes : Lanes) (at : Fitting) → IsSpan lanes → IsFitting lanes at → length at.entries ≡ LANES
fitting_long lanes at span is =
    let a = span.lows in let b = span.highs in
    ap length is.is_entries ∙ entries_length at.level lanes.low lanes.high (omega arith) ∙ a

-- none is above all points of a player
pub fitting_small : (lanes : Lanes) (at : Fitting) → IsSpan lanes → IsFitting lanes at → All (λ v. v ≤ WHOLE_POINTS) at.entries
fitting_small lanes at span is = subst (All (λ v. v ≤ WHOLE_POINTS)) (sym is.is_entries) (entries_within at.level lanes span)

-- those beyond the room for players are 0
pub fitting_rest : (lanes : Lanes) (at : Fitting) → IsSpan lanes → IsFitting lanes at → (k : ℕ) → MEMBER_ROOM ≤ k → get_or at.entries k 0 ≡ 0
fitting_rest lanes at span is k l = ap (λ xs. get_or xs k 0) is.is_entries ∙ entries_none at.level lanes.low lanes.high k span.in_order (span.rest k l)

-- no entry is below its low
entries_large : (level : ℕ) (lows highs : List ℕ) → AllZip ◌≤◌ lows highs → AllZip ◌≤◌ lows (entries_at level lows highs)
entries_large level [] [] h = tt
entries_large level [] (high ∷ highs) h = absurd h
entries_large level (low ∷ lows) [] h = absurd h
entries_large level (low ∷ lows) (high ∷ highs) h = (omega arith, entries_large level lows highs h.1)

-- the entries at a level that fits are a list that the bound is over
fitting_between : (lanes : Lanes) (at : Fitting) → IsSpan lanes → IsFitting lanes at → IsBetween lanes.low lanes.high lanes.top (entries_at at.level lanes.low lanes.high)
fitting_between lanes at span is = record {
  above = entries_large at.level lanes.low lanes.high span.in_order;
  below = entries_small at.level lanes.low lanes.high span.in_order;
  total = (let s = is.is_spare in omega arith);
}

-- the bound counts all lanes that may have points, and its product is at least that of the entries
pub bound_open : (lanes : Lanes) (at : Fitting) → IsSpan lanes → IsFitting lanes at → 1 ≤ at.level
    → ((bound_of lanes.low lanes.high lanes.top).count ≡ positives lanes.high) × (product (entries_at at.level lanes.low lanes.high) ≤ (bound_of lanes.low lanes.high lanes.top).product)
bound_open lanes at span is one =
    let is_bound = bound_of-is lanes.low lanes.high lanes.top span.in_order span.small span.within in
    let few = positives_le is_bound.reached.0 lanes.high is_bound.reached.1.below in
    let count : positives is_bound.reached.0 ≡ (bound_of lanes.low lanes.high lanes.top).count = ap (λ (pair : Pair). pair.count) is_bound.reached.2 in
    let all = entries_positive at.level lanes.low lanes.high one span.in_order in
    elim (is_bound.greatest (entries_at at.level lanes.low lanes.high) (fitting_between lanes at span is)) [
      | inl l ↦ absurd (omega arith)
      | inr r ↦ (omega (arith, r.0), r.1)
    ]

-- a bound of more lanes reaches a goal of fewer
reached : (pair bound : Pair) (beyond : Bool) → pair.count < bound.count → is_reached pair beyond bound ≡ true
reached pair bound true l = less-to pair bound (inl l)
reached pair bound false l = at_most-to pair bound (inl l)

-- a bound that is below a goal does not reach it
missed : (pair bound : Pair) (beyond : Bool) → IsLess bound pair → is_reached pair beyond bound ≡ false
missed pair bound true (inl l) = grind (arith, nat_tests)
missed pair bound true (inr l) = (let e = l.0 in let p = l.1 in grind (arith, nat_tests))
missed pair bound false (inl l) = grind (arith, nat_tests)
missed pair bound false (inr l) = (let e = l.0 in let p = l.1 in grind (arith, nat_tests))

-- where more or fewer lanes may have points than the goal counts, that tells
pub counted_reach : (lanes : Lanes) (at : Fitting) (pair : Pair) (beyond : Bool) → IsSpan lanes → IsFitting lanes at → 1 ≤ at.level
    → (pair.count < positives lanes.high → is_reached pair beyond (bound_of lanes.low lanes.high lanes.top) ≡ true)
    × (positives lanes.high < pair.count → is_reached pair beyond (bound_of lanes.low lanes.high lanes.top) ≡ false)
counted_reach lanes at pair beyond span is one =
    let known = bound_open lanes at span is one in
    let count = known.0 in
    (λ l. reached pair (bound_of lanes.low lanes.high lanes.top) beyond (omega arith), λ l. missed pair (bound_of lanes.low lanes.high lanes.top) beyond (inl (omega arith)))

-- where as many may have points, and the entries reach the goal, so does the bound
pub entries_reach : (lanes : Lanes) (at : Fitting) (pair entries : Pair) (beyond : Bool) → IsSpan lanes → IsFitting lanes at → 1 ≤ at.level → entries.count ≡ positives lanes.high
    → entries.product ≡ product (entries_at at.level lanes.low lanes.high) → is_reached pair beyond entries ≡ true → is_reached pair beyond (bound_of lanes.low lanes.high lanes.top) ≡ true
entries_reach lanes at pair entries true span is one count value reaches =
    let known = bound_open lanes at span is one in let same = known.0 in let least = known.1 in
    elim (less-from pair entries reaches) [
      | inl l ↦ less-to pair (bound_of lanes.low lanes.high lanes.top) (inl (omega arith))
      | inr l ↦ less-to pair (bound_of lanes.low lanes.high lanes.top) (inr (omega (arith, l.0), omega (arith, l.1)))
    ]
entries_reach lanes at pair entries false span is one count value reaches =
    let known = bound_open lanes at span is one in let same = known.0 in let least = known.1 in
    elim (at_most-from pair entries reaches) [
      | inl l ↦ at_most-to pair (bound_of lanes.low lanes.high lanes.top) (inl (omega arith))
      | inr l ↦ at_most-to pair (bound_of lanes.low lanes.high lanes.top) (inr (omega (arith, l.0), omega (arith, l.1)))
    ]

-- fewer units times less are not more
not_fewer : (units f a b : ℕ) → f < units → units * (a + b) < f * (a - b) → ⊥
not_fewer units f a b more less =
    let low : f * (a - b) ≤ units * (a + b) = mul-le-mul (omega arith) (omega arith) in
    omega arith

-- where as many may have points, and the entries' product is short, it does not
pub short_reach : (lanes : Lanes) (at : Fitting) (goal : Goal) (beyond : Bool) → IsSpan lanes → IsFitting lanes at → 1 ≤ at.level → IsGoal goal → positives lanes.high ≡ goal.pair.count
    → IsShort at.level at.spare (product (entries_at at.level lanes.low lanes.high)) goal → is_reached goal.pair beyond (bound_of lanes.low lanes.high lanes.top) ≡ false
short_reach lanes at goal beyond span is one is_goal same short =
    let count = (bound_open lanes at span is one).0 in
    missed goal.pair (bound_of lanes.low lanes.high lanes.top) beyond (inr (omega arith, smaller short.2))
  where
    smaller : IsAbove goal (product (entries_at at.level lanes.low lanes.high)) short.1 → (bound_of lanes.low lanes.high lanes.top).product < goal.pair.product
    smaller (inr more) = absurd (not_fewer short.1 goal.units (2 * at.level) at.spare more short.3)
    smaller (inl above) =
        let lows = lanes.low in
        let highs = lanes.high in
        let count = (bound_open lanes at span is one).0 in
        let is_bound = bound_of-is lows highs lanes.top span.in_order span.small span.within in
        let us = is_bound.reached.0 in
        let value : product us ≡ (bound_of lows highs lanes.top).product = ap (λ (pair : Pair). pair.product) is_bound.reached.2 in
        let counted : positives us ≡ (bound_of lows highs lanes.top).count = ap (λ (pair : Pair). pair.count) is_bound.reached.2 in
        let all = entries_positive at.level lows highs one span.in_order in
        let flat : entries_at_level at.level 0 lows highs ≡ entries_at at.level lows highs = filled_zero at.level lows highs in
        let positive : positives us ≡ positives (entries_at_level at.level 0 lows highs) = (let e = ap positives flat in omega arith) in
        let fits : sum us ≤ sum (entries_at_level at.level 0 lows highs) + at.spare = (let e = ap sum flat in let s = is.is_spare in let t = is_bound.reached.1.total in omega arith) in
        let near = slack_at at.level at.spare lows highs us one span.in_order is_bound.reached.1.above is_bound.reached.1.below positive fits short.0 in
        let same_product : product (entries_at_level at.level 0 lows highs) * 1 ≡ product (entries_at at.level lows highs) * 1 = ap (λ xs. product xs * 1) flat in
        let test : short.1 * (1 * (2 * at.level + at.spare)) < goal.units * (1 * (2 * at.level - at.spare)) = (let t = short.3 in omega arith) in
        let less = below_units (product us) (2 * at.level - at.spare) (2 * at.level + at.spare) (product (entries_at_level at.level 0 lows highs)) (product (entries_at at.level lows highs)) 1 1 goal.units goal.pair.product short.1 (2 ^ goal.shift)
        (pow_pos goal.shift) is_goal.within near same_product above test in
        omega arith
