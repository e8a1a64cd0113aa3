use Rattle.std.proofs.Common.{arith, ◌≡◌, ◌≤◌, ◌+◌, ◌-◌, ◌*◌, ◌+ℤ◌, ◌-ℤ◌, ◌*ℤ◌, ◌∙◌, List, ◌∷◌, [], ℕ, ℤ, pos, Contains, FitsSigned, length, slice_index_or, unsigned_abs, to_z, ap, sym, subst}
use Rattle.std.specs.Int.{w64}
use Rattle.std.proofs.lemmas.Int.{ints}
use Rattle.std.proofs.lemmas.List.Sorted.{length_permutation}
use Rattle.bid_rules.specs.declared.limits.TheConstants.{MOST_RIDERS}
use Rattle.bid_rules.specs.Coalitions.{riders_in}
use Rattle.bid_rules.specs.Fares.{coalition_cost}
use Rattle.bid_rules.specs.FareLimits.{most_cost, most_orders}
use Rattle.bid_rules.specs.Orders.{factorial}
use Rattle.bid_rules.specs.Sums.{total}
use Rattle.best_laws.specs.Entries.{without}
use Rattle.best_laws.specs.MarginalSums.{marginal_sum, part_by_last}
use Rattle.split_lemmas.proofs.Factorials.{factorial_more, factorial_rises}
use Rattle.set_costs.proofs.LastRiders.{all_parts, last_in, last_part, next_parts, other_in, rider_high}
use Rattle.set_costs.proofs.SetSums.{kept, most_part, next_sum, sum_of_riders}
use Rattle.set_costs.proofs.sums.sum_of_set.Goals as goal
use Rattle.set_costs.proofs.sums.sum_of_set.Goals.{After-added_last}

pub without-left-requires-clause-high : goal.without-left-requires-clause-high
without-left-requires-clause-high c =
    let case = c.args.costs.now in
    let n = length case.at.items in
    rider_high n c.args.set c.args.rider ((c.coalition_law.ensures.within n c.args.set).0 c.requires.set) (c.coalition_law.ensures.riders_count case c.requires.valid) c.requires.rider

pub without-requires-clause-rider : goal.without-requires-clause-rider
without-requires-clause-rider c =
    last_in c.args.set c.args.rider c.lowest-last.result c.without_rider_law.ensures.others c.requires.rider (c.loop-left.invariant.within c.lowest-last.result c.lowest-last.ensures.rider)

pub without-requires-clause-high : goal.without-requires-clause-high
without-requires-clause-high c =
    let case = c.args.costs.now in
    let n = length case.at.items in
    rider_high n c.args.set c.lowest-last.result ((c.coalition_law.ensures.within n c.args.set).0 c.requires.set) (c.coalition_law.ensures.riders_count case c.requires.valid)
    (last_in c.args.set c.args.rider c.lowest-last.result c.without_rider_law.ensures.others c.requires.rider (c.loop-left.invariant.within c.lowest-last.result c.lowest-last.ensures.rider))

pub without-left-requires-in-loop-left-clause-high : goal.without-left-requires-in-loop-left-clause-high
without-left-requires-in-loop-left-clause-high c =
    let case = c.args.costs.now in
    let n = length case.at.items in
    rider_high n c.args.set c.lowest-last.result ((c.coalition_law.ensures.within n c.args.set).0 c.requires.set) (c.coalition_law.ensures.riders_count case c.requires.valid)
    (last_in c.args.set c.args.rider c.lowest-last.result c.without_rider_law.ensures.others c.requires.rider (c.loop-left.invariant.within c.lowest-last.result c.lowest-last.ensures.rider))

pub bounds-sums-from : goal.bounds-sums-from
bounds-sums-from c =
    let case = c.args.costs.now in
    let set = c.args.set in
    let last = c.lowest-last.result in
    let count = c.coalition_law.ensures.count (length case.at.items) set c.requires.set in
    let most = c.coalition_law.ensures.riders_count case c.requires.valid in
    let part = last_part case c.args.rider set last c.from.result c.args.sums.now c.without_rider_law.ensures.number c.without_rider_law.ensures.others c.without_rider_law.ensures.apart
    (λ riders. c.marginal_set_law.ensures.small case c.args.rider riders c.requires.valid) c.requires.sums c.requires.below (omega (arith, count, most)) c.requires.rider
    (c.loop-left.invariant.within last c.lowest-last.ensures.rider) (c.from.ensures ∙ c.without.ensures) in
    part.0

pub overflow_add-sum : goal.overflow_add-sum
overflow_add-sum c =
    let case = c.args.costs.now in
    let set = c.args.set in
    let last = c.lowest-last.result in
    let count = c.coalition_law.ensures.count (length case.at.items) set c.requires.set in
    let most = c.coalition_law.ensures.riders_count case c.requires.valid in
    let part = last_part case c.args.rider set last c.from.result c.args.sums.now c.without_rider_law.ensures.number c.without_rider_law.ensures.others c.without_rider_law.ensures.apart
    (λ riders. c.marginal_set_law.ensures.small case c.args.rider riders c.requires.valid) c.requires.sums c.requires.below (omega (arith, count, most)) c.requires.rider
    (c.loop-left.invariant.within last c.lowest-last.ensures.rider) (c.from.ensures ∙ c.without.ensures) in
    let rest = length_permutation (riders_in set) (c.args.rider ∷ riders_in (without set c.args.rider)) (c.without_rider_law.ensures.others set c.args.rider c.requires.rider) in
    let test = c.loop-left-test.true in
    let some = c.coalition_law.ensures.some c.loop-left.left (omega (arith, test)) in
    let before = c.loop-left.invariant.count in
    (next_sum (to_z w64 c.loop-left.sum-bits) (slice_index_or c.args.sums.now c.from.result (pos 0)) c.loop-left.others (omega (arith, count, most, rest, some, before)) c.loop-left.invariant.small part.2).0

pub overflow_mul-orders : goal.overflow_mul-orders
overflow_mul-orders c =
    let case = c.args.costs.now in
    let set = c.args.set in
    let count = c.coalition_law.ensures.count (length case.at.items) set c.requires.set in
    let most = c.coalition_law.ensures.riders_count case c.requires.valid in
    let rest = length_permutation (riders_in set) (c.args.rider ∷ riders_in (without set c.args.rider)) (c.without_rider_law.ensures.others set c.args.rider c.requires.rider) in
    let test = c.loop-left-test.true in
    let some = c.coalition_law.ensures.some c.loop-left.left (omega (arith, test)) in
    let before = c.loop-left.invariant.count in
    let more : c.loop-left.orders * (c.loop-left.others + 1) ≡ factorial (c.loop-left.others + 1) =
    ap (λ n. n * (c.loop-left.others + 1)) c.loop-left.invariant.orders ∙ sym (factorial_more c.loop-left.others) in
    let small = factorial_rises (c.loop-left.others + 1) MOST_RIDERS (omega (arith, count, most, rest, some, before)) in
    let fits : c.loop-left.orders * (c.loop-left.others + 1) ≤ most_orders = omega (arith, more, small) in
    omega (arith, fits)

pub loop-left-preserved : goal.loop-left-preserved
loop-left-preserved c =
    let case = c.args.costs.now in
    let set = c.args.set in
    let last = c.lowest-last.result in
    let count = c.coalition_law.ensures.count (length case.at.items) set c.requires.set in
    let most = c.coalition_law.ensures.riders_count case c.requires.valid in
    let part = last_part case c.args.rider set last c.from.result c.args.sums.now c.without_rider_law.ensures.number c.without_rider_law.ensures.others c.without_rider_law.ensures.apart
    (λ riders. c.marginal_set_law.ensures.small case c.args.rider riders c.requires.valid) c.requires.sums c.requires.below (omega (arith, count, most)) c.requires.rider
    (c.loop-left.invariant.within last c.lowest-last.ensures.rider) (c.from.ensures ∙ c.without.ensures) in
    let rest = length_permutation (riders_in set) (c.args.rider ∷ riders_in (without set c.args.rider)) (c.without_rider_law.ensures.others set c.args.rider c.requires.rider) in
    let test = c.loop-left-test.true in
    let some = c.coalition_law.ensures.some c.loop-left.left (omega (arith, test)) in
    let before = c.loop-left.invariant.count in
    let f : ℕ → ℤ = part_by_last case c.args.rider set in
    let left = c.loop-left.left in
    let others = c.without_rider_law.ensures.others left last c.lowest-last.ensures.rider in
    let next = next_sum (to_z w64 c.loop-left.sum-bits) (slice_index_or c.args.sums.now c.from.result (pos 0)) c.loop-left.others (omega (arith, count, most, rest, some, before))
    c.loop-left.invariant.small part.2 in
    record {
      within = λ other there. c.loop-left.invariant.within other (other_in left last (without left last) other others (subst (λ s. Contains (riders_in s) other) c.without-left-in-loop-left.ensures there));
      count = (let fewer = length_permutation (riders_in left) (last ∷ riders_in (without left last)) others in
          let same = ap (λ s. length (riders_in s)) c.without-left-in-loop-left.ensures in
          omega (arith, fewer, same, before));
      orders = ap (λ n. n * (c.loop-left.others + 1)) c.loop-left.invariant.orders ∙ sym (factorial_more c.loop-left.others);
      value = next_parts f (total f (riders_in (without set c.args.rider))) (to_z w64 c.loop-left.sum-bits)
          (kept (to_z w64 c.loop-left.sum-bits +ℤ kept (slice_index_or c.args.sums.now c.from.result (pos 0)))) (slice_index_or c.args.sums.now c.from.result (pos 0)) left
          c.without-left-in-loop-left.result last others c.without-left-in-loop-left.ensures part.1 next.1 c.loop-left.invariant.value;
      small = next.2;
    }

-- all others have come last
all_others : (riders : List ℕ) (others n : ℕ) → others + length riders ≡ n → riders ≡ [] → others ≡ n
all_others riders others n count none = let empty = ap length none in omega (arith, count, empty)

pub added_last-requires-clause-few : goal.added_last-requires-clause-few
added_last-requires-clause-few c =
    let case = c.args.costs.now in
    let set = c.args.set in
    let count = c.coalition_law.ensures.count (length case.at.items) set c.requires.set in
    let most = c.coalition_law.ensures.riders_count case c.requires.valid in
    let rest = length_permutation (riders_in set) (c.args.rider ∷ riders_in (without set c.args.rider)) (c.without_rider_law.ensures.others set c.args.rider c.requires.rider) in
    let before = c.loop-left.invariant.count in
    let small = factorial_rises c.loop-left.others (MOST_RIDERS - 1) (omega (arith, count, most, rest, before)) in
    omega (arith, c.loop-left.invariant.orders, small)

-- the sum of the parts of the others and that of the rider, and how large it is
summed : (c : After-added_last) → FitsSigned w64 (to_z w64 c.loop-left.sum-bits +ℤ kept c.added_last.result)
    × (kept (to_z w64 c.loop-left.sum-bits +ℤ kept c.added_last.result) ≡ to_z w64 c.loop-left.sum-bits +ℤ c.added_last.result)
    × (unsigned_abs (kept (to_z w64 c.loop-left.sum-bits +ℤ kept c.added_last.result)) ≤ most_part * (c.loop-left.others + 1))
summed c =
    let case = c.args.costs.now in
    let set = c.args.set in
    let count = c.coalition_law.ensures.count (length case.at.items) set c.requires.set in
    let most = c.coalition_law.ensures.riders_count case c.requires.valid in
    let rest = length_permutation (riders_in set) (c.args.rider ∷ riders_in (without set c.args.rider)) (c.without_rider_law.ensures.others set c.args.rider c.requires.rider) in
    let before = c.loop-left.invariant.count in
    next_sum (to_z w64 c.loop-left.sum-bits) c.added_last.result c.loop-left.others (omega (arith, count, most, rest, before)) c.loop-left.invariant.small c.added_last.ensures.small

pub overflow_add-result : goal.overflow_add-result
overflow_add-result c = (summed c).0

pub returns-clause-value : goal.returns-clause-value
returns-clause-value c =
    let case = c.args.costs.now in
    let set = c.args.set in
    let rider = c.args.rider in
    let f : ℕ → ℤ = part_by_last case rider set in
    let end : c.loop-left.left ≡ 0 = c.loop-left-test.false in
    let none : riders_in c.loop-left.left ≡ [] = ap riders_in end ∙ c.coalition_law.ensures.all 0 in
    let all = all_others (riders_in c.loop-left.left) c.loop-left.others (length (riders_in (without set rider))) c.loop-left.invariant.count none in
    let whole : total f (riders_in (without set rider)) ≡ to_z w64 c.loop-left.sum-bits +ℤ pos 0 = c.loop-left.invariant.value ∙ ap (λ xs. to_z w64 c.loop-left.sum-bits +ℤ total f xs) none in
    let own = c.added_last.ensures.value ∙ ap (λ n. (pos (coalition_cost case (riders_in set)) -ℤ pos (coalition_cost case (riders_in (without set rider)))) *ℤ pos n) (c.loop-left.invariant.orders ∙ ap factorial all) in
    (summed c).1 ∙ all_parts case rider set (to_z w64 c.loop-left.sum-bits) c.added_last.result (c.without_rider_law.ensures.others set rider c.requires.rider)
    (plain (to_z w64 c.loop-left.sum-bits) (total f (riders_in (without set rider))) whole) own
    ∙ sym (c.marginal_set_law.ensures.recurrence case rider set c.requires.rider)
  where
    plain : (s t : ℤ) → t ≡ s +ℤ pos 0 → s ≡ t
    plain s t e = omega (arith, ints, e)

pub returns-clause-small : goal.returns-clause-small
returns-clause-small c =
    let case = c.args.costs.now in
    let riders = riders_in c.args.set in
    let count = c.coalition_law.ensures.count (length case.at.items) c.args.set c.requires.set in
    let most = c.coalition_law.ensures.riders_count case c.requires.valid in
    subst (λ z. unsigned_abs z ≤ most_cost * factorial (length riders)) (sym (returns-clause-value c))
    (sum_of_riders (marginal_sum case c.args.rider riders) (length riders) (c.marginal_set_law.ensures.small case c.args.rider riders c.requires.valid c.requires.rider) (omega (arith, count, most)))
