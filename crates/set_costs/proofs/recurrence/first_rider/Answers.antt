use Rattle.std.proofs.Common.{arith, ◌≡◌, ◌≤◌, ◌∙◌, ap, sym, subst, length, get_or, Contains, ℕ}
use Rattle.std.specs.List.Sorted.{IsStrictlyIncreasing}
use Rattle.std.proofs.lemmas.List.Elements.{Contains-get_or}
use Rattle.bid_rules.specs.Coalitions.{riders_in}
use Rattle.best_laws.specs.Entries.{cost_by}
use Rattle.set_costs.proofs.FirstRiders.{IsFirstOf, found_next, found_none, found_still, first_is_lowest}
use Rattle.set_costs.proofs.recurrence.first_rider.Goals as goal
use Rattle.set_costs.proofs.recurrence.first_rider.Goals.{then-cost-least, else-cost-least}

pub loop-place-init : goal.loop-place-init
loop-place-init c =
    let whole = c.deref-rider-items.ensures.0 ∙ c.riders_of_set-riders.ensures in
    let same = c.deref.ensures.0 ∙ sym c.deref-rider-items.ensures.0 in
    let some = c.coalition_law.ensures.some c.args.set c.requires.some in
    let costs : ℕ → ℕ = cost_by c.args.case.now c.args.from c.args.set in
    found_none costs c.deref-rider-items.result.now c.cost_by-least.result (omega (arith, some, ap length whole))
    (c.cost_by-least.ensures.value ∙ ap (λ xs. costs (get_or xs 0 0)) same)

pub cost_by-cost-requires-clause-rider : goal.cost_by-cost-requires-clause-rider
cost_by-cost-requires-clause-rider c =
    let items = c.deref-rider-items.result.now in
    subst (λ xs. Contains xs (get_or items c.loop-place.place 0)) (c.deref-rider-items.ensures.0 ∙ c.riders_of_set-riders.ensures) (Contains-get_or items c.loop-place.place 0 c.loop-place-test.true)

pub loop-place-preserved : goal.loop-place-preserved
loop-place-preserved c =
    let costs : ℕ → ℕ = cost_by c.args.case.now c.args.from c.args.set in
    let items = c.deref-rider-items.result.now in
    elim c.if-cost-least.branch [
      | then-cost-least w ↦ found_next costs items c.loop-place.place c.loop-place.first c.loop-place.least c.cost_by-cost.result c.if-cost-least.first c.if-cost-least.least
          c.loop-place-test.true c.cost_by-cost.ensures.value w.if-cost-least.true w.first-is w.least-is c.loop-place.invariant
      | else-cost-least w ↦ found_still costs items c.loop-place.place c.loop-place.first c.loop-place.least c.cost_by-cost.result c.if-cost-least.first c.if-cost-least.least
          c.cost_by-cost.ensures.value (λ l. let high = w.if-cost-least.false in omega (arith, l, high)) w.first-is w.least-is c.loop-place.invariant
    ]

pub bounds-deref-first : goal.bounds-deref-first
bounds-deref-first c =
    let within = c.loop-place.invariant.within in
    let same = c.deref-2.ensures.0 ∙ sym c.deref-rider-items.ensures.0 in
    omega (arith, within, ap length same)

pub returns-clause-rider : goal.returns-clause-rider
returns-clause-rider c =
    let within = c.loop-place.invariant.within in
    let same = c.deref-2.ensures.0 ∙ sym c.deref-rider-items.ensures.0 in
    let xs = c.deref-2.result.now in
    subst (λ ys. Contains ys (get_or xs c.loop-place.first 0)) (c.deref-2.ensures.0 ∙ c.riders_of_set-riders.ensures) (Contains-get_or xs c.loop-place.first 0 (omega (arith, within, ap length same)))

pub returns-clause-cheapest : goal.returns-clause-cheapest
returns-clause-cheapest c =
    let costs : ℕ → ℕ = cost_by c.args.case.now c.args.from c.args.set in
    let xs = c.deref-rider-items.result.now in
    let whole : xs ≡ riders_in c.args.set = c.deref-rider-items.ensures.0 ∙ c.riders_of_set-riders.ensures in
    let ended : c.loop-place.place ≡ length xs = (let high = c.loop-place-test.false in let low = c.loop-place.auto.place-end in omega (arith, high, low)) in
    let first : IsFirstOf costs xs (length xs) c.loop-place.first = subst (λ k. IsFirstOf costs xs k c.loop-place.first) ended c.loop-place.invariant.first in
    let rising : IsStrictlyIncreasing xs = subst IsStrictlyIncreasing (sym whole) (c.coalition_law.ensures.rising c.args.set) in
    let is : get_or xs c.loop-place.first 0 ≡ get_or c.deref-2.result.now c.loop-place.first 0 = ap (λ ys. get_or ys c.loop-place.first 0) (c.deref-rider-items.ensures.0 ∙ sym c.deref-2.ensures.0) in
    c.route_set_law.ensures.first c.args.case.now c.args.from c.args.set (get_or c.deref-2.result.now c.loop-place.first 0) (returns-clause-rider c)
    (λ other there. subst (λ r. costs r ≤ costs other) is (first_is_lowest costs xs c.loop-place.first rising c.loop-place.invariant.within first other (subst (λ ys. Contains ys other) (sym whole) there)).0)

pub returns-clause-lowest : goal.returns-clause-lowest
returns-clause-lowest c =
    let costs : ℕ → ℕ = cost_by c.args.case.now c.args.from c.args.set in
    let xs = c.deref-rider-items.result.now in
    let whole : xs ≡ riders_in c.args.set = c.deref-rider-items.ensures.0 ∙ c.riders_of_set-riders.ensures in
    let ended : c.loop-place.place ≡ length xs = (let high = c.loop-place-test.false in let low = c.loop-place.auto.place-end in omega (arith, high, low)) in
    let first : IsFirstOf costs xs (length xs) c.loop-place.first = subst (λ k. IsFirstOf costs xs k c.loop-place.first) ended c.loop-place.invariant.first in
    let rising : IsStrictlyIncreasing xs = subst IsStrictlyIncreasing (sym whole) (c.coalition_law.ensures.rising c.args.set) in
    let is : get_or xs c.loop-place.first 0 ≡ get_or c.deref-2.result.now c.loop-place.first 0 = ap (λ ys. get_or ys c.loop-place.first 0) (c.deref-rider-items.ensures.0 ∙ sym c.deref-2.ensures.0) in
    λ other there. subst (λ r. costs other ≡ costs r → r ≤ other) is (first_is_lowest costs xs c.loop-place.first rising c.loop-place.invariant.within first other (subst (λ ys. Contains ys other) (sym whole) there)).1
