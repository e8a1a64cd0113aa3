use Rattle.std.proofs.Common.{◌≤◌, ℕ, length, All, arith, sym, ◌∙◌, subst}
use Rattle.fare_audit.proofs.texts.members_of.Goals as goal

pub overflow_sub-from : goal.overflow_sub-from
overflow_sub-from c =
    let n = length c.args.who.now in
    let P : ℕ → Type 0 = λ rider. (1 ≤ rider) × (rider ≤ n) in
    let items = c.as_slice-rider-items.result.now in
    let all : All P items = subst (All P) (sym (c.as_slice-rider-items.ensures.value ∙ c.riders_of_set-riders.ensures)) ((c.coalition_law.ensures.within n c.args.set).0 c.requires.set) in
    let known = all c.loop-rider.rider-index 0 c.loop-rider-test.true in
    let is = c.from.ensures in
    omega (arith, known, is)

pub bounds-who-from : goal.bounds-who-from
bounds-who-from c =
    let n = length c.args.who.now in
    let P : ℕ → Type 0 = λ rider. (1 ≤ rider) × (rider ≤ n) in
    let items = c.as_slice-rider-items.result.now in
    let all : All P items = subst (All P) (sym (c.as_slice-rider-items.ensures.value ∙ c.riders_of_set-riders.ensures)) ((c.coalition_law.ensures.within n c.args.set).0 c.requires.set) in
    let known = all c.loop-rider.rider-index 0 c.loop-rider-test.true in
    let is = c.from.ensures in
    omega (arith, known, is)
