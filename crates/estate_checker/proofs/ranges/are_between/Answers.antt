use Rattle.std.proofs.Common.{ℤ, pos, ◌≤ℤ◌, List, All, get_or, take, arith, refl, sym, subst}
use Rattle.std.proofs.lemmas.Int.{ints}
use Rattle.std.proofs.lemmas.List.{take_all, take_more}
use Rattle.std.proofs.lemmas.List.Elements.{All-push}
use Rattle.estate_checker.proofs.ranges.are_between.Goals as goal

pub loop-k-preserved : goal.loop-k-preserved
loop-k-preserved c =
    let xs : List ℤ = c.args.numbers.now in
    let x : ℤ = get_or xs c.loop-k.k (pos 0) in
    let from = c.from.ensures in
    let to = c.from-else-number-from.ensures in
    let above = c.if-number-from.false in
    let below = c.if-number-from-2.false in
    let low : pos c.args.least ≤ℤ x = omega (arith, ints, from, above) in
    let high : x ≤ℤ pos c.args.most = omega (arith, ints, to, below) in
    subst (λ (zs : List ℤ). All (λ z. (pos c.args.least ≤ℤ z) × (z ≤ℤ pos c.args.most)) zs) (sym (take_more xs c.loop-k.k (pos 0) c.loop-k-test.true))
    (All-push (λ z. (pos c.args.least ≤ℤ z) × (z ≤ℤ pos c.args.most)) (take c.loop-k.k xs) x c.loop-k.invariant (low, high))

pub returns : goal.returns
returns c = (
  λ yes. subst (λ (zs : List ℤ). All (λ z. (pos c.args.least ≤ℤ z) × (z ≤ℤ pos c.args.most)) zs) (take_all c.loop-k.k c.args.numbers.now c.loop-k-test.false) c.loop-k.invariant,
  λ all. refl,
)
