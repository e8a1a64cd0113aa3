use Rattle.std.proofs.Common.{arith, ◌≡◌, ℕ, ◌<◌, ◌==◌, true, length, get_or, sym, ap}
use Rattle.std.specs.List.{position_or_len}
use Rattle.std.proofs.lemmas.List.{get_or_past}
use Rattle.std.proofs.lemmas.List.Sums.{position_or_len_is}
use Rattle.std.proofs.lemmas.Bool.Decides.{nat_tests}
use Rattle.nash_bounds.proofs.owners.owner_of.Goals as goal

pub returns-then-other-good : goal.returns-then-other-good
returns-then-other-good c =
    let p = λ (o : ℕ). o == c.args.good in
    let l : c.loop-k.k < length c.args.order.now = c.loop-k-test.true in
    let here = c.if-other-good.true in
    let test : (get_or c.args.order.now c.loop-k.k 0 == c.args.good) ≡ true = grind (arith, nat_tests) in
    let at : position_or_len p c.args.order.now ≡ c.loop-k.k = position_or_len_is p c.args.order.now c.loop-k.k 0 (omega arith) c.loop-k.invariant (λ _. test) in
    ap (λ n. get_or c.args.list.now n 0) (sym at)

pub returns : goal.returns
returns c =
    let p = λ (o : ℕ). o == c.args.good in
    let f = c.loop-k-test.false in
    let at : position_or_len p c.args.order.now ≡ c.loop-k.k = position_or_len_is p c.args.order.now c.loop-k.k 0 c.loop-k.auto.k-end c.loop-k.invariant (λ l. absurd (omega arith)) in
    sym (get_or_past c.args.list.now (position_or_len p c.args.order.now) 0 (let e = c.requires in omega arith))
