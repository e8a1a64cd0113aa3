use Rattle.std.proofs.Common.{arith, ◌≡◌, ℕ, ◌<◌, ◌==◌, true, length, get_or, sym}
use Rattle.std.proofs.lemmas.List.Sums.{position_or_len_is}
use Rattle.std.proofs.lemmas.Bool.Decides.{nat_tests}
use Rattle.input_commands.proofs.goods.place_of.Goals as goal

pub returns-then-other-number : goal.returns-then-other-number
returns-then-other-number c =
    let p = λ (o : ℕ). o == c.args.number in
    let l : c.loop-k.k < length c.args.numbers.now = c.loop-k-test.true in
    let here = c.if-other-number.true in
    let test : (get_or c.args.numbers.now c.loop-k.k 0 == c.args.number) ≡ true = grind (arith, nat_tests) in
    sym (position_or_len_is p c.args.numbers.now c.loop-k.k 0 (omega arith) c.loop-k.invariant (λ _. test))

pub returns : goal.returns
returns c =
    let p = λ (o : ℕ). o == c.args.number in
    let f = c.loop-k-test.false in
    sym (position_or_len_is p c.args.numbers.now (length c.args.numbers.now) 0 (omega arith) (λ k l. c.loop-k.invariant k (omega arith)) (λ l. absurd (omega arith)))
