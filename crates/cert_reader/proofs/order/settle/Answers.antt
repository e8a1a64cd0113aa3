use Rattle.std.proofs.Common.{arith, ◌<◌, sym, subst}
use Rattle.cert_reader.specs.Order.{IsLineOf, choice_count}
use Rattle.cert_reader.proofs.Choices.{IsChoice, choice_valid, choice_whole}
use Rattle.cert_reader.proofs.TreePlaces.{agree_line}
use Rattle.cert_reader.proofs.order.settle.Goals as goal

pub read_at-requires-clause-counts : goal.read_at-requires-clause-counts
read_at-requires-clause-counts c =
    let low : c.loop-choice.choice < choice_count c.args.index c.args.known = (let count = c.choices-choice-end.ensures.value in let test = c.loop-choice-test.true in let end = c.loop-choice.auto.choice-end in omega arith) in
    (subst (IsChoice c.args.index c.args.known) (sym c.chosen-counts.ensures) (choice_valid c.args.index c.args.known c.loop-choice.choice c.requires.known c.requires.index low)).are

pub read_at-requires-clause-index : goal.read_at-requires-clause-index
read_at-requires-clause-index c =
    let low : c.loop-choice.choice < choice_count c.args.index c.args.known = (let count = c.choices-choice-end.ensures.value in let test = c.loop-choice-test.true in let end = c.loop-choice.auto.choice-end in omega arith) in
    (subst (IsChoice c.args.index c.args.known) (sym c.chosen-counts.ensures) (choice_valid c.args.index c.args.known c.loop-choice.choice c.requires.known c.requires.index low)).within

pub read_at-requires-clause-line : goal.read_at-requires-clause-line
read_at-requires-clause-line c =
    let low : c.loop-choice.choice < choice_count c.args.index c.args.known = (let count = c.choices-choice-end.ensures.value in let test = c.loop-choice-test.true in let end = c.loop-choice.auto.choice-end in omega arith) in
    agree_line c.args.index c.args.known _
    (subst (IsChoice c.args.index c.args.known) (sym c.chosen-counts.ensures) (choice_valid c.args.index c.args.known c.loop-choice.choice c.requires.known c.requires.index low)).agree c.requires.line

pub returns : goal.returns
returns c counts said are agree is =
    let tried = choice_whole c.args.index c.args.known counts are agree in
    let low = tried.low in
    let count = c.choices-choice-end.ensures.value in
    let test = c.loop-choice-test.false in
    let end = c.loop-choice.auto.choice-end in
    c.loop-choice.invariant tried.choice said (omega arith) (subst (λ form. IsLineOf form said c.args.line.now) (sym tried.same) is)

pub returns-then-read_at : goal.returns-then-read_at
returns-then-read_at c =
    let low : c.loop-choice.choice < choice_count c.args.index c.args.known = (let count = c.choices-choice-end.ensures.value in let test = c.loop-choice-test.true in let end = c.loop-choice.auto.choice-end in omega arith) in
    let valid = subst (IsChoice c.args.index c.args.known) (sym c.chosen-counts.ensures) (choice_valid c.args.index c.args.known c.loop-choice.choice c.requires.known c.requires.index low) in
    (valid.are, valid.agree, valid.within, c.if-read_at.ensures)
