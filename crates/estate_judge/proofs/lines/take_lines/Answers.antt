use Rattle.std.proofs.Common.{◌∙◌, ◌+◌, ◌++◌, [], ◌∷◌, ap, arith, drop, length, length-append}
use Rattle.std.proofs.lemmas.List.{length_push}
use Rattle.estate_texts.specs.Given.{line_of_given}
use Rattle.estate_judge.specs.Nodes.{TakesPrices, TakesWeights}
use Rattle.estate_judge.proofs.LineSteps.{all_later, no_next, takes_more}
use Rattle.estate_judge.proofs.lines.take_lines.Goals as goal

pub returns-in_default-clause-lines : goal.returns-in_default-clause-lines
returns-in_default-clause-lines c lines can text few =
    let h = c.loop-line.invariant.lines in
    let low = c.loop-line-test.true in
    let on = c.given_law.ensures.front c.args.players (drop c.args.from c.args.given.now) (drop c.loop-line.next c.args.given.now) h.0 lines h.2 can text in
    let long = ap length on.1 ∙ length-append h.0 on.0 in
    no_next c.args.players (drop c.loop-line.next c.args.given.now) on.0 on.2 (omega (arith, long, h.1)) (all_later c.args.players h.0 on.0 lines on.1 can) c.in_default.ensures.given

pub loop-line-preserved : goal.loop-line-preserved
loop-line-preserved c =
    let h = c.loop-line.invariant.lines in
    record {
      within = c.in-Some.ensures.next.1;
      lines = (
        h.0 ++ line_of_given c.in-Some.taken.given ∷ [],
        length_push h.0 (line_of_given c.in-Some.taken.given) ∙ ap (λ k. k + 1) h.1,
        c.given_law.ensures.more c.args.players (drop c.args.from c.args.given.now) (drop c.loop-line.next c.args.given.now) (drop c.in-Some.taken.next c.args.given.now) h.0 (line_of_given c.in-Some.taken.given) h.2
            c.in-Some.ensures.given,
        takes_more TakesWeights h.0 (line_of_given c.in-Some.taken.given) _ _ _ h.3 c.weights_after-weights.ensures,
        takes_more TakesPrices h.0 (line_of_given c.in-Some.taken.given) _ _ _ h.4 c.prices_after-prices.ensures,
      );
    }
