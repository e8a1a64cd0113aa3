use Rattle.std.proofs.Common.{◌∙◌, ap, arith, ◌+◌, ◌++◌, [], ◌∷◌, drop}
use Rattle.std.proofs.lemmas.List.{length_push}
use Rattle.estate_texts.specs.Given.{line_of_given}
use Rattle.estate_texts.proofs.GivenLines.{given_more}
use Rattle.estate_texts.proofs.given.skip_given.Goals as goal

pub loop-taken-preserved : goal.loop-taken-preserved
loop-taken-preserved c =
    let h = c.loop-taken.invariant.given in
    let next = c.in-Some.ensures.next in
    record {
      within = next.1;
      given = (
        h.0 ++ line_of_given c.in-Some.taken.given ∷ [],
        length_push h.0 (line_of_given c.in-Some.taken.given) ∙ ap (λ k. k + 1) h.1,
        given_more c.args.players (drop c.args.at c.args.text.now) (drop c.loop-taken.next c.args.text.now) (drop c.in-Some.taken.next c.args.text.now) h.0 (line_of_given c.in-Some.taken.given) h.2 c.in-Some.ensures.given,
      );
      few = (let low = next.0 in omega (arith, c.loop-taken.invariant.few));
    }
