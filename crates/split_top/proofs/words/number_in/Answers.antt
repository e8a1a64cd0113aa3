use Rattle.std.proofs.Common.{◌≡◌, ℕ, None, Some, sym, ap, ◌∙◌, arith, subst, List, true, true≢false, nat_eq}
use Rattle.std.specs.Prelude.{not}
use Rattle.std.specs.Cmp.Lexicographic.{pointwise}
use Rattle.std.specs.Fmt.{decimal}
use Rattle.std.specs.Result.{result_ok}
use Rattle.std.proofs.lemmas.Cmp.{nat_list_eq_equiv}
use Rattle.std.proofs.lemmas.Fmt.{parse-decimal}
use Rattle.split_top.proofs.words.number_in.Goals as goal
use Rattle.split_top.proofs.words.number_in.Goals.{then-number-least-via-then-number-least, then-number-least-via-else-number-least+then-most-number, then-number-least-via-else-number-least+else-most-number+then-ne}

pub returns-in_err-number : goal.returns-in_err-number
returns-in_err-number c = rw (c.from_residual.ensures) (λ number is.
    let high = is.1 in
    let fits = c.ranges.most.fits in
    let read = parse-decimal 64 number c.args.word.now c.parse.result (omega (arith, high, fits)) (omega (arith, high, fits)) is.2 c.parse.ensures.value.0 in
    let none : None ≡ Some number = sym c.in_err-number.was ∙ c.ok.ensures.value ∙ ap result_ok read in
    cc none)

pub returns-then-number-least : goal.returns-then-number-least
returns-then-number-least c = λ number is.
    let high = is.1 in
    let fits = c.ranges.most.fits in
    let read = parse-decimal 64 number c.args.word.now c.parse.result (omega (arith, high, fits)) (omega (arith, high, fits)) is.2 c.parse.ensures.value.0 in
    let some : Some c.in_ok-number.number ≡ Some number = sym c.in_ok-number.was ∙ c.ok.ensures.value ∙ ap result_ok read in
    let same : c.in_ok-number.number ≡ number = cc some in
    elim c.then-number-least.branch [
      | then-number-least-via-then-number-least w ↦ (let low = is.0 in let below = w.if-number-least.true in omega (arith, low, below, same))
      | then-number-least-via-else-number-least+then-most-number w ↦ (let above = w.if-most-number.true in omega (arith, high, above, same))
      | then-number-least-via-else-number-least+else-most-number+then-ne w ↦ (
          let text : w.format.result.now ≡ c.args.word.now = w.format.ensures.text ∙ ap decimal same ∙ sym is.2 in
          let alike = subst (λ (word : List ℕ). pointwise nat_eq w.format.result.now word ≡ true) text (nat_list_eq_equiv.refl w.format.result.now) in
          absurd (true≢false (w.if-ne.ensures ∙ ap not alike)))
    ]
