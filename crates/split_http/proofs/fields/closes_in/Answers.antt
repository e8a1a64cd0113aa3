use Rattle.std.proofs.Common.{◌≡◌, ◌+◌, ◌-◌, ◌≤◌, ◌==◌, ◌||◌, true, false, length, take, drop, length-drop, get_or, sym, ap, ◌∙◌, arith}
use Rattle.std.proofs.lemmas.Bool.Decides.{nat_tests}
use Rattle.std.specs.List.{slice_range}
use Rattle.std.proofs.lemmas.List.{take_all}
use Rattle.split_http.specs.Fields.{is_close, lists_close}
use Rattle.split_http.proofs.OptionLemmas.{options_at, last_option, uncut_more}
use Rattle.split_http.proofs.fields.closes_in.Goals.{then-value-at-eq44+else-option_closes, else-value-at-eq44}
use Rattle.split_http.proofs.fields.closes_in.Goals as goal

pub returns-then-option_closes : goal.returns-then-option_closes
returns-then-option_closes c =
    let i = c.loop-at.invariant in
    let here = options_at c.args.value.now c.loop-at.start c.loop-at.at i.within (omega (arith, c.loop-at-test.true)) i.uncut (omega (arith, c.if-value-at-eq44.true)) in
    let closes : is_close (slice_range c.args.value.now c.loop-at.start c.loop-at.at) ≡ true = sym c.option_closes.ensures ∙ c.if-option_closes.true in
    sym (sym i.so_far ∙ here ∙ ap (λ v. v || lists_close (drop (c.loop-at.at + 1) c.args.value.now)) closes)

pub loop-at-preserved : goal.loop-at-preserved
loop-at-preserved c =
    let i = c.loop-at.invariant in
    elim c.if-value-at-eq44.branch [
      | then-value-at-eq44+else-option_closes w ↦
          let here = options_at c.args.value.now c.loop-at.start c.loop-at.at i.within (omega (arith, c.loop-at-test.true)) i.uncut (omega (arith, w.if-value-at-eq44.true)) in
          let not : is_close (slice_range c.args.value.now c.loop-at.start c.loop-at.at) ≡ false = sym w.option_closes.ensures ∙ w.if-option_closes.false in
          let rest = sym (sym i.so_far ∙ here ∙ ap (λ v. v || lists_close (drop (c.loop-at.at + 1) c.args.value.now)) not) in
          rw w.start-is (record { within = omega arith; uncut = λ k low high. absurd (omega arith); so_far = rest })
      | else-value-at-eq44 w ↦
          let other : (get_or c.args.value.now c.loop-at.at 0 == 44) ≡ false = grind (arith, nat_tests, w.if-value-at-eq44.false) in
          rw w.start-is (record { within = omega (arith, i.within); uncut = uncut_more c.args.value.now c.loop-at.start c.loop-at.at i.uncut other; so_far = i.so_far })
    ]

pub returns : goal.returns
returns c =
    let i = c.loop-at.invariant in
    let end : c.loop-at.at ≡ length c.args.value.now = omega (arith, c.loop-at-test.false, c.loop-at.auto.at-end) in
    let low : c.loop-at.start ≤ length c.args.value.now = omega (arith, i.within, end) in
    let last = last_option c.args.value.now c.loop-at.start low (λ k l h. i.uncut k l (omega (arith, end, h))) in
    let all : take (length c.args.value.now - c.loop-at.start) (drop c.loop-at.start c.args.value.now) ≡ drop c.loop-at.start c.args.value.now =
    take_all _ _ (omega (arith, length-drop c.loop-at.start c.args.value.now)) in
    c.option_closes-2.ensures ∙ ap is_close all ∙ sym last ∙ i.so_far
