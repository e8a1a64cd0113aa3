use Rattle.std.proofs.Common.{◌≡◌, ◌∙◌, ap, length, subst, sym, ◌≤◌, ◌++◌}
use Rattle.std.proofs.lemmas.List.{append_cancel_left, length-map}
use Rattle.split_frac.specs.Texts.{numbers_text}
use Rattle.cert_reader.specs.Text.{wholes}
use Rattle.cert_reader.specs.Words.{word_text}
use Rattle.estate_texts.proofs.PlainLines.{written}
use Rattle.estate_texts.proofs.line.read_row.Goals as goal

pub returns-then-not-push_between : goal.returns-then-not-push_between
returns-then-not-push_between c numbers can text =
    let word = c.as_bytes.ensures.value ∙ c.as_str.ensures in
    let long : length (wholes numbers) ≡ length numbers = length-map numbers _ in
    let behind = c.in-Some.ensures ∙ ap (λ w. w ++ c.in-Some.rest.now) word in
    c.if-not-push_between.ensures (wholes numbers) (subst (λ k. c.args.form.least ≤ k) (sym long) can.enough) (subst (λ k. k ≤ c.args.form.most) (sym long) can.few)
    (written numbers can.small) (append_cancel_left (word_text c.args.form.word) c.in-Some.rest.now (numbers_text (wholes numbers)) (sym behind ∙ text))
