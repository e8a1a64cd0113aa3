use Rattle.estate_texts.proofs.EstateLines.{numbers_plain}
use Rattle.estate_texts.proofs.LineCuts.{is_line, no_line, same_line}
use Rattle.estate_texts.specs.Lines.{numbers_content}
use Rattle.estate_texts.proofs.line.next_row.Goals as goal

pub returns-then-len-rest-clause-row : goal.returns-then-len-rest-clause-row
returns-then-len-rest-clause-row c numbers rest begins =
    no_line c.args.text.now c.args.at c.front_len-len.result (numbers_content c.args.form.word numbers) rest c.front_len-len.ensures c.if-len-rest.true begins.text

pub returns-in-Some-clause-row : goal.returns-in-Some-clause-row
returns-in-Some-clause-row c = record {
  can = c.in-Some.ensures.0;
  text = is_line c.args.text.now c.args.at c.front_len-len.result (numbers_content c.args.form.word c.in-Some.row.items) c.front_len-len.ensures c.if-len-rest.false c.in-Some.ensures.1;
}

pub returns-in-None-clause-row : goal.returns-in-None-clause-row
returns-in-None-clause-row c numbers rest begins =
    c.in-None.ensures numbers begins.can
    (same_line c.args.text.now c.args.at c.front_len-len.result (numbers_content c.args.form.word numbers) rest c.front_len-len.ensures c.if-len-rest.false
    (numbers_plain (record { plain = c.numbers_law.ensures.plain; once = c.numbers_law.ensures.once }) c.args.form.word numbers begins.can.small) begins.text)
