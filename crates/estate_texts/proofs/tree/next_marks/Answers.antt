use Rattle.estate_texts.proofs.EstateLines.{tree_plain}
use Rattle.estate_texts.proofs.LineCuts.{is_line, no_line, same_line}
use Rattle.estate_texts.specs.Lines.{marks_content}
use Rattle.estate_texts.proofs.tree.next_marks.Goals as goal

pub returns-then-len-rest-clause-marks : goal.returns-then-len-rest-clause-marks
returns-then-len-rest-clause-marks c marks rest begins =
    no_line c.args.text.now c.args.at c.front_len-len.result (marks_content marks) rest c.front_len-len.ensures c.if-len-rest.true begins.text

pub returns-in-Some-clause-marks : goal.returns-in-Some-clause-marks
returns-in-Some-clause-marks c = record {
  some = c.in-Some.ensures.0;
  each = c.in-Some.ensures.1;
  text = is_line c.args.text.now c.args.at c.front_len-len.result (marks_content c.in-Some.marks.now) c.front_len-len.ensures c.if-len-rest.false c.in-Some.ensures.2;
}

pub returns-in-None-clause-marks : goal.returns-in-None-clause-marks
returns-in-None-clause-marks c marks rest begins =
    c.in-None.ensures marks begins.some begins.each
    (same_line c.args.text.now c.args.at c.front_len-len.result (marks_content marks) rest c.front_len-len.ensures c.if-len-rest.false (tree_plain c.args.players marks begins.each) begins.text)
