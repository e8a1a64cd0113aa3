use Rattle.std.proofs.Common.{arith}
use Rattle.std.proofs.lemmas.Result.{err_from_is_err_and}
use Rattle.cert_reader.proofs.FormPlaces.{lines_few}
use Rattle.cert_reader.proofs.PieceSteps.{line_given, settled_end, settled_line}
use Rattle.cert_reader.proofs.text_lines.TextLines.next_line.Goals as goal

pub overflow_add-self : goal.overflow_add-self
overflow_add-self g c = let few = lines_few c.args.self.now.counts c.requires.range in let within = c.requires.open in omega arith

pub returns-in_err-self-clause-line : goal.returns-in_err-self-clause-line
returns-in_err-self-clause-line g c series =
    let p = err_from_is_err_and c.from_residual.result c.from_residual.ensures.1 in
    rw (p.1, p.2)
    (settled_end {series = series} c.args.self.now.bytes c.next_settled.new.bytes _ _ c.args.self.now.lines c.args.self.now.counts c.in_err-self.field-0.0 c.in_err-self.ensures.few c.requires.open c.in_err-self.ensures.line)

pub returns-clause-line : goal.returns-clause-line
returns-clause-line g c series =
    settled_line {series = series} c.args.self.now.bytes c.next_settled.new.bytes _ _ c.args.self.now.lines c.args.self.now.counts c.in_ok-self.field-0 c.next_settled.new.numbers c.in_ok-self.ensures.line

pub returns-clause-takes : goal.returns-clause-takes
returns-clause-takes g c =
    line_given c.args.self.now.bytes c.next_settled.new.bytes _ _ c.args.self.now.lines c.args.self.now.counts c.in_ok-self.field-0 c.next_settled.new.numbers c.in_ok-self.ensures.line
