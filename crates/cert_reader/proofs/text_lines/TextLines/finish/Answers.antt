use Rattle.std.proofs.Common.{arith}
use Rattle.cert_reader.proofs.FormPlaces.{lines_few}
use Rattle.cert_reader.proofs.PieceSteps.{refused_behind_all}
use Rattle.cert_reader.proofs.text_lines.TextLines.finish.Goals as goal

pub overflow_add-self : goal.overflow_add-self
overflow_add-self g c = let few = lines_few c.args.self.now.counts c.requires.range in let all = c.requires.all in omega arith

pub returns-in-Some-clause-finish : goal.returns-in-Some-clause-finish
returns-in-Some-clause-finish g c series =
    let next = rw c.in-Some.is at c.in_ok-next_byte.ensures in
    refused_behind_all {series = series} c.args.self.now.bytes c.next_byte.new.self c.refuse.new.bytes _ _ _ c.args.self.now.lines c.args.self.now.counts c.in-Some.field-0 c.refuse.result
    c.refuse.ensures.few c.requires.all next.byte c.refuse.ensures.end
