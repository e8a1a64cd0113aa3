use Rattle.std.proofs.Common.{map}
use Rattle.split_frac.specs.Frac.{fraction_of}
use Rattle.cert_reader.proofs.FormLines.{read_said}
use Rattle.cert_reader.proofs.order.read_at.Goals as goal

pub returns : goal.returns
returns c = read_said _ c.form_at.result c.args.line.now c.read_line.result (map fraction_of c.read_line.new.numbers.items) c.form_at.ensures.form c.read_line.ensures
