use Rattle.std.proofs.Common.{arith}
use Rattle.cert_reader.proofs.HeldFronts.{front_of_reader}
use Rattle.cert_reader.proofs.stream.Bytes.keep_front.Goals as goal

pub returns-clause-kept : goal.returns-clause-kept
returns-clause-kept c =
    let order = c.self.invariant.0 in
    let counted = c.self.invariant.2 in
    front_of_reader c.args.self.now c.self.inside.piece c.self.inside.from c.self.inside.to c.self.inside.total c.front_len-count.result c.self.inside.line.items c.add_part.new.line.items c.add_part.result c.self.view_is (omega arith) (omega arith)
    c.front_len-count.ensures c.add_part.ensures.line
