use Rattle.std.proofs.Common.{arith}
use Rattle.std.proofs.lemmas.List.{length-drop, take_rest}
use Rattle.cert_reader.proofs.WholeRows.{whole_rest}
use Rattle.cert_reader.proofs.rows.push_row.Goals as goal

pub whole_row-row-requires : goal.whole_row-row-requires
whole_row-row-requires c = rw take_rest (omega arith, (omega (arith, c.requires.room, length-drop 1 c.args.numbers.now), whole_rest c.args.numbers.now c.requires.whole))
