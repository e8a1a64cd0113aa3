use Rattle.std.proofs.Common.{arith, map}
use Rattle.split_frac.specs.Frac.{fraction_of}
use Rattle.cert_checker.proofs.TreeParts.{head_room, no_more_lines}
use Rattle.cert_checker.proofs.goods.GoodsLines.take.Goals as goal

pub gather-requires : goal.gather-requires
gather-requires c = (omega arith, head_room c.requires.0 c.requires.1 c.requires.2 (map fraction_of c.args.numbers.now.items) c.in-Head.lines.items c.requires.3 (rw c.in-Head.is at c.requires.4))

pub unreachable-requires : goal.unreachable-requires
unreachable-requires c = no_more_lines c.requires.0 c.requires.1 c.requires.2 (map fraction_of c.args.numbers.now.items) c.in-Tree.field-0 c.requires.3 (rw c.in-Tree.is at c.requires.4)
