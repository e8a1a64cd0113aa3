use Rattle.fare_audit.proofs.Kept.{part_made}
use Rattle.fare_audit.proofs.parts.part_of.Goals as goal

pub overflow_mul-result : goal.overflow_mul-result
overflow_mul-result c = (part_made c.args.fare.now.num c.from.result c.args.fare.now.den c.args.denominator c.from.ensures c.args.fare.now.positive c.requires.fare.whole c.requires.some c.requires.few c.requires.fare.size).0

pub returns-clause-value : goal.returns-clause-value
returns-clause-value c = (c.args.fare.now.positive, (part_made c.args.fare.now.num c.from.result c.args.fare.now.den c.args.denominator c.from.ensures c.args.fare.now.positive c.requires.fare.whole c.requires.some c.requires.few c.requires.fare.size).1)

pub returns-clause-small : goal.returns-clause-small
returns-clause-small c = (part_made c.args.fare.now.num c.from.result c.args.fare.now.den c.args.denominator c.from.ensures c.args.fare.now.positive c.requires.fare.whole c.requires.some c.requires.few c.requires.fare.size).2
