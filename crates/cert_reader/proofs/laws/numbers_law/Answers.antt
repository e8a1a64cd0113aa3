use Rattle.cert_reader.proofs.FormLines.{content_plain}
use Rattle.cert_reader.proofs.Numbers.{numbers_apart}
use Rattle.cert_reader.proofs.laws.numbers_law.Goals as goal

pub returns-clause-plain : goal.returns-clause-plain
returns-clause-plain c word whole numbers each = record { none = (content_plain word whole numbers each).none }

pub returns-clause-once : goal.returns-clause-once
returns-clause-once c whole numbers others each more same = numbers_apart whole whole numbers others each more same
