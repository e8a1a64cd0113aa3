use Rattle.estate_texts.proofs.GivenLines.{no_given}
use Rattle.std.proofs.Common.{drop}
use Rattle.estate_texts.proofs.given.next_given.Goals as goal

pub returns-in-None-clause-given : goal.returns-in-None-clause-given
returns-in-None-clause-given c given rest begins =
    no_given c.args.players (drop c.args.at c.args.text.now) c.exactly.result c.exactly-2.result c.exactly.ensures c.exactly-2.ensures c.in_default.ensures.row c.in-None.ensures.row given rest begins
