use Rattle.std.proofs.Common.{rules, ◌≡◌}
use Rattle.adjusted_winner.specs.Texts.{winner_text}
use Rattle.adjusted_winner.proofs.texts.write_winner.Goals as goal

pub returns-clause-text : goal.returns-clause-text
returns-clause-text c =
    let text : c.into_bytes.result.items ≡ winner_text c.args.case.now c.args.winner.now = search rules in
    (c.args.winner.now, c.requires.winner, text)
