use Rattle.std.proofs.Common.{ap}
use Rattle.std.proofs.lemmas.Result.{err_from_is_err_and}
use Rattle.std.specs.Io.KnownBytes.{Consumes}
use Rattle.winner_rules.proofs.FairTexts.{fair_of, told}
use Rattle.winner_rules.proofs.checking.check_pair_text.Goals as goal

pub returns-clause-fair : goal.returns-clause-fair
returns-clause-fair g c = λ yes.
    fair_of (λ taken. Consumes (g.S.Source.left c.args.source.now) (g.S.Source.left c.read_pair.new.source) taken) c.in_ok-text.text (g.S.Source.left c.read_pair.new.source) c.check_pair.result
    c.winner_verdict_law.ensures.fair c.check_pair.ensures c.in_ok-text.ensures.read (ap told yes)

pub returns-in_err-text-clause-judged : goal.returns-in_err-text-clause-judged
returns-in_err-text-clause-judged g c =
    let p = err_from_is_err_and c.from_residual.result c.from_residual.ensures.1 in
    rw (p.1, p.2) c.in_err-text.ensures.read
