use Rattle.std.proofs.Common.{◌≡◌, arith, ap, length, refl, sym}
use Rattle.winner_rules.specs.Rules.{printed_case, rules_of_winner, winner_rule}
use Rattle.split_lemmas.proofs.AskedInOrder.{none_broken, one_broken}
use Rattle.rule_verdicts.specs.declared.verdict.Verdict.{Verdict}
use Rattle.rule_verdicts.specs.declared.verdict.Verdict.TheVariants.{Yes, No}
use Rattle.rule_verdicts.specs.Verdicts.{IsVerdictOf}
use Rattle.cert_reader.specs.Layout.{PairView}
use Rattle.winner_rules.proofs.PrintedNumbers.{players_two}
use Rattle.winner_rules.proofs.laws.winner_certificate_law.Goals as goal

-- a text has one verdict
once : (view : PairView) (a b : Verdict) → IsVerdictOf (rules_of_winner view) a → IsVerdictOf (rules_of_winner view) b → a ≡ b
once view Yes Yes h k = refl
once view Yes (No m) h k = absurd (none_broken (winner_rule view) (length (rules_of_winner view)) m h k)
once view (No n) Yes h k = absurd (none_broken (winner_rule view) (length (rules_of_winner view)) n k h)
once view (No n) (No m) h k = ap No (one_broken (winner_rule view) (length (rules_of_winner view)) n m h k)

pub returns-clause-fair : goal.returns-clause-fair
returns-clause-fair c = λ view kept.
    let case = kept 1 (omega arith) (omega arith) in
    let proper = kept 2 (omega arith) (omega arith) in
    let total = kept 3 (omega arith) (omega arith) in
    let weights = kept 4 (omega arith) (omega arith) in
    c.printed_law.ensures.fair (printed_case view) view.shares view.total weights.first weights.second case.valid (players_two view case) proper total weights.support

pub returns-clause-one : goal.returns-clause-one
returns-clause-one c view verdict other h k = sym (once view verdict other h k)
