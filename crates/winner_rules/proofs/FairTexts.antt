-- A yes on a text that was read shows that it prints a fair division.
use Rattle.std.proofs.Common.{◌≡◌, ℕ, List, Option, Result, Ok, Err, subst}
use Rattle.cert_reader.specs.declared.ends.TextEnd.{TextEnd}
use Rattle.cert_reader.specs.declared.pair.PairText.{PairText}
use Rattle.cert_reader.specs.Pairs.{IsReadPair, pair_view}
use Rattle.rule_verdicts.specs.declared.verdict.Verdict.{Verdict}
use Rattle.rule_verdicts.specs.declared.verdict.Verdict.TheVariants.{Yes}
use Rattle.rule_verdicts.specs.Verdicts.{IsVerdictOf}
use Rattle.winner_rules.specs.Judged.{IsWinnerCertificate, PrintsFair}
use Rattle.winner_rules.specs.Rules.{rules_of_winner}

-- the verdict of an answer
abbrev pub told : Result Verdict TextEnd → Verdict
told (Ok verdict) = verdict
told (Err end) = Yes

pub fair_of : (Took : List ℕ → Type 0) (text : PairText) (left : Option (List ℕ)) (verdict : Verdict) → ((bytes : List ℕ) → IsWinnerCertificate bytes → PrintsFair bytes)
    → IsVerdictOf (rules_of_winner (pair_view text)) verdict → (taken : List ℕ) × Took taken × IsReadPair left taken (Ok text) → verdict ≡ Yes → (taken : List ℕ) × Took taken × PrintsFair taken
fair_of Took text left verdict law is (taken, took, read) same =
    (taken, took, law taken (pair_view text, read.0, subst (λ (v : Verdict). IsVerdictOf (rules_of_winner (pair_view text)) v) same is))
