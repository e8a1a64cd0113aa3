-- The verdict of the rules on a text of adjusted winner.
use Rattle.std.specs.Prelude.{◌≡◌, ℕ, ◌≤◌, List, length, Option, Result, Ok, Err}
use Rattle.std.specs.Io.KnownBytes.{IsAtEnd}
use Rattle.bid_rules.specs.Goods.{IsValidGoodsCase, player_count}
use Rattle.cert_reader.specs.declared.ends.TextEnd.{TextEnd}
use Rattle.cert_reader.specs.declared.limits.TheConstants.{MOST_BYTES}
use Rattle.cert_reader.specs.Forms.{Pairs}
use Rattle.cert_reader.specs.Layout.{PairView}
use Rattle.cert_reader.specs.Pairs.{IsPairText}
use Rattle.cert_reader.specs.Reading.{IsEndOf}
use Rattle.winner_definition.specs.Printed.{AreFairShares}
use Rattle.rule_verdicts.specs.declared.verdict.Verdict.{Verdict}
use Rattle.rule_verdicts.specs.declared.verdict.Verdict.TheVariants.{Yes}
use Rattle.rule_verdicts.specs.Verdicts.{IsVerdictOf}
use Rattle.winner_rules.specs.Rules.{printed_case, rules_of_winner}
use Rattle.bid_rules.specs.declared.limits.TheConstants.{PAIR}

-- the bytes are the text of a pair, and this is the verdict of its rules
abbrev pub IsPairJudged : List ℕ → Verdict → Type 0
IsPairJudged bytes verdict = (view : PairView) × IsPairText bytes view × IsVerdictOf (rules_of_winner view) verdict

-- the bytes are the text of a pair, and all its rules hold
abbrev pub IsWinnerCertificate : List ℕ → Type 0
IsWinnerCertificate bytes = IsPairJudged bytes Yes

-- the bytes print a valid case of two players, and shares that are equitable, envy-free and efficient and split at most one good
abbrev pub PrintsFair : List ℕ → Type 0
PrintsFair bytes = (view : PairView) × IsPairText bytes view × IsValidGoodsCase (printed_case view) × (player_count (printed_case view) ≡ PAIR) × AreFairShares (printed_case view) view.shares

-- the bytes taken from the source are the text of a pair, the answer is the verdict of its rules, and the source has ended; or the answer is why they are not
abbrev pub IsPairJudgement : Option (List ℕ) → List ℕ → Result Verdict TextEnd → Type 0
IsPairJudgement left taken (Ok verdict) = IsPairJudged taken verdict × (length taken ≤ MOST_BYTES) × IsAtEnd left
IsPairJudgement left taken (Err end) = IsEndOf Pairs end left taken
