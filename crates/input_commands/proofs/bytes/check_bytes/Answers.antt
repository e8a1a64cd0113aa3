use Rattle.std.proofs.Common.{ℕ, List, subst}
use Rattle.command_results.specs.Endings.{verdict_ending}
use Rattle.input_commands.specs.declared.command.InputCommand.TheVariants.{Check}
use Rattle.input_commands.specs.Ends.{CallsFor, EndsOnBytes}
use Rattle.input_commands.proofs.OnBytes.{calls_for, check_ends}
use Rattle.input_commands.proofs.bytes.check_bytes.Goals as goal

pub returns-clause-calls : goal.returns-clause-calls
returns-clause-calls c =
    subst (λ (bytes : List ℕ). CallsFor Check bytes (verdict_ending c.judge_certificate.result)) c.new-source.ensures
    (calls_for Check (λ none. none) c.new-source.result c.judge_certificate.new.input (verdict_ending c.judge_certificate.result) c.judge_certificate.ensures.ending)

pub returns-clause-ends : goal.returns-clause-ends
returns-clause-ends c =
    subst (λ (bytes : List ℕ). EndsOnBytes Check bytes (verdict_ending c.judge_certificate.result)) c.new-source.ensures
    (check_ends c.new-source.result (verdict_ending c.judge_certificate.result)
    (calls_for Check (λ none. none) c.new-source.result c.judge_certificate.new.input (verdict_ending c.judge_certificate.result) c.judge_certificate.ensures.ending))
