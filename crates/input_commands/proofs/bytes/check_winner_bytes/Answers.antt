use Rattle.std.proofs.Common.{ℕ, List, subst}
use Rattle.command_results.specs.Endings.{verdict_ending}
use Rattle.input_commands.specs.declared.command.InputCommand.TheVariants.{CheckWinner}
use Rattle.input_commands.specs.Ends.{CallsFor, EndsOnBytes}
use Rattle.input_commands.proofs.OnBytes.{calls_for, check_winner_ends}
use Rattle.input_commands.proofs.bytes.check_winner_bytes.Goals as goal

pub returns-clause-calls : goal.returns-clause-calls
returns-clause-calls c =
    subst (λ (bytes : List ℕ). CallsFor CheckWinner bytes (verdict_ending c.judge_pair.result)) c.new-source.ensures
    (calls_for CheckWinner (λ none. none) c.new-source.result c.judge_pair.new.input (verdict_ending c.judge_pair.result) c.judge_pair.ensures.ending)

pub returns-clause-ends : goal.returns-clause-ends
returns-clause-ends c =
    subst (λ (bytes : List ℕ). EndsOnBytes CheckWinner bytes (verdict_ending c.judge_pair.result)) c.new-source.ensures
    (check_winner_ends c.new-source.result (verdict_ending c.judge_pair.result)
    (calls_for CheckWinner (λ none. none) c.new-source.result c.judge_pair.new.input (verdict_ending c.judge_pair.result) c.judge_pair.ensures.ending))
