use Rattle.std.proofs.Common.{ℕ, subst}
use Rattle.input_commands.specs.declared.command.InputCommand.TheVariants.{CheckWinner}
use Rattle.command_results.specs.Endings.{verdict_ending}
use Rattle.input_commands.specs.Replies.{Replies}
use Rattle.fair_verdicts.proofs.fair_checkwinner.Goals as goal

pub returns-clause-fair : goal.returns-clause-fair
returns-clause-fair c zero =
    c.status_law.ensures.fair c.args.bytes.now c.hand_out_verdict.new.size c.args.text.now c.hand_out_verdict.new.buffer
    (subst (λ (status : ℕ). Replies CheckWinner c.args.bytes.now status c.hand_out_verdict.new.size c.args.text.now c.hand_out_verdict.new.buffer) zero
    (record { ending = verdict_ending c.check_winner_bytes-verdict.result; ends = c.check_winner_bytes-verdict.ensures.ends; hands = c.hand_out_verdict.ensures }))
