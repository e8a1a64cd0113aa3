use Rattle.std.proofs.Common.{ℕ, subst}
use Rattle.input_commands.specs.declared.command.InputCommand.TheVariants.{Check}
use Rattle.command_results.specs.Endings.{verdict_ending}
use Rattle.input_commands.specs.Replies.{Replies}
use Rattle.fair_verdicts.proofs.fair_check.Goals as goal

pub returns-clause-best : goal.returns-clause-best
returns-clause-best c zero =
    c.status_law.ensures.best c.args.bytes.now c.hand_out_verdict.new.size c.args.text.now c.hand_out_verdict.new.buffer
    (subst (λ (status : ℕ). Replies Check c.args.bytes.now status c.hand_out_verdict.new.size c.args.text.now c.hand_out_verdict.new.buffer) zero
    (record { ending = verdict_ending c.check_bytes-verdict.result; ends = c.check_bytes-verdict.ensures.ends; hands = c.hand_out_verdict.ensures }))
