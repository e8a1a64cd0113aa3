use Rattle.sealed_core.specs.Step.{answer_view, command_view}
use Rattle.sealed_core.proofs.Applying.{applies_from}
use Rattle.sealed_core.proofs.Quiet.{quiet_from}
use Rattle.sealed_core.proofs.Refusals.{refused_from}
use Rattle.sealed_core.proofs.Sealing.{sealed_from}
use Rattle.sealed_core.proofs.answers.answer.Goals as goal

pub returns-clause-applicable : goal.returns-clause-applicable
returns-clause-applicable c = applies_from c.args.host.now.content c.args.moment (command_view c.args.command) c.step.result c.step.ensures.sound c.requires c.step.ensures.step

pub returns-clause-sealed : goal.returns-clause-sealed
returns-clause-sealed c = sealed_from c.args.host.now.content c.args.moment (command_view c.args.command) (answer_view c.step.result) c.step.ensures.step

pub returns-clause-quiet : goal.returns-clause-quiet
returns-clause-quiet c = quiet_from c.args.host.now.content c.args.moment (command_view c.args.command) (answer_view c.step.result) c.step.ensures.step

pub returns-clause-refused : goal.returns-clause-refused
returns-clause-refused c r = refused_from c.args.host.now.content c.args.moment (command_view c.args.command) (answer_view c.step.result) c.step.ensures.step r
