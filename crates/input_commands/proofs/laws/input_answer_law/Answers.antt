use Rattle.input_commands.proofs.KnownBytes.{ends_called}
use Rattle.input_commands.proofs.OneEnding.{one_ending}
use Rattle.input_commands.proofs.laws.input_answer_law.Goals as goal

pub returns-clause-one : goal.returns-clause-one
returns-clause-one c = one_ending c.certificate_law.ensures.one c.case_law.ensures.valid c.case_in_law.ensures c.report_law.ensures c.one_goods_audit_law.ensures.owners
    c.step_count_law.ensures.one_count c.certificate_verdict_law.ensures.one c.certificate_verdict_law.ensures.whole c.text_law.ensures.broken
    c.winner_text_law.ensures c.winner_verdict_law.ensures.one c.winner_verdict_law.ensures.whole c.pair_law.ensures.broken

pub returns-clause-ends : goal.returns-clause-ends
returns-clause-ends c = ends_called
