use Rattle.reply_texts.proofs.PlainTexts.{each_refusal, each_service}
use Rattle.reply_texts.proofs.laws.refusal_status_law.Goals as goal

pub returns-clause-refusal : goal.returns-clause-refusal
returns-clause-refusal c = each_refusal

pub returns-clause-service : goal.returns-clause-service
returns-clause-service c = λ refusal. (each_service refusal).0
