use Rattle.sealed_core.specs.Step.{step}
use Rattle.reply_texts.proofs.Answered.{step_tells}
use Rattle.reply_texts.proofs.TextsThere.{close_of, tells_each, text_there}
use Rattle.reply_texts.proofs.laws.telling_law.Goals as goal

pub returns-clause-tells : goal.returns-clause-tells
returns-clause-tells c h t command =
    tells_each h (step h t command).event (step h t command).reply
    (λ id what is. (c.publication_law.ensures.stands h t id command what is, close_of h t id command what _ (c.publication_law.ensures.asked h t id command what is) (c.publication_law.ensures.event h t id command what is)))
    (step_tells h t command)

pub returns-clause-text : goal.returns-clause-text
returns-clause-text c h t command never = text_there h (step h t command).event (step h t command).reply never (step_tells h t command never)
