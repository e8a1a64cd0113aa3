use Rattle.std.proofs.Common.{◌≡◌, List, ℕ, rules, subst, sym}
use Rattle.sealed_core.specs.Step.{answer_view}
use Rattle.reply_texts.specs.Sealing.{IsSealedText}
use Rattle.reply_texts.proofs.replies.reply_text.Goals as goal

pub returns-in-Ok-clause-sealed : goal.returns-in-Ok-clause-sealed
returns-in-Ok-clause-sealed c =
    let same : c.in-Ok.text.items ≡ c.put_reply.new.page.bytes.items = search rules in
    subst (λ (text : List ℕ). IsSealedText c.args.host.now.content (answer_view c.args.answered.now) text) (sym same) c.put_reply.ensures.sealed
