use Rattle.std.proofs.Common.{sym, ap, ◌∙◌}
use Rattle.sealed_core.specs.Sealed.{caller_number, view}
use Rattle.reply_texts.specs.Sealing.{told_in}
use Rattle.reply_texts.proofs.Sealed.{tells, told_is, told_run}
use Rattle.reply_texts.proofs.laws.text_sealing_law.Goals as goal

pub returns-clause-from_view : goal.returns-clause-from_view
returns-clause-from_view c h t id key ask open_ =
    told_is h t id key ask open_ ∙ ap (told_in (view h id (caller_number h id key))) (c.sealing_law.ensures.from_view h t id key ask open_)

pub returns-clause-one_step : goal.returns-clause-one_step
returns-clause-one_step c g h t id key ask same open_ =
    let both = c.sealing_law.ensures.closed_alike g h t id key ask same in
    let one = c.sealing_law.ensures.one_step g h t id key ask same open_ in
    told_is g t id key ask open_
    ∙ (λ i. told_in (same i) (one i))
    ∙ sym (told_is h t id key ask (sym both ∙ open_))

pub returns-clause-runs : goal.returns-clause-runs
returns-clause-runs c g h id caller run others same alike =
    told_run g id caller run
    ∙ (λ i. tells (c.sealing_law.ensures.views g h id caller run others same alike i) (c.sealing_law.ensures.heard g h id caller run others same alike i))
    ∙ sym (told_run h id caller others)
