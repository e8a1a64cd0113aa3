use Rattle.std.proofs.Common.{sym, ◌∙◌}
use Rattle.requests.proofs.SealedReplies.{sent_told}
use Rattle.requests.proofs.laws.sent_sealing_law.Goals as goal

pub returns-clause-from_view : goal.returns-clause-from_view
returns-clause-from_view c h t id key ask told open_ replies =
    sent_told h (c.publication_law.ensures.asked h) (c.publication_law.ensures.closed h) t id key ask told open_ replies ∙ c.text_sealing_law.ensures.from_view h t id key ask open_

pub returns-clause-one_step : goal.returns-clause-one_step
returns-clause-one_step c g h t id key ask told other same open_ replies others =
    let both = c.sealing_law.ensures.closed_alike g h t id key ask same in
    sent_told g (c.publication_law.ensures.asked g) (c.publication_law.ensures.closed g) t id key ask told open_ replies
    ∙ c.text_sealing_law.ensures.one_step g h t id key ask same open_
    ∙ sym (sent_told h (c.publication_law.ensures.asked h) (c.publication_law.ensures.closed h) t id key ask other (sym both ∙ open_) others)
