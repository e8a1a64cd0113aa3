use Rattle.reply_texts.specs.Contents.{content_view}
use Rattle.publications.specs.Publications.{IsPublication, case_data}
use Rattle.reply_texts.specs.declared.contents.ReplyContent.{ReplyContent}
use Rattle.sealed_core.specs.Host.{instance_view}
use Rattle.sealed_core.specs.Sealed.{with_event}
use Rattle.sealed_core.specs.Step.{answer_view}
use Rattle.requests.specs.Replies.{Shows}
use Rattle.requests.proofs.Contents.{if_ok, published_stands, shows_published}
use Rattle.requests.proofs.replies.content.Goals as goal

pub unreachable-requires : goal.unreachable-requires
unreachable-requires g c =
    absurd (published_stands c.args.host.now.content (c.publication_law.ensures.stands c.args.host.now.content) (answer_view c.args.answered.now) c.requires.answered
    c.in-Publish.id c.in-Publish.what c.in-Publish.is c.in_default-instance_at.ensures.found)

pub returns-in-Some-clause-shown : goal.returns-in-Some-clause-shown
returns-in-Some-clause-shown g c =
    let h = c.args.host.now.content in
    let i = instance_view c.in-Some.instance.now in
    if_ok c.publication.result
    (λ (told : ReplyContent). IsPublication (case_data i) c.in-Publish.what (content_view told))
    (λ (told : ReplyContent). Shows (with_event h (answer_view c.args.answered.now).event) c.args.answered.now.reply (content_view told))
    (λ told tells.
    shows_published h (c.machine_law.ensures.closing h) (c.publication_law.ensures.asked h) (c.publication_law.ensures.event h) (answer_view c.args.answered.now) c.requires.answered
    c.in-Publish.id c.in-Publish.what c.in-Publish.is i c.in-Some.ensures.found (content_view told) tells) c.publication.ensures
