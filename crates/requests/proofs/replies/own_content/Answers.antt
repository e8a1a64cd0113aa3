use Rattle.requests.proofs.Contents.{own_shows}
use Rattle.requests.proofs.Statuses.{reply_status}
use Rattle.requests.proofs.replies.own_content.Goals as goal
use Rattle.reply_texts.specs.Contents.{ContentView}
use Rattle.requests.specs.Replies.{Shows}
use Rattle.sealed_core.specs.Sealed.{with_event}
use Rattle.sealed_core.specs.Step.{answer_view}
use Rattle.split_http.specs.Replies.{is_host_status}
use Rattle.reply_texts.specs.Contents.{told_as}
use Rattle.reply_texts.specs.declared.contents.ContentType.TheVariants.{Json}
use Rattle.std.proofs.Common.{◌∙◌, IsTrue, ap, subst, sym}

pub own-requires : goal.own-requires
own-requires c = subst (λ n. IsTrue (is_host_status n)) (sym c.reply_status-status.ensures) (reply_status c.refusal_status_law.ensures.refusal c.args.answered.now.reply)

pub returns : goal.returns
returns c =
    subst (λ (x : ContentView). Shows (with_event c.args.host.now.content (answer_view c.args.answered.now).event) c.args.answered.now.reply x) (sym (c.own.ensures ∙ ap (told_as c.reply_status-status.result Json) c.as_slice.ensures.value))
    (own_shows _ _ _ _ c.reply_status-status.ensures c.put_reply.ensures.text)
