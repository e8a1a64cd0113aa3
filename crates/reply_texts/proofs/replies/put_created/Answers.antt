use Rattle.std.proofs.Common.{◌∙◌, ap, subst}
use Rattle.serde_json.specs.Data.{Data, member, no_members, object}
use Rattle.std.specs.Prelude.{codes}
use Rattle.reply_texts.specs.Pages.{PutsValue}
use Rattle.reply_texts.specs.Replies.{of_created}
use Rattle.reply_texts.specs.Values.{list_by, of_number, of_text}
use Rattle.reply_texts.proofs.replies.put_created.Goals as goal

pub returns : goal.returns
unfolding of_created
returns c =
    subst (λ (value : Data). PutsValue c.args.page.now c.put_new_keys.new.page value)
    (λ i. object (member (codes "id") (of_number c.args.id)
    (member (codes "keys") ((ap (list_by of_text) c.as_slice.ensures.value ∙ c.member_keys-keys.ensures) i)
    (member (codes "organiser") (of_text (c.key_of-organiser.ensures i)) no_members))))
    c.put_new_keys.ensures
