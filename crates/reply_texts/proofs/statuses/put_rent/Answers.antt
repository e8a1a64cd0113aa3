use Rattle.std.proofs.Common.{◌∙◌, ℕ, Bool, List, codes, map, subst}
use Rattle.serde_json.specs.Data.{Data, boolean, member, no_members, object}
use Rattle.sealed_core.specs.Host.{text}
use Rattle.reply_texts.specs.Pages.{PutsValue}
use Rattle.reply_texts.specs.Replies.{of_rent_status}
use Rattle.reply_texts.specs.Values.{list_by, of_number, of_text}
use Rattle.reply_texts.proofs.statuses.put_rent.Goals as goal

-- the status, made of its parts
abbrev parts : (id you : ℕ) (bids : List ℕ) (closed : Bool) (deadline rent : ℕ) (members items : List (List ℕ)) (title : List ℕ) → Data
parts id you bids closed deadline rent members items title =
    object (member (codes "bids") (list_by of_number bids)
    (member (codes "closed") (boolean closed)
    (member (codes "deadline") (of_number deadline)
    (member (codes "id") (of_number id)
    (member (codes "kind") (of_text (codes "rent"))
    (member (codes "members") (list_by of_text members)
    (member (codes "rent") (of_number rent)
    (member (codes "rooms") (list_by of_text items)
    (member (codes "title") (of_text title)
    (member (codes "you") (of_number you) no_members))))))))))

pub returns : goal.returns
unfolding of_rent_status
returns c =
    subst (λ (value : Data). PutsValue c.args.page.now c.put_fields.new.page value)
    (λ i. parts (c.from.ensures i) (c.from-3.ensures i) (c.requires i) c.args.closed c.args.instance.now.creation.deadline (c.from-2.ensures i) (map text (c.as_slice.ensures.value i)) (map text (c.as_slice-2.ensures.value i)) (((c.as_bytes.ensures.value ∙ c.as_str.ensures.value)) i))
    c.put_fields.ensures
