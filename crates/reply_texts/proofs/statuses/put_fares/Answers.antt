use Rattle.std.proofs.Common.{◌∙◌, ℕ, Bool, List, codes, map, subst}
use Rattle.arrayvec.specs.declared.array_vec.ArrayVec.{ArrayVec}
use Rattle.bid_rules.specs.declared.limits.TheConstants.{PLACE_ROOM}
use Rattle.serde_json.specs.Data.{Data, boolean, member, no_members, object}
use Rattle.sealed_core.specs.Host.{text}
use Rattle.reply_texts.specs.Pages.{PutsValue}
use Rattle.reply_texts.specs.Replies.{of_fares_status}
use Rattle.reply_texts.specs.Values.{list_by, of_number, of_text}
use Rattle.reply_texts.proofs.statuses.put_fares.Goals as goal

-- the status, made of its parts
abbrev parts : (id you : ℕ) (bids : List ℕ) (closed : Bool) (deadline flag : ℕ) (legs : List (ArrayVec ℕ PLACE_ROOM (Unit {0}))) (members items : List (List ℕ)) (title : List ℕ) → Data
parts id you bids closed deadline flag legs members items title =
    object (member (codes "bids") (list_by of_number bids)
    (member (codes "closed") (boolean closed)
    (member (codes "deadline") (of_number deadline)
    (member (codes "flag") (of_number flag)
    (member (codes "id") (of_number id)
    (member (codes "kind") (of_text (codes "fares"))
    (member (codes "legs") (list_by (λ row. list_by of_number row.items) legs)
    (member (codes "members") (list_by of_text members)
    (member (codes "places") (list_by of_text items)
    (member (codes "title") (of_text title)
    (member (codes "you") (of_number you) no_members)))))))))))

pub returns : goal.returns
unfolding of_fares_status
returns c =
    subst (λ (value : Data). PutsValue c.args.page.now c.put_fields.new.page value)
    (λ i. parts (c.from-2.ensures i) (c.from-3.ensures i) (c.requires i) c.args.closed c.args.instance.now.creation.deadline (c.from.ensures i) (c.as_slice.ensures.value i) (map text (c.as_slice-2.ensures.value i)) (map text (c.as_slice-3.ensures.value i)) (((c.as_bytes.ensures.value ∙ c.as_str.ensures.value)) i))
    c.put_fields.ensures
