-- Replies over the host after the event: the JSON value of each, with its keys in byte order, its text, and its HTTP status.
use Rattle.std.specs.Prelude.{ℕ, ◌+◌, Bool, true, false, List, [], ◌∷◌, length, codes, Option, None, Some, option_map}
use Rattle.std.specs.List.{range_with_len}
use Rattle.serde_json.specs.Data.{Data, boolean, object, member, no_members}
use Rattle.serde_json.specs.Written.{compact_text}
use Rattle.bid_rules.specs.declared.bids.Bid.{Bid}
use Rattle.bid_rules.specs.declared.bids.Bid.TheVariants.{Values, Place}
use Rattle.bid_rules.specs.declared.bids.Facts.{Facts}
use Rattle.bid_rules.specs.declared.bids.Facts.TheVariants as facts
use Rattle.bid_rules.specs.declared.rents.Rent.{Rent}
use Rattle.bid_rules.specs.declared.goods.Goods.{Goods}
use Rattle.bid_rules.specs.declared.fares.Fares.{Fares}
use Rattle.sealed_core.specs.declared.replies.Reply.{Reply}
use Rattle.sealed_core.specs.declared.replies.Reply.TheVariants as reply
use Rattle.sealed_core.specs.Host.{HostView, instance_at, kept_bid, kept_turn}
use Rattle.sealed_core.specs.Keys.{key_text}
use Rattle.sealed_core.specs.Sealed.{PublicFacts, public_of}
use Rattle.reply_texts.specs.Refusals.{of_refusal, refusal_row}
use Rattle.reply_texts.specs.Values.{list_by, of_number, of_text}

-- a new instance as JSON: its id, the keys of its members in their order, and the key of the organiser
unfoldable pub of_created : List ℕ → ℕ → ℕ → Data
of_created secret id members =
    object (member (codes "id") (of_number id)
    (member (codes "keys") (list_by (λ m. of_text (key_text secret id m)) (range_with_len 1 members))
    (member (codes "organiser") (of_text (key_text secret id 0)) no_members)))

-- the numbers of the members who have a bid, in rising order; the list begins with the member of the given number
abbrev pub bidders_from : ℕ → List Bool → List ℕ
bidders_from m [] = []
bidders_from m (true ∷ have) = m ∷ bidders_from (m + 1) have
bidders_from m (false ∷ have) = bidders_from (m + 1) have

-- the numbers of the members who have a bid, in rising order
abbrev pub bidders : List Bool → List ℕ
bidders have = bidders_from 1 have

-- the status of a rent as JSON: what everyone may know of it, and the number of the caller
unfoldable pub of_rent_status : ℕ → ℕ → PublicFacts → Rent → Data
of_rent_status id you p rent =
    object (member (codes "bids") (list_by of_number (bidders p.have_bid))
    (member (codes "closed") (boolean p.closed)
    (member (codes "deadline") (of_number p.deadline)
    (member (codes "id") (of_number id)
    (member (codes "kind") (of_text (codes "rent"))
    (member (codes "members") (list_by of_text p.members)
    (member (codes "rent") (of_number rent.rent)
    (member (codes "rooms") (list_by of_text p.items)
    (member (codes "title") (of_text p.title)
    (member (codes "you") (of_number you) no_members))))))))))

-- the status of goods as JSON: what everyone may know of them, and the number of the caller
unfoldable pub of_goods_status : ℕ → ℕ → PublicFacts → Goods → Data
of_goods_status id you p goods =
    object (member (codes "bids") (list_by of_number (bidders p.have_bid))
    (member (codes "closed") (boolean p.closed)
    (member (codes "deadline") (of_number p.deadline)
    (member (codes "goods") (list_by of_text p.items)
    (member (codes "id") (of_number id)
    (member (codes "kind") (of_text (codes "goods"))
    (member (codes "limit") (of_number goods.limit)
    (member (codes "members") (list_by of_text p.members)
    (member (codes "title") (of_text p.title)
    (member (codes "you") (of_number you) no_members))))))))))

-- the status of a shared fare as JSON: what everyone may know of it, and the number of the caller
unfoldable pub of_fares_status : ℕ → ℕ → PublicFacts → Fares → Data
of_fares_status id you p fares =
    object (member (codes "bids") (list_by of_number (bidders p.have_bid))
    (member (codes "closed") (boolean p.closed)
    (member (codes "deadline") (of_number p.deadline)
    (member (codes "flag") (of_number fares.flag)
    (member (codes "id") (of_number id)
    (member (codes "kind") (of_text (codes "fares"))
    (member (codes "legs") (list_by (λ row. list_by of_number row.items) fares.legs.items)
    (member (codes "members") (list_by of_text p.members)
    (member (codes "places") (list_by of_text p.items)
    (member (codes "title") (of_text p.title)
    (member (codes "you") (of_number you) no_members)))))))))))

-- the status of an instance of this kind as JSON
abbrev pub of_status_by : ℕ → ℕ → PublicFacts → Facts → Data
of_status_by id you p (facts.Rent rent) = of_rent_status id you p rent
of_status_by id you p (facts.Goods goods) = of_goods_status id you p goods
of_status_by id you p (facts.Fares fares) = of_fares_status id you p fares

-- the status of an instance as JSON
abbrev pub of_status : ℕ → ℕ → PublicFacts → Data
of_status id you p = of_status_by id you p p.facts

-- a kept turn as JSON
unfoldable pub of_turn : ℕ → Data
of_turn turn = object (member (codes "turn") (of_number turn) no_members)

-- a bid of values or points, and its turn, as JSON
unfoldable pub of_values : ℕ → List ℕ → Data
of_values turn values = object (member (codes "turn") (of_number turn) (member (codes "values") (list_by of_number values) no_members))

-- a bid for a place, and its turn, as JSON
unfoldable pub of_place : ℕ → ℕ → Data
of_place turn place = object (member (codes "place") (of_number place) (member (codes "turn") (of_number turn) no_members))

-- the member's own kept turn as JSON, with the bid if there is one
abbrev pub of_own : ℕ → Option Bid → Data
of_own turn None = of_turn turn
of_own turn (Some (Values values)) = of_values turn values.items
of_own turn (Some (Place place)) = of_place turn place

-- the reply to a close, as JSON
unfoldable pub of_closed : Data
of_closed = object (member (codes "closed") (boolean true) no_members)

-- a reply as JSON, over the host after the event: none if it names an instance that is not there, and none for a publication, whose text comes from a
-- division
abbrev pub of_reply : HostView → Reply → Option Data
of_reply h (reply.Created id) = option_map (of_created h.secret id) (option_map (λ i. length i.creation.members) (instance_at h id))
of_reply h (reply.Status id you) = option_map (of_status id you) (option_map public_of (instance_at h id))
of_reply h (reply.Kept turn) = Some (of_turn turn)
of_reply h (reply.Own id m) = option_map (λ i. of_own (kept_turn i m) (kept_bid i m)) (instance_at h id)
of_reply h reply.Closed = Some of_closed
of_reply h (reply.Publish id what) = None
of_reply h (reply.Refused r) = Some (of_refusal r)

-- the text of a reply: its JSON in compact form
abbrev pub text_of : HostView → Reply → Option (List ℕ)
text_of h r = option_map compact_text (of_reply h r)

-- the HTTP status of a reply
abbrev pub status_of : Reply → ℕ
status_of (reply.Created id) = 201
status_of (reply.Status id you) = 200
status_of (reply.Kept turn) = 200
status_of (reply.Own id m) = 200
status_of reply.Closed = 200
status_of (reply.Publish id what) = 200
status_of (reply.Refused r) = (refusal_row r).0
