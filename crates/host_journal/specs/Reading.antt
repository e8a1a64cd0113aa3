-- Reading an event from the body of its record, from left to right: a value, and the bytes after it.
use Rattle.std.specs.Prelude.{ℕ, zero, suc, ◌+◌, List, [], ◌∷◌, length, take, drop, Option, Some, None, nat_lt, ◌==◌, if◌then◌else◌, ⊤}
use Rattle.std.specs.Int.{Width, w32, w64, byte_len, from_le_bytes}
use Rattle.std.specs.Str.{is_utf8}
use Rattle.arrayvec.specs.declared.array_vec.ArrayVec.{ArrayVec}
use Rattle.bid_rules.specs.declared.bids.Bid.{Bid}
use Rattle.bid_rules.specs.declared.bids.Bid.TheVariants as bid
use Rattle.bid_rules.specs.declared.bids.Facts.{Facts}
use Rattle.bid_rules.specs.declared.bids.Facts.TheVariants as facts
use Rattle.bid_rules.specs.declared.limits.TheConstants.{ITEM_ROOM, LONGEST_NAME, MEMBER_ROOM, PLACE_ROOM}
use Rattle.body_fields.specs.declared.limits.TheConstants.{LONGEST_TAG}
use Rattle.sealed_core.specs.Host.{CreationView, EventView, Created, BidKept, Closed, Withdrawn, IsCheckedCreation}

infixl 10 ◌>>=◌
abbrev pub ◌>>=◌ : {A B : Type 0} → Option A → (A → Option B) → Option B
(Some x) >>= f = f x
None >>= f = None

-- the byte at the front, and the bytes after it
abbrev pub byte_at : List ℕ → Option (ℕ × List ℕ)
byte_at [] = None
byte_at (b ∷ bytes) = Some (b, bytes)

-- the number of this width at the front, least byte first, and the bytes after it
abbrev pub number_at : Width → List ℕ → Option (ℕ × List ℕ)
number_at w bytes = if nat_lt (length bytes) (byte_len w) then None else Some (from_le_bytes w (take (byte_len w) bytes), drop (byte_len w) bytes)

-- a text of at most this many bytes
unfoldable pub text_at : ℕ → List ℕ → Option (List ℕ × List ℕ)
text_at most bytes = do
  n ← byte_at bytes
  if nat_lt (length n.1) n.0 then None
      else if is_utf8 (take n.0 n.1) then (if nat_lt most n.0 then None else Some (take n.0 n.1, drop n.0 n.1))
      else None

-- as many values, one after the other
unfoldable pub many_at : {A : Type 0} → (List ℕ → Option (A × List ℕ)) → ℕ → List ℕ → Option (List A × List ℕ)
many_at read zero bytes = Some ([], bytes)
many_at read (suc n) bytes = do
  first ← read bytes
  others ← many_at read n first.1
  Some (first.0 ∷ others.0, others.1)

-- a list of names that fits its room
unfoldable pub names_at : ℕ → List ℕ → Option (List (List ℕ) × List ℕ)
names_at room bytes = do
  n ← byte_at bytes
  if nat_lt room n.0 then None else many_at (text_at LONGEST_NAME) n.0 n.1

-- the legs from one place at the front, and the bytes after them
unfoldable pub row_at : ℕ → List ℕ → Option (ArrayVec ℕ PLACE_ROOM (Unit {0}) × List ℕ)
row_at places bytes = do
  legs ← many_at (number_at w32) places bytes
  Some (record { items = legs.0 }, legs.1)

-- the facts of a taxi at the front, and the bytes after them
unfoldable pub fares_at : ℕ → ℕ → List ℕ → Option (Facts × List ℕ)
fares_at members places bytes = do
  flag ← number_at w32 bytes
  rows ← many_at (row_at places) (places + 1) flag.1
  Some (facts.Fares (record { members = members; places = places; flag = flag.0; legs = record { items = rows.0 } }), rows.1)

-- the facts of a kind with these counts of members and items
unfoldable pub facts_at : (kind members items : ℕ) → List ℕ → Option (Facts × List ℕ)
facts_at kind members items bytes =
    if kind == 1 then (number_at w32 bytes >>= λ rent. Some (facts.Rent (record { members = members; rent = rent.0 }), rent.1))
    else if kind == 2 then (number_at w32 bytes >>= λ limit. Some (facts.Goods (record { members = members; goods = items; limit = limit.0 }), limit.1))
    else if kind == 3 then (if nat_lt PLACE_ROOM items then None else fares_at members items bytes)
    else None

-- the creation with this deadline at the front, and the bytes after it
unfoldable pub creation_at : ℕ → List ℕ → Option (CreationView × List ℕ)
creation_at deadline bytes = do
  kind ← byte_at bytes
  tag ← text_at LONGEST_TAG kind.1
  title ← text_at LONGEST_NAME tag.1
  members ← names_at MEMBER_ROOM title.1
  items ← names_at ITEM_ROOM members.1
  facts ← facts_at kind.0 (length members.0) (length items.0) items.1
  Some (record { title = title.0; members = members.0; items = items.0; facts = facts.0; deadline = deadline; tag = tag.0 }, facts.1)

-- the values of a bid at the front, and the bytes after them
unfoldable pub values_at : List ℕ → Option (Bid × List ℕ)
values_at bytes = do
  n ← byte_at bytes
  if nat_lt ITEM_ROOM n.0 then None else (many_at (number_at w32) n.0 n.1 >>= λ values. Some (bid.Values (record { items = values.0 }), values.1))

-- the bid at the front, values or a place, and the bytes after it
unfoldable pub bid_at : List ℕ → Option (Bid × List ℕ)
bid_at bytes = do
  form ← byte_at bytes
  if form.0 == 1 then values_at form.1
      else if form.0 == 2 then (byte_at form.1 >>= λ place. Some (bid.Place place.0, place.1))
      else None

-- the event of a creation at the front, without its first byte, and the bytes after it
unfoldable pub created_at : List ℕ → Option (EventView × List ℕ)
created_at bytes = do
  moment ← number_at w64 bytes
  deadline ← number_at w64 moment.1
  creation ← creation_at deadline.0 deadline.1
  Some (Created moment.0 creation.0, creation.1)

-- the event of a kept bid at the front, without its first byte, and the bytes after it
unfoldable pub bid_kept_at : List ℕ → Option (EventView × List ℕ)
bid_kept_at bytes = do
  moment ← number_at w64 bytes
  id ← number_at w32 moment.1
  member ← byte_at id.1
  turn ← byte_at member.1
  given ← bid_at turn.1
  Some (BidKept moment.0 id.0 member.0 turn.0 given.0, given.1)

-- the event of a close at the front, without its first byte, and the bytes after it
unfoldable pub closed_at : List ℕ → Option (EventView × List ℕ)
closed_at bytes = do
  moment ← number_at w64 bytes
  id ← number_at w32 moment.1
  Some (Closed moment.0 id.0, id.1)

-- the event of a withdrawal at the front, without its first byte, and the bytes after it
unfoldable pub withdrawn_at : List ℕ → Option (EventView × List ℕ)
withdrawn_at bytes = do
  moment ← number_at w64 bytes
  id ← number_at w32 moment.1
  member ← byte_at id.1
  turn ← byte_at member.1
  Some (Withdrawn moment.0 id.0 member.0 turn.0, turn.1)

-- the event at the front, told by its first byte, and the bytes after it
unfoldable pub event_at : List ℕ → Option (EventView × List ℕ)
event_at bytes = do
  kind ← byte_at bytes
  if kind.0 == 1 then created_at kind.1
      else if kind.0 == 2 then bid_kept_at kind.1
      else if kind.0 == 3 then closed_at kind.1
      else if kind.0 == 4 then withdrawn_at kind.1
      else None

-- an event, and nothing after it
unfoldable pub whole_at : List ℕ → Option EventView
whole_at bytes = do
  event ← event_at bytes
  if length event.1 == 0 then Some event.0 else None

-- the creation except for its deadline, which has no limit here
abbrev pub without_deadline : CreationView → CreationView
without_deadline c = record { title = c.title; members = c.members; items = c.items; facts = c.facts; deadline = 0; tag = c.tag }

-- a creation keeps its rules
abbrev pub KeepsRules : EventView → Type 0
KeepsRules (Created moment c) = IsCheckedCreation (without_deadline c)
KeepsRules (BidKept moment id member turn given) = ⊤
KeepsRules (Closed moment id) = ⊤
KeepsRules (Withdrawn moment id member turn) = ⊤
