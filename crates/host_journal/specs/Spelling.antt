-- The one spelling of an event as a body. Numbers are little-endian.
use Rattle.std.specs.Prelude.{◌≡◌, ℕ, ◌<◌, ◌^◌, ◌≤◌, List, [], ◌∷◌, ◌++◌, length, flat_map, All, ⊤}
use Rattle.std.specs.Int.{to_le_bytes, w32, w64}
use Rattle.std.specs.Str.{IsUtf8}
use Rattle.bid_rules.specs.declared.bids.Bid.{Bid}
use Rattle.bid_rules.specs.declared.bids.Bid.TheVariants as bid
use Rattle.bid_rules.specs.declared.bids.Facts.{Facts}
use Rattle.bid_rules.specs.declared.bids.Facts.TheVariants as facts
use Rattle.bid_rules.specs.declared.limits.TheConstants.{ITEM_ROOM}
use Rattle.bid_rules.specs.Facts.{IsCheckedFacts, legs_in_order, member_count}
use Rattle.sealed_core.specs.Host.{CreationView, EventView, Created, BidKept, Closed, Withdrawn, IsName, IsTag, item_count}

-- a text: its length in one byte, and its bytes
abbrev pub text_bytes : List ℕ → List ℕ
text_bytes text = length text ∷ text

-- a list of texts: their count in one byte, and the texts
abbrev pub texts_bytes : List (List ℕ) → List ℕ
texts_bytes texts = length texts ∷ flat_map text_bytes texts

-- the bytes of some numbers, four each
abbrev pub numbers_bytes : List ℕ → List ℕ
numbers_bytes numbers = flat_map (λ n. to_le_bytes w32 n) numbers

-- the number of a kind: 1 for a rent, 2 for goods, 3 for fares
abbrev pub kind_of : Facts → ℕ
kind_of (facts.Rent rent) = 1
kind_of (facts.Goods goods) = 2
kind_of (facts.Fares fares) = 3

-- the rent, the limit, or the flag fall and all legs row by row
abbrev pub facts_bytes : Facts → List ℕ
facts_bytes (facts.Rent rent) = to_le_bytes w32 rent.rent
facts_bytes (facts.Goods goods) = to_le_bytes w32 goods.limit
facts_bytes (facts.Fares fares) = to_le_bytes w32 fares.flag ++ numbers_bytes (legs_in_order fares)

-- the bytes of a bid, which begin with 1 for values and 2 for a place
abbrev pub bid_bytes : Bid → List ℕ
bid_bytes (bid.Values values) = 1 ∷ length values.items ∷ numbers_bytes values.items
bid_bytes (bid.Place place) = 2 ∷ place ∷ []

-- the bytes of a creation without its deadline
abbrev pub creation_bytes : CreationView → List ℕ
creation_bytes c = kind_of c.facts ∷ text_bytes c.tag ++ text_bytes c.title ++ texts_bytes c.members ++ texts_bytes c.items ++ facts_bytes c.facts

-- the bytes of an event, which begin with the number of its sort
abbrev pub spelling : EventView → List ℕ
spelling (Created moment c) = 1 ∷ to_le_bytes w64 moment ++ to_le_bytes w64 c.deadline ++ creation_bytes c
spelling (BidKept moment id member turn bid) = 2 ∷ to_le_bytes w64 moment ++ to_le_bytes w32 id ++ member ∷ turn ∷ bid_bytes bid
spelling (Closed moment id) = 3 ∷ to_le_bytes w64 moment ++ to_le_bytes w32 id
spelling (Withdrawn moment id member turn) = 4 ∷ to_le_bytes w64 moment ++ to_le_bytes w32 id ++ member ∷ turn ∷ []

-- the bid fits its types
abbrev pub FitsBid : Bid → Type 0
FitsBid (bid.Values values) = (length values.items ≤ ITEM_ROOM) × All (λ n. n < 2 ^ 32) values.items
FitsBid (bid.Place place) = place < 2 ^ 8

-- a body may hold the creation: its facts are checked and have the counts of its lists, and its texts are within their limits
pub record HasRules (c : CreationView) : Type 0 where
  pub facts : IsCheckedFacts c.facts
  pub member_names : length c.members ≡ member_count c.facts
  pub item_names : length c.items ≡ item_count c.facts
  pub title : IsName c.title × IsUtf8 c.title
  pub members : All (λ name. IsName name × IsUtf8 name) c.members
  pub items : All (λ name. IsName name × IsUtf8 name) c.items
  pub tag : IsTag c.tag
  pub deadline : c.deadline < 2 ^ 64

-- the event has a spelling: its numbers fit their bytes, and a creation keeps its rules
abbrev pub IsEvent : EventView → Type 0
IsEvent (Created moment c) = (moment < 2 ^ 64) × HasRules c
IsEvent (BidKept moment id member turn bid) = (moment < 2 ^ 64) × (id < 2 ^ 32) × (member < 2 ^ 8) × (turn < 2 ^ 8) × FitsBid bid
IsEvent (Closed moment id) = (moment < 2 ^ 64) × (id < 2 ^ 32)
IsEvent (Withdrawn moment id member turn) = (moment < 2 ^ 64) × (id < 2 ^ 32) × (member < 2 ^ 8) × (turn < 2 ^ 8)

-- the event fits its types: its numbers fit their bytes, and its texts are UTF-8
abbrev pub FitsTypes : EventView → Type 0
FitsTypes (Created moment c) = (moment < 2 ^ 64) × (c.deadline < 2 ^ 64) × IsUtf8 c.title × All IsUtf8 c.members × All IsUtf8 c.items
FitsTypes (BidKept moment id member turn given) = IsEvent (BidKept moment id member turn given)
FitsTypes (Closed moment id) = IsEvent (Closed moment id)
FitsTypes (Withdrawn moment id member turn) = IsEvent (Withdrawn moment id member turn)

-- only version 2 has withdrawals
abbrev pub IsOfVersion : ℕ → EventView → Type 0
IsOfVersion version (Created moment c) = ⊤
IsOfVersion version (BidKept moment id member turn bid) = ⊤
IsOfVersion version (Closed moment id) = ⊤
IsOfVersion version (Withdrawn moment id member turn) = version ≡ 2

-- the body is this event
abbrev pub Spells : EventView → List ℕ → Type 0
Spells event body = IsEvent event × (body ≡ spelling event)
