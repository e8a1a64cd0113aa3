-- A creation as contracts see it, with its texts as lists of bytes, and the rules that it keeps.
use Rattle.std.specs.Prelude.{◌≡◌, ℕ, ◌≤◌, List, map, length, All}
use Rattle.arrayvec.specs.ArrayString.{ArrayString}
use Rattle.bid_rules.specs.declared.bids.Facts.{Facts}
use Rattle.bid_rules.specs.declared.bids.Facts.TheVariants as facts
use Rattle.bid_rules.specs.Facts.{IsCheckedFacts, member_count}
use Rattle.body_fields.specs.declared.creations.Creation.{Creation}
use Rattle.body_fields.specs.declared.limits.TheConstants.{LAST_DEADLINE}
use Rattle.body_fields.specs.Rules.{IsName, IsTag}

-- a creation as contracts see it: title, names of members and of items, facts, deadline in seconds since 1970, and tag, with texts as lists of bytes
pub record CreationView : Type 0 where
  pub title : List ℕ
  pub members : List (List ℕ)
  pub items : List (List ℕ)
  pub facts : Facts
  pub deadline : ℕ
  pub tag : List ℕ

-- the bytes of a text
abbrev pub text : ArrayString → List ℕ
text s = s.bytes

-- what contracts see of a creation
abbrev pub creation_view : Creation → CreationView
creation_view c = record { title = text c.title; members = map text c.members.items; items = map text c.items.items; facts = c.facts; deadline = c.deadline; tag = text c.tag }

-- how many rooms, goods or places the facts name
abbrev pub item_count : Facts → ℕ
item_count (facts.Rent rent) = rent.members
item_count (facts.Goods goods) = goods.goods
item_count (facts.Fares fares) = fares.places

-- a creation without a fault: its facts are checked, its lists are as long as the facts say, and each field keeps its rule
pub record IsCheckedCreation (c : CreationView) : Type 0 where
  pub facts : IsCheckedFacts c.facts
  pub member_names : length c.members ≡ member_count c.facts
  pub item_names : length c.items ≡ item_count c.facts
  pub title : IsName c.title
  pub members : All IsName c.members
  pub items : All IsName c.items
  pub tag : IsTag c.tag
  pub deadline : c.deadline ≤ LAST_DEADLINE
