-- What a body of a case gives: the case, or what is wrong with the body.
use Rattle.std.specs.Prelude.{◌≡◌, ℕ, ◌+◌, List, All, map, length, replicate, Option, Some, None, IfSome, if◌then◌else◌, is_some, option_and_then, Result, Ok, Err}
use Rattle.std.specs.Option.{ok_or}
use Rattle.std.specs.Result.{result_map_both}
use Rattle.arrayvec.specs.ArrayVec.{ArrayVec}
use Rattle.serde_json.specs.Data.{Data}
use Rattle.serde_json.specs.Find.{get}
use Rattle.bid_rules.specs.declared.bids.Facts.{Facts}
use Rattle.bid_rules.specs.declared.bids.Facts.TheVariants as facts
use Rattle.bid_rules.specs.declared.bids.Bid.{Bid}
use Rattle.bid_rules.specs.declared.limits.TheConstants.{ITEM_ROOM, MEMBER_ROOM, MOST_GOODS, MOST_PLACES, MOST_RENT, PLACE_ROOM, USUAL_STEPS}
use Rattle.bid_rules.specs.Checks.{passes_facts}
use Rattle.bid_rules.specs.Facts.{IsCheckedBid, IsCheckedFacts, member_count}
use Rattle.split_json.specs.Rules.{bids_in, json_of, kind_in, legs_in, name_in, names_in, number_in}
use Rattle.body_fields.specs.declared.fields.FieldName.{FieldName}
use Rattle.body_fields.specs.declared.fields.FieldName.TheVariants as field
use Rattle.split_json.specs.declared.rules.Kind.{Kind}
use Rattle.split_json.specs.declared.rules.Kind.TheVariants as kind
use Rattle.body_fields.specs.declared.fields.BodyFault.{BodyFault}
use Rattle.body_fields.specs.declared.fields.BodyFault.TheVariants.{Json, Field}
use Rattle.split_json.specs.declared.input.CaseInput.{CaseInput}
use Rattle.split_json.specs.declared.input.Head.{Head}
pub use Rattle.body_fields.specs.Fields.{field_text}
pub use Rattle.body_fields.specs.Creations.{item_count}

-- what a case is about: its title, the names of members and of items, and its facts, with texts as lists of bytes
pub record HeadData : Type 0 where
  pub title : List ℕ
  pub members : List (List ℕ)
  pub items : List (List ℕ)
  pub facts : Facts

-- what a head that was read holds, with texts as lists of bytes
abbrev pub shown_head : Head → HeadData
shown_head head = record {
  title = head.title.bytes;
  members = map (λ text. text.bytes) head.members.items;
  items = map (λ text. text.bytes) head.items.items;
  facts = head.facts;
}

-- a case: its title, the names of members and of items, its facts and its bids, with texts as lists of bytes
pub record CaseData : Type 0 where
  pub title : List ℕ
  pub members : List (List ℕ)
  pub items : List (List ℕ)
  pub facts : Facts
  pub bids : List (Option Bid)

-- what a case that was read holds, with texts as lists of bytes
abbrev pub case_data_of : CaseInput → CaseData
case_data_of input = record {
  title = input.title.bytes;
  members = map (λ text. text.bytes) input.members.items;
  items = map (λ text. text.bytes) input.items.items;
  facts = input.facts;
  bids = input.bids.items;
}

-- what the body holds in a field, or the name of the field if it is missing or breaks its rule
abbrev pub field_or_name : {A : Type 0} → FieldName → (Data → Option A) → Data → Result A FieldName
field_or_name name rule body = ok_or (option_and_then rule (get (field_text name) body)) name

-- what the body holds in a field, or the usual value if the field is missing; a null doesn't count as missing
abbrev pub held_or : {A : Type 0} → A → FieldName → (Data → Option A) → Data → Result A FieldName
held_or usual name rule body = if is_some (get (field_text name) body) then field_or_name name rule body else Ok usual

-- the next test, applied to what passed the first one; the name of a broken field stays
infixl 10 ◌>>=◌
abbrev pub ◌>>=◌ : {A B : Type 0} → Result A FieldName → (A → Result B FieldName) → Result B FieldName
Ok x >>= next = next x
Err name >>= next = Err name

-- the facts, if they have no fault, and otherwise the name of the field that was read last
unfoldable pub facts_or_field : FieldName → Facts → Result Facts FieldName
facts_or_field name given = ok_or (if passes_facts given then Some given else None) name

-- the facts of a rent
abbrev pub rent_facts : ℕ → ℕ → Facts
rent_facts members rent = facts.Rent (record { members = members; rent = rent })

-- the facts of goods
abbrev pub goods_facts : ℕ → ℕ → ℕ → Facts
goods_facts members goods limit = facts.Goods (record { members = members; goods = goods; limit = limit })

-- the facts of a shared fare
abbrev pub fares_facts : ℕ → ℕ → ℕ → List (ArrayVec ℕ) → Facts
fares_facts members places flag legs = facts.Fares (record { members = members; places = places; flag = flag; legs = record { items = legs } })

-- the facts of a shared fare in which all legs cost nothing
unfoldable pub free_fares : ℕ → ℕ → ℕ → Facts
free_fares members places flag = fares_facts members places flag (replicate (places + 1) (record { items = replicate places 0 }))

-- the fields of a rent after the title, as many rooms as members and the rent, where facts are tested after each field with good values in place of
-- the fields to come
unfoldable pub rent_head : List ℕ → Data → Result HeadData FieldName
rent_head title body = do
  members ← field_or_name field.Members (names_in 0 MEMBER_ROOM) body
  some ← facts_or_field field.Members (rent_facts (length members) MOST_RENT)
  rooms ← field_or_name field.Rooms (names_in (length members) (length members)) body
  rent ← field_or_name field.Rent number_in body
  all ← facts_or_field field.Rent (rent_facts (length members) rent)
  Ok (record { title = title; members = members; items = rooms; facts = all })

-- the fields of goods after the title, which are the goods and the limit of steps, and the limit may be missing
unfoldable pub goods_head : List ℕ → Data → Result HeadData FieldName
goods_head title body = do
  members ← field_or_name field.Members (names_in 0 MEMBER_ROOM) body
  some ← facts_or_field field.Members (goods_facts (length members) MOST_GOODS USUAL_STEPS)
  goods ← field_or_name field.Goods (names_in 0 ITEM_ROOM) body
  more ← facts_or_field field.Goods (goods_facts (length members) (length goods) USUAL_STEPS)
  limit ← held_or USUAL_STEPS field.Limit number_in body
  all ← facts_or_field field.Limit (goods_facts (length members) (length goods) limit)
  Ok (record { title = title; members = members; items = goods; facts = all })

-- the fields of a shared fare after the title, which are the places, the flag fall and the legs
unfoldable pub fares_head : List ℕ → Data → Result HeadData FieldName
fares_head title body = do
  members ← field_or_name field.Members (names_in 0 MEMBER_ROOM) body
  some ← facts_or_field field.Members (free_fares (length members) MOST_PLACES 0)
  places ← field_or_name field.Places (names_in 0 PLACE_ROOM) body
  more ← facts_or_field field.Places (free_fares (length members) (length places) 0)
  flag ← field_or_name field.Flag number_in body
  most ← facts_or_field field.Flag (free_fares (length members) (length places) flag)
  legs ← field_or_name field.Legs legs_in body
  all ← facts_or_field field.Legs (fares_facts (length members) (length places) flag legs)
  Ok (record { title = title; members = members; items = places; facts = all })

-- the fields after the title, by kind
abbrev pub rest_of_head : Kind → List ℕ → Data → Result HeadData FieldName
rest_of_head kind.Rent = rent_head
rest_of_head kind.Goods = goods_head
rest_of_head kind.Fares = fares_head

-- the fields of a case before the bids, in the order in which they are tested, or the first that is missing or breaks its rule
unfoldable pub head_of_object : Data → Result HeadData FieldName
head_of_object body = do
  kind ← field_or_name field.Kind kind_in body
  title ← field_or_name field.Title name_in body
  rest_of_head kind title body

-- the case that a JSON object holds, or the first of its fields that is missing or breaks its rule
unfoldable pub case_of_object : Data → Result CaseData FieldName
case_of_object body = do
  head ← head_of_object body
  bids ← field_or_name field.Bids (bids_in head.facts) body
  Ok (record { title = head.title; members = head.members; items = head.items; facts = head.facts; bids = bids })

-- the case that a JSON value holds, or what is wrong; no value means that the body isn't JSON
abbrev pub answer_of : Option Data → Result CaseData BodyFault
answer_of None = Err Json
answer_of (Some body) = result_map_both (λ case. case) Field (case_of_object body)

-- the case that a body holds, or what is wrong with the body: it isn't JSON, or this is its first broken field
abbrev pub case_in : List ℕ → Result CaseData BodyFault
case_in body = answer_of (json_of body)

-- the facts have no fault, and there is a name for each member and each item
pub record IsReadyHead (head : HeadData) : Type 0 where
  pub facts : IsCheckedFacts head.facts
  pub members : length head.members ≡ member_count head.facts
  pub items : length head.items ≡ item_count head.facts

-- facts and bids have no fault, there is a name for each member and each item, and each member has an entry among the bids
pub record IsReady (case : CaseData) : Type 0 where
  pub facts : IsCheckedFacts case.facts
  pub members : length case.members ≡ member_count case.facts
  pub items : length case.items ≡ item_count case.facts
  pub count : length case.bids ≡ member_count case.facts
  pub bids : All (λ bid. IfSome bid (IsCheckedBid case.facts)) case.bids
