-- What the body of a creation, of a bid and of a withdrawal gives.
use Rattle.std.specs.Prelude.{ℕ, List, Option, Some, None, option_map, option_and_then, Result, Ok, Err}
use Rattle.std.specs.Result.{result_map_both}
use Rattle.serde_json.specs.Data.{Data}
use Rattle.serde_json.specs.Find.{as_str, get}
use Rattle.bid_rules.specs.declared.limits.TheConstants.{ITEM_ROOM}
use Rattle.body_fields.specs.declared.bodies.BidBody.{BidBody}
use Rattle.body_fields.specs.declared.fields.BodyFault.{BodyFault}
use Rattle.body_fields.specs.declared.fields.BodyFault.TheVariants.{Json, Field}
use Rattle.body_fields.specs.declared.fields.FieldName.{FieldName}
use Rattle.body_fields.specs.declared.fields.FieldName.TheVariants as field
use Rattle.body_fields.specs.Creations.{CreationView}
use Rattle.body_fields.specs.Rules.{is_tag}
use Rattle.split_json.specs.Deadlines.{deadline_of}
use Rattle.split_json.specs.Reading.{field_text, head_of_object, field_or_name, ◌>>=◌}
use Rattle.split_json.specs.Rules.{json_of, number_in, numbers_in, passing, place_in}

-- the second that a JSON value names as a deadline, if it is a text that names one
abbrev pub deadline_in : Data → Option ℕ
deadline_in d = option_and_then deadline_of (as_str d)

-- the text that a JSON value is, if it is a tag
abbrev pub tag_in : Data → Option (List ℕ)
tag_in d = option_and_then (passing is_tag) (as_str d)

-- the creation that a JSON object holds, or the first of its fields that is missing or breaks its rule: the fields of a case before the bids, then
-- the deadline and the tag
unfoldable pub creation_of_object : Data → Result CreationView FieldName
creation_of_object body = do
  head ← head_of_object body
  deadline ← field_or_name field.Deadline deadline_in body
  tag ← field_or_name field.Tag tag_in body
  Ok (record { title = head.title; members = head.members; items = head.items; facts = head.facts; deadline = deadline; tag = tag })

-- the creation that a JSON value holds, or what is wrong; no value means that the body isn't JSON
abbrev pub creation_of : Option Data → Result CreationView BodyFault
creation_of None = Err Json
creation_of (Some body) = result_map_both (λ creation. creation) Field (creation_of_object body)

-- the creation that a body holds, or what is wrong with the body: it isn't JSON, or this is its first broken field
abbrev pub creation_in : List ℕ → Result CreationView BodyFault
creation_in body = creation_of (json_of body)

-- what the body holds in a field, if the field is there and has its form
abbrev pub field_in : {A : Type 0} → FieldName → (Data → Option A) → Data → Option A
field_in name form body = option_and_then form (get (field_text name) body)

-- the turn, and the values or the place, each if it is there and has its form, while a JSON value that isn't an object has none of them
unfoldable pub bid_body_of : Data → BidBody
bid_body_of body = record {
  turn = field_in field.Turn number_in body;
  values = option_map (λ values. record { items = values }) (field_in field.Values (numbers_in ITEM_ROOM) body);
  place = field_in field.Place place_in body;
}

-- what a JSON value holds of a bid, where no value means that the body isn't JSON, and a field is never a fault here
abbrev pub bid_answer : Option Data → Result BidBody BodyFault
bid_answer None = Err Json
bid_answer (Some body) = Ok (bid_body_of body)

-- what the body of a bid or of a withdrawal holds, or that it isn't JSON
abbrev pub bid_body_in : List ℕ → Result BidBody BodyFault
bid_body_in body = bid_answer (json_of body)
