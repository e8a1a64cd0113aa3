-- The keys of the fields of a body.
use Rattle.std.specs.Prelude.{ℕ, List, codes}
use Rattle.body_fields.specs.declared.fields.FieldName.{FieldName}
use Rattle.body_fields.specs.declared.fields.FieldName.TheVariants as field

-- the name of a field as a body has it
abbrev pub field_text : FieldName → List ℕ
field_text field.Kind = codes "kind"
field_text field.Title = codes "title"
field_text field.Members = codes "members"
field_text field.Rooms = codes "rooms"
field_text field.Rent = codes "rent"
field_text field.Goods = codes "goods"
field_text field.Limit = codes "limit"
field_text field.Places = codes "places"
field_text field.Flag = codes "flag"
field_text field.Legs = codes "legs"
field_text field.Deadline = codes "deadline"
field_text field.Tag = codes "tag"
field_text field.Bids = codes "bids"
field_text field.Owners = codes "owners"
field_text field.Turn = codes "turn"
field_text field.Values = codes "values"
field_text field.Place = codes "place"
