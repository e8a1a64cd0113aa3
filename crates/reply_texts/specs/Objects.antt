-- The fields of a reply as JSON. No public contract names these definitions.
use Rattle.std.specs.Prelude.{ℕ, List, [], ◌∷◌, codes, map}
use Rattle.serde_json.specs.Data.{Data, Members, boolean, member, no_members, object}
use Rattle.reply_texts.specs.Values.{list_by, of_number, of_text}
use Rattle.reply_texts.specs.declared.objects.Part.{Part}
use Rattle.reply_texts.specs.declared.objects.Part.TheVariants as part
use Rattle.reply_texts.specs.declared.objects.Field.{Field}

-- a part as JSON
abbrev pub of_part : Part → Data
of_part (part.Number n) = of_number n
of_part (part.Flag b) = boolean b
of_part (part.Text text) = of_text text.now
of_part (part.Numbers list) = list_by of_number list.now
of_part (part.Names list) = list_by of_text (map (λ name. name.bytes) list.now)
of_part (part.Keys list) = list_by of_text list.now
of_part (part.Rows list) = list_by (λ row. list_by of_number row.items) list.now

-- fields as the members of an object
abbrev pub members_of : List Field → Members
members_of [] = no_members
members_of (field ∷ fields) = member field.name.now (of_part field.part) (members_of fields)

-- an object of these fields
abbrev pub of_fields : List Field → Data
of_fields fields = object (members_of fields)

-- the id and the keys of a new instance
abbrev pub of_keys : ℕ → List (List ℕ) → List ℕ → Data
of_keys id keys organiser =
    object (member (codes "id") (of_number id) (member (codes "keys") (list_by of_text keys) (member (codes "organiser") (of_text organiser) no_members)))
