-- What a text on a case calls by name.
use Rattle.std.specs.Prelude.{ℕ, List, map}
use Rattle.split_json.specs.Reading.{CaseData}
use Rattle.split_reports.specs.declared.names.Names.{Names}

-- the title of a case, and the names of its members and of what is divided, as lists of bytes
pub record NamesData : Type 0 where
  pub title : List ℕ
  pub members : List (List ℕ)
  pub items : List (List ℕ)

-- the title and the names as lists of bytes
abbrev pub shown_names : Names → NamesData
shown_names names = record {
  title = names.title.now.bytes;
  members = map (λ text. text.bytes) names.members.now.items;
  items = map (λ text. text.bytes) names.items.now.items;
}

-- the title and the names of a case
abbrev pub names_of : CaseData → NamesData
names_of given = record { title = given.title; members = given.members; items = given.items }
