-- The rows of a dump, as comma-separated values.
use Rattle.std.specs.Prelude.{ℕ, ◌+◌, List, [], ◌∷◌, ◌++◌, codes, count_by, decimal, if◌then◌else◌, is_some, length}
use Rattle.csv.specs.Writing.{default_writer, row_text}
use Rattle.bid_rules.specs.declared.bids.Facts.{Facts}
use Rattle.bid_rules.specs.declared.bids.Facts.TheVariants.{Rent, Goods, Fares}
use Rattle.sealed_core.specs.Host.{HostView, InstanceView}

-- the name of a kind
abbrev pub kind_name : Facts → List ℕ
kind_name (Rent rent) = codes "rent"
kind_name (Goods goods) = codes "goods"
kind_name (Fares fares) = codes "fares"

-- the names of the fields of a dump
abbrev pub header : List (List ℕ)
header = codes "id" ∷ codes "kind" ∷ codes "title" ∷ codes "members" ∷ codes "deadline" ∷ codes "closed" ∷ codes "bids" ∷ []

-- the fields of an instance in a dump, with the number of its members, its deadline in seconds since 1970, and how many members have a bid
abbrev pub fields : ℕ → InstanceView → List (List ℕ)
fields id i = decimal id ∷ kind_name i.creation.facts ∷ i.creation.title ∷ decimal (length i.creation.members) ∷ decimal i.creation.deadline
    ∷ (if i.closed then codes "yes" else codes "no") ∷ decimal (count_by is_some i.bids) ∷ []

-- the first line of a dump: the names of the fields
unfoldable pub header_line : List ℕ
header_line = row_text default_writer header

-- the line of an instance in a dump
unfoldable pub row_line : ℕ → InstanceView → List ℕ
row_line id i = row_text default_writer (fields id i)

-- a line for each instance, with ids that count from this one
unfoldable pub rows_from : ℕ → List InstanceView → List ℕ
rows_from id [] = []
rows_from id (i ∷ instances) = row_line id i ++ rows_from (id + 1) instances

-- the text of a dump: the names of the fields, and a line for each instance of the host in order of id
abbrev pub dump_text : HostView → List ℕ
dump_text h = header_line ++ rows_from 1 h.instances
