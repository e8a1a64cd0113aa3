-- The case and the rooms that a certificate of a rent prints.
use Rattle.std.specs.Prelude.{ℕ, List, length, map, unsigned_abs}
use Rattle.bid_rules.specs.declared.rents.RentCase.{RentCase}
use Rattle.cert_reader.specs.Layout.{RentView}

-- the case that a certificate of a rent prints: as many members as rooms, the rent and the values, each without its sign
abbrev pub printed_case : RentView → RentCase
printed_case view = record {
  facts = record { members = length view.rooms; rent = unsigned_abs view.rent };
  values = record { items = map (λ row. record { items = map unsigned_abs row }) view.values };
}

-- the room of each member that a certificate of a rent prints, without its sign
abbrev pub printed_rooms : RentView → List ℕ
printed_rooms view = map unsigned_abs view.rooms
