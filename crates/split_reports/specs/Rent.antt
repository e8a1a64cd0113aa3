-- The report of a rent: the text, and what it tells.
use Rattle.std.specs.Prelude.{◌≡◌, ◌<◌, ◌≤◌, ◌-◌, pos, ℕ, ℤ, List, [], ◌∷◌, ◌++◌, All, length, codes, map, slice_index_or}
use Rattle.std.specs.Fmt.{decimal, signed_decimal}
use Rattle.split_frac.specs.declared.frac.Frac.{Frac}
use Rattle.split_frac.specs.Frac.{frac_text, fraction_of}
use Rattle.bid_rules.specs.declared.rents.RentCase.{RentCase}
use Rattle.bid_rules.specs.Cents.{amount_at, cent_plan, prices_by_member}
use Rattle.bid_rules.specs.Fractions.{Fraction, IsQuotient}
use Rattle.bid_rules.specs.Rent.{HasParts, room_count, utility}
use Rattle.envy_check.specs.Envy.{IsEnvyTable}
use Rattle.rent_maximin.specs.declared.division.RentDivision.{RentDivision}
use Rattle.split_reports.specs.Parts.{lines_to, named_at, number_at, text_at}
use Rattle.split_reports.specs.Names.{NamesData}
use Rattle.split_reports.specs.Lines.{envy_line}
use Rattle.split_reports.specs.declared.rent.RentFigures.{RentFigures}
use Rattle.split_frac.specs.Texts.{line_of}

-- what the report of a rent tells beside the names and the rent: rooms, payments, utilities and envy by member, prices by room, and the least utility
pub record RentTold : Type 0 where
  pub rooms : List ℕ
  pub prices : List Frac
  pub pays : List ℤ
  pub utilities : List Frac
  pub least : Frac
  pub envy : List (List Frac)

-- what the figures for a rent say
abbrev pub figures_shown : RentFigures → RentTold
figures_shown figures = record {
  rooms = figures.division.now.best.rooms.items;
  prices = figures.division.now.prices.items;
  pays = figures.pays.items;
  utilities = figures.utilities.items;
  least = figures.division.now.least;
  envy = map (λ row. row.items) figures.envy.items;
}

-- there is a room, a name, a price, a payment, a utility and a row of the table of envy for each member
pub record AreFigures (given : NamesData) (told : RentTold) : Type 0 where
  pub rooms : length told.rooms ≡ length given.members
  pub each : All (λ room. (1 ≤ room) × (room ≤ length given.members)) told.rooms
  pub prices : length told.prices ≡ length given.members
  pub names : length given.items ≡ length given.members
  pub pays : length told.pays ≡ length given.members
  pub utilities : length told.utilities ≡ length given.members
  pub envy : length told.envy ≡ length given.members

-- the first lines of the report: the title, the number of members and the rent
abbrev pub rent_head : List ℕ → ℕ → ℕ → List ℕ
rent_head title members rent = line_of (codes "rent " ∷ title ∷ []) ++ line_of (codes "members " ∷ decimal members ∷ []) ++ line_of (codes "total " ∷ decimal rent ∷ [])

-- the line of a member: the room, the exact price, what the member pays, and the exact utility
abbrev pub member_line : NamesData → RentTold → ℕ → List ℕ
member_line given told member =
    let room = number_at told.rooms member in
    line_of (named_at given.members member ∷ codes ": room " ∷ named_at given.items room ∷ codes ", price " ∷ text_at (map frac_text told.prices) room
    ∷ codes ", pays " ∷ text_at (map signed_decimal told.pays) member ∷ codes ", utility " ∷ text_at (map frac_text told.utilities) member ∷ [])

-- the line of the least utility
abbrev pub least_line : Frac → List ℕ
least_line least = line_of (codes "least utility " ∷ frac_text least ∷ [])

-- the line of a member in the table of envy
abbrev pub member_envy : RentTold → ℕ → List ℕ
member_envy told member = envy_line member (map frac_text (slice_index_or told.envy (member - 1) []))

-- the report of a rent
abbrev pub rent_report : NamesData → ℕ → RentTold → List ℕ
rent_report given rent told =
    let members = length given.members in
    rent_head given.title members rent ++ lines_to members (member_line given told) ++ least_line told.least ++ lines_to members (member_envy told)

-- the utility of each member in the room assigned, in whatever parts of a cent the prices are whole
pub record AreUtilities (case : RentCase) (rooms : List ℕ) (prices utilities : List Fraction) : Type 0 where
  pub count : length utilities ≡ room_count case
  pub each : (member : ℕ) → member < room_count case → (k : ℕ) (parts : List ℤ) → 1 ≤ k → HasParts prices k parts → IsQuotient (amount_at utilities member) (utility case k rooms parts member) k

-- what is told of a division: its rooms, prices and least utility, what members pay by the cent plan of their prices, their utilities and the table
-- of envy
pub record AreFiguresOf (case : RentCase) (division : RentDivision) (told : RentTold) : Type 0 where
  pub rooms : told.rooms ≡ division.best.rooms.items
  pub prices : told.prices ≡ division.prices.items
  pub least : told.least ≡ division.least
  pub pays : told.pays ≡ cent_plan (prices_by_member told.rooms (map fraction_of told.prices)) (pos case.facts.rent)
  pub utilities : AreUtilities case told.rooms (map fraction_of told.prices) (map fraction_of told.utilities)
  pub envy : IsEnvyTable case told.rooms (map fraction_of told.prices) (map (map fraction_of) told.envy)

-- the text is the report of this division of a rent
abbrev pub IsRentReport : NamesData → RentCase → RentDivision → List ℕ → Type 0
IsRentReport given case division text = (told : RentTold) × AreFiguresOf case division told × (text ≡ rent_report given case.facts.rent told)
