-- What the lines of a rent ask of the division.
use Rattle.std.proofs.Common.{◌≡◌, ℕ, ◌*◌, ◌≤◌, List, All, length, map, arith, sym, ap, subst, ◌∙◌}
use Rattle.std.specs.Prelude.{unsigned_abs}
use Rattle.std.proofs.lemmas.List.{get_or_default, length-map}
use Rattle.std.proofs.lemmas.List.Elements.{All-weaker}
use Rattle.std.proofs.lemmas.List.FromFn.{length-map-range_with_len}
use Rattle.bid_rules.specs.declared.limits.TheConstants.{MOST_AMOUNT}
use Rattle.split_frac.specs.Frac.{IsWithinLimits, fraction_of}
use Rattle.bid_rules.specs.declared.rents.RentCase.{RentCase}
use Rattle.bid_rules.specs.Fractions.{Fraction}
use Rattle.bid_rules.specs.Rent.{IsValidRentCase, RentBest, room_count}
use Rattle.split_lemmas.proofs.RoomPlaces.{room_range, rooms_length}
use Rattle.envy_check.specs.Envy.{ArePrices}
use Rattle.rent_maximin.specs.Division.{IsRentDivision}
use Rattle.rent_maximin.specs.declared.division.RentDivision.{RentDivision}
use Rattle.split_reports.specs.Names.{NamesData}
use Rattle.split_reports.specs.Rent.{AreFigures, AreFiguresOf, RentTold}

-- a number of a room
abbrev IsRoom : ℕ → ℕ → Type 0
IsRoom n room = (1 ≤ room) × (room ≤ n)

-- the rooms of the best division are numbers of rooms
pub best_rooms : (case : RentCase) (rooms : List ℕ) (prices : List Fraction) → RentBest case rooms prices → All (IsRoom (room_count case)) rooms
best_rooms case rooms prices best = λ i d l.
    let long = rooms_length (room_count case) rooms best.priced.assignment in
    subst (IsRoom (room_count case)) (get_or_default rooms i 0 d l) (room_range (room_count case) rooms i best.priced.assignment (omega (arith, l, long)))

-- how many prices there are
pub price_count : (case : RentCase) (division : RentDivision) → IsRentDivision case division → length division.prices.items ≡ room_count case
price_count case division is = sym (length-map division.prices.items fraction_of) ∙ is.prices.count

-- the prices are ones of which there is an envy table
pub best_prices : (case : RentCase) (division : RentDivision) → IsValidRentCase case → IsRentDivision case division
    → All (λ price. IsWithinLimits price × (unsigned_abs price.num ≤ MOST_AMOUNT * price.den)) division.prices.items → ArePrices case division.prices.items
best_prices case division valid is within = record {
  each = price_count case division is;
  within = All-weaker (λ price. IsWithinLimits price × (unsigned_abs price.num ≤ MOST_AMOUNT * price.den)) (λ price. unsigned_abs price.num ≤ MOST_AMOUNT * price.den) (λ price h. h.1) division.prices.items within;
  common = record { whole = room_count case; some = omega (arith, valid.facts.0.0); small = omega (arith, valid.facts.0.1); divides = is.price_parts };
}

-- there is a figure of each kind for each member
pub figures_each : (given : NamesData) (case : RentCase) (division : RentDivision) (told : RentTold) → length given.members ≡ room_count case → length given.items ≡ room_count case
    → IsRentDivision case division → AreFiguresOf case division told → AreFigures given told
figures_each given case division told members items is are =
    let n = room_count case in
    let long = rooms_length n division.best.rooms.items is.best.priced.assignment in
    let rooms : length told.rooms ≡ n = ap length are.rooms ∙ long in
    let rows : All (IsRoom (length given.members)) told.rooms = subst (λ (xs : List ℕ). All (IsRoom (length given.members)) xs) (sym are.rooms) (subst (λ m. All (IsRoom m) division.best.rooms.items) (sym members) (best_rooms case division.best.rooms.items (map fraction_of division.prices.items) is.best)) in
    let plan : length told.pays ≡ length told.rooms = ap length are.pays ∙ length-map-range_with_len _ 0 _ ∙ length-map told.rooms _ in
    let utilities : length told.utilities ≡ n = sym (length-map told.utilities fraction_of) ∙ are.utilities.count in
    let envy : length told.envy ≡ n = sym (length-map told.envy _) ∙ are.envy.members in
    record {
      rooms = rooms ∙ sym members;
      each = rows;
      prices = ap length are.prices ∙ price_count case division is ∙ sym members;
      names = items ∙ sym members;
      pays = plan ∙ rooms ∙ sym members;
      utilities = utilities ∙ sym members;
      envy = envy ∙ sym members;
    }
