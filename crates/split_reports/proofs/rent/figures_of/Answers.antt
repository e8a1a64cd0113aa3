use Rattle.std.proofs.Common.{◌≡◌, ◌≤◌, ℕ, List, All, length, map, refl, sym, ap, ◌∙◌, subst}
use Rattle.std.proofs.lemmas.Simd.{map-map}
use Rattle.bid_rules.specs.Fractions.{Fraction}
use Rattle.bid_rules.specs.Rent.{room_count}
use Rattle.split_lemmas.proofs.RoomPlaces.{rooms_length}
use Rattle.envy_check.specs.Envy.{ArePrices, IsEnvyTable, rows_of}
use Rattle.split_frac.specs.declared.frac.Frac.{Frac}
use Rattle.split_frac.specs.Frac.{fraction_of}
use Rattle.split_reports.specs.Rent.{AreUtilities}
use Rattle.split_reports.proofs.RentFigures.{best_prices, best_rooms}
use Rattle.split_reports.proofs.rent.figures_of.Goals as goal

pub utilities_of-requires-clause-count : goal.utilities_of-requires-clause-count
utilities_of-requires-clause-count c = ap length c.as_slice-rooms.ensures.value ∙ rooms_length (room_count c.args.case.now) c.args.division.now.best.rooms.items c.requires.division.best.priced.assignment

pub utilities_of-requires-clause-rooms : goal.utilities_of-requires-clause-rooms
utilities_of-requires-clause-rooms c =
    subst (λ (xs : List ℕ). All (λ room. (1 ≤ room) × (room ≤ room_count c.args.case.now)) xs) (sym c.as_slice-rooms.ensures.value)
    (best_rooms c.args.case.now c.args.division.now.best.rooms.items (map fraction_of c.args.division.now.prices.items) c.requires.division.best)

pub utilities_of-requires-clause-prices : goal.utilities_of-requires-clause-prices
utilities_of-requires-clause-prices c =
    let within = c.division_range_law.ensures.prices c.args.case.now c.args.division.now c.requires.case c.requires.division in
    subst (ArePrices c.args.case.now) (sym c.as_slice-prices.ensures.value) (best_prices c.args.case.now c.args.division.now c.requires.case c.requires.division within)

pub envy_table-requires-clause-prices : goal.envy_table-requires-clause-prices
envy_table-requires-clause-prices c =
    let within = c.division_range_law.ensures.prices c.args.case.now c.args.division.now c.requires.case c.requires.division in
    subst (ArePrices c.args.case.now) (sym c.as_slice-prices.ensures.value) (best_prices c.args.case.now c.args.division.now c.requires.case c.requires.division within)

pub returns : goal.returns
returns c =
    let division = c.args.division.now in
    let case = c.args.case.now in
    let rooms = c.as_slice-rooms.ensures.value in
    let prices = c.as_slice-prices.ensures.value in
    let entries : List (List Fraction) = map (map fraction_of) (map (λ row. row.items) c.envy_table.result.items) in
    let table : rows_of c.envy_table.result ≡ map (map fraction_of) (map (λ row. row.items) c.envy_table.result.items) = sym (map-map _ _ c.envy_table.result.items) in
    record {
      rooms = refl;
      prices = refl;
      least = refl;
      pays = c.rent_pays.ensures;
      utilities = subst (λ (xs : List ℕ). AreUtilities case xs (map fraction_of division.prices.items) (map fraction_of c.utilities_of.result.items)) rooms
          (subst (λ (xs : List Frac). AreUtilities case c.as_slice-rooms.result.now (map fraction_of xs) (map fraction_of c.utilities_of.result.items)) prices c.utilities_of.ensures);
      envy = subst (λ (xs : List ℕ). IsEnvyTable case xs (map fraction_of division.prices.items) entries) rooms
          (subst (λ (xs : List Frac). IsEnvyTable case c.as_slice-rooms.result.now (map fraction_of xs) entries) prices (subst (IsEnvyTable case c.as_slice-rooms.result.now (map fraction_of c.as_slice-prices.result.now)) table c.envy_table.ensures));
    }
