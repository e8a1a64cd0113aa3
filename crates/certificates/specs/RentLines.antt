-- What the canonical certificate of a rent says: the case, the solver's rooms and prices, and the numbers that show that these are the best.
use Rattle.std.specs.Prelude.{pos, map}
use Rattle.bid_rules.specs.declared.rents.RentCase.{RentCase}
use Rattle.rent_maximin.specs.declared.division.RentDivision.{RentDivision}
use Rattle.cert_reader.specs.Layout.{RentView}
use Rattle.split_frac.specs.Frac.{fraction_of}

-- what the canonical certificate of a rent says for the solver's division: `left` are the longest walks over the keys and `right` goes with them, `walks` are
-- the longest walks over the values, and `ranks` the fewest steps of such walks
abbrev pub canonical_rent : RentCase → RentDivision → RentView
canonical_rent case division = record {
  rent = pos case.facts.rent;
  values = map (λ row. map pos row.items) case.values.items;
  rooms = map pos division.best.rooms.items;
  left = division.best.left.items;
  right = division.best.right.items;
  walks = division.walks.weights.items;
  ranks = map pos division.walks.ranks.items;
  prices = map fraction_of division.prices.items;
}
