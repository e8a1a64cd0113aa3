-- Two shared fares that are small enough to work out by hand, for a law that applies the definitions of the best division to them.
use Rattle.std.specs.Prelude.{[], ◌∷◌}
use Rattle.bid_rules.specs.declared.cases.FareCase.{FareCase}

-- two riders to two places: 10.00 and 15.00 from the origin, 7.00 from the first place to the second, 9.00 back, and a flag fall of 3.00
abbrev pub two_places : FareCase
two_places = record {
  facts = record { members = 2; places = 2; flag = 300; legs = record { items = (record { items = 1000 ∷ 1500 ∷ [] }) ∷ (record { items = 0 ∷ 700 ∷ [] }) ∷ (record { items = 900 ∷ 0 ∷ [] }) ∷ [] } };
  who = record { items = 1 ∷ 2 ∷ [] };
  at = record { items = 1 ∷ 2 ∷ [] };
}

-- two riders to one place: 10.00 from the origin, and a flag fall of 3.00
abbrev pub one_place : FareCase
one_place = record {
  facts = record { members = 2; places = 1; flag = 300; legs = record { items = (record { items = 1000 ∷ [] }) ∷ (record { items = 0 ∷ [] }) ∷ [] } };
  who = record { items = 1 ∷ 2 ∷ [] };
  at = record { items = 1 ∷ 1 ∷ [] };
}
