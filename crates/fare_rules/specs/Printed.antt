-- The case and the route that a certificate of fares prints.
use Rattle.std.specs.Prelude.{ℕ, List, map, unsigned_abs}
use Rattle.bid_rules.specs.declared.cases.FareCase.{FareCase}
use Rattle.bid_rules.specs.declared.limits.TheConstants.{MOST_RIDERS}
use Rattle.cert_reader.specs.Layout.{FaresView}

-- the case that a certificate of fares prints, each number without its sign. A text does not say how many members there are, so there are as many as there may
-- be
abbrev pub printed_case : FaresView → FareCase
printed_case view = record {
  facts = record { members = MOST_RIDERS; places = view.places; flag = unsigned_abs view.flag; legs = record { items = map (λ row. record { items = map unsigned_abs row }) view.legs } };
  who = record { items = map unsigned_abs view.who };
  at = record { items = map unsigned_abs view.at };
}

-- the route that a certificate of fares prints, without signs
abbrev pub printed_route : FaresView → List ℕ
printed_route view = map unsigned_abs view.route
