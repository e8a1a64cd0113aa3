use Rattle.std.proofs.Common.{refl}
use Rattle.bid_rules.specs.Goods.{owners_by_good, pair_of}
use Rattle.certificates.specs.declared.division.Division.TheVariants.{Rent, Goods, Fares}
use Rattle.program_laws.proofs.SomeFares.{FareLaws, fare_division}
use Rattle.program_laws.proofs.SomeRents.{RentLaws, some_rent}
use Rattle.program_laws.proofs.divisions.some_best_law.Goals as goal

rent_laws : goal.After-walk_law → RentLaws
rent_laws c = record {
  values = record { low = c.rent_value_law.ensures.low; high = c.rent_value_law.ensures.high };
  room = c.assignment_law.ensures.room;
  holder = c.assignment_law.ensures.holder;
  one_holder = c.assignment_law.ensures.one_holder;
  welfare = c.key_law.ensures.welfare;
  shown = c.walk_law.ensures.shown;
  best = c.shown_rent_law.ensures.best;
  least = c.shown_rent_law.ensures.least;
  range = c.shown_rent_law.ensures.range;
  total = c.best_rent_law.ensures.total;
  price_range = c.price_range_law.ensures.best;
  quotient = c.quotient_law.ensures;
  divides = c.value_law.ensures.divides;
}

fare_laws : goal.After-walk_law → FareLaws
fare_laws c = record {
  attained = c.route_cost_law.ensures.attained;
  least = c.route_cost_law.ensures.least;
  total = c.best_fares_law.ensures.total;
  few = c.coalition_law.ensures.riders_count;
  whole = c.marginal_set_law.ensures.whole;
  small = c.marginal_set_law.ensures.small;
  quotient = c.quotient_law.ensures;
  divides = c.value_law.ensures.divides;
}

pub returns-clause-rent : goal.returns-clause-rent
returns-clause-rent c rent valid = let one = some_rent (rent_laws c) rent valid in (Rent one.0, one.1)

pub returns-clause-goods : goal.returns-clause-goods
returns-clause-goods c = c.serving_law.ensures.exists

pub returns-clause-within_limit : goal.returns-clause-within_limit
returns-clause-within_limit c goods steps valid has allowed =
    let best = c.serving_law.ensures.exists goods valid in
    let owners = c.owners_by_good_law.ensures.owned goods best.0 best.1.allocation in (
      Goods (record { owners = record { items = owners_by_good goods best.0 }; pair = pair_of goods best.0; steps = steps }),
      record { best = (best.0, best.1, refl, refl); each = owners.0; owned = owners.1; steps = has; allowed = allowed },
    )

pub returns-clause-fares : goal.returns-clause-fares
returns-clause-fares c fares valid = let one = fare_division (fare_laws c) fares valid in (Fares one.0, one.1)
