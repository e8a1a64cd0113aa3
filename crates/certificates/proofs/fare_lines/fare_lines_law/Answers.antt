use Rattle.certificates.proofs.FareCosts.{SetFacts}
use Rattle.certificates.proofs.FarePasses.{MembersFacts, RouteFacts, fares_pass, printed_is}
use Rattle.certificates.proofs.fare_lines.fare_lines_law.Goals as goal

pub returns-clause-case : goal.returns-clause-case
returns-clause-case c = printed_is

pub returns-clause-passes : goal.returns-clause-passes
returns-clause-passes c case division valid is =
    let sets : SetFacts = record {
      listed = c.starts_law.ensures.listed;
      within = c.coalition_law.ensures.within;
      number = c.without_rider_law.ensures.number;
      apart = c.without_rider_law.ensures.apart;
      none = c.route_set_law.ensures.none;
      recurrence = c.route_set_law.ensures.recurrence;
    } in
    let routes : RouteFacts = record { listed = c.orders_law.ensures.listed; only = c.lowest_route_law.ensures.only } in
    let apart : MembersFacts = record { routes = c.members_law.ensures.routes; best = c.members_law.ensures.best } in
    fares_pass sets routes apart case division valid is
