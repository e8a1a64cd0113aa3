use Rattle.std.proofs.Common.{rules, ◌≡◌, sym, subst}
use Rattle.bid_rules.specs.declared.cases.FareCase.{FareCase}
use Rattle.bid_rules.specs.Facts.{IsValidFareCase, fare_case}
use Rattle.bid_rules.proofs.Bidders.{valid_fares}
use Rattle.bid_rules.proofs.cases.make_fare_case.Goals as goal

pub returns-clause-valid : goal.returns-clause-valid
returns-clause-valid c =
    let case : FareCase = record { facts = c.copied.result; who = c.members_with.result; at = c.places_of.result } in
    let is : case ≡ fare_case c.args.fares.now c.args.bids.now = search rules in
    subst IsValidFareCase (sym is) (valid_fares c.args.fares.now c.args.bids.now c.requires.fares c.requires.count c.requires.bids c.requires.some)
