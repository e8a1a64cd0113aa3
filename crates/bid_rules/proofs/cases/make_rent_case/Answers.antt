use Rattle.std.proofs.Common.{rules, ◌≡◌, sym, subst}
use Rattle.bid_rules.specs.declared.rents.RentCase.{RentCase}
use Rattle.bid_rules.specs.Facts.{rent_case}
use Rattle.bid_rules.specs.Rent.{IsValidRentCase}
use Rattle.bid_rules.proofs.GivenValues.{valid_rent}
use Rattle.bid_rules.proofs.cases.make_rent_case.Goals as goal

pub returns-clause-valid : goal.returns-clause-valid
returns-clause-valid c =
    let case : RentCase = record { facts = record { members = c.args.rent.now.members; rent = c.args.rent.now.rent }; values = c.values_of.result } in
    let is : case ≡ rent_case c.args.rent.now c.args.bids.now = search rules in
    subst IsValidRentCase (sym is) (valid_rent c.args.rent.now c.args.bids.now c.requires.rent c.requires.count c.requires.bids c.requires.all)
