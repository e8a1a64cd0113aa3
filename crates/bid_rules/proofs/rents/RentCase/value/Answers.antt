use Rattle.std.proofs.Common.{arith, ◌≡◌, pos, ◌-◌, get_or}
use Rattle.std.proofs.lemmas.Int.{ints}
use Rattle.std.proofs.lemmas.Grind.{common_steps}
use Rattle.bid_rules.specs.Rent.{value}
use Rattle.bid_rules.proofs.RentValues.{value_rent}
use Rattle.bid_rules.proofs.rents.RentCase.value.Goals as goal

-- the number read is the value
same : (c : goal.After-shared_slice_known-1) → pos (get_or c.deref-2.result.now (c.args.room - 1) 0) ≡ value c.args.self.now (c.args.member - 1) c.args.room
unfolding value
same c = grind (arith, ints, common_steps)

pub returns-clause-value : goal.returns-clause-value
returns-clause-value c = same c

pub returns-clause-small : goal.returns-clause-small
returns-clause-small c =
    let e = same c in
    let low = c.requires.member_low in
    let high = c.requires.member_high in
    let h = value_rent c.args.self.now (c.args.member - 1) c.args.room c.requires.case (omega (arith, low, high)) in
    let rent = c.requires.case.facts.1 in
    omega (arith, ints, e, h, rent)
