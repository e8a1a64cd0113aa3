use Rattle.std.proofs.Common.{ℕ, ℤ, List, refl, subst, inl}
use Rattle.bid_rules.specs.declared.rents.RentCase.{RentCase}
use Rattle.fair_solver.specs.Numbers.{IsRentInNumbers}
use Rattle.number_cases.specs.Handing.{IsGiven}
use Rattle.fair_solver.proofs.fair_rent_rooms.Goals as goal

pub returns-in-Ok : goal.returns-in-Ok
returns-in-Ok c =
    let are = c.in-Ok.ensures in
    let own = c.rent_numbers-division.result.own.items in
    let over = c.rent_numbers-division.result.exact.numerators.items in
    let under = c.rent_numbers-division.result.exact.denominators.items in
    let plan = c.rent_numbers-division.result.pays.items in
    let is = subst (λ (case : RentCase). IsRentInNumbers case own over under plan) are.1 c.rent_numbers-division.ensures in
    let owned = subst (λ (xs : List ℕ). IsGiven xs c.args.rooms.now c.give.new.list) c.as_slice.ensures.value c.give.ensures in
    let above = subst (λ (xs : List ℤ). IsGiven xs c.args.numerators.now c.give-in-Ok.new.list) c.as_slice-in-Ok.ensures.value c.give-in-Ok.ensures in
    let below = subst (λ (xs : List ℕ). IsGiven xs c.args.denominators.now c.give-in-Ok-2.new.list) c.as_slice-in-Ok-2.ensures.value c.give-in-Ok-2.ensures in
    let paid = subst (λ (xs : List ℤ). IsGiven xs c.args.pays.now c.give-in-Ok-3.new.list) c.as_slice-in-Ok-3.ensures.value c.give-in-Ok-3.ensures in
    inl (refl, are.0, refl, (own, over, under, plan, is, c.len.ensures.value, owned, above, below, paid))
