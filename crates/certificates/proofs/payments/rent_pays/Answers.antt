use Rattle.std.proofs.Common.{◌≡◌, List, All, map, pos, arith, sym, ap, ◌∙◌, subst, to_z, of_z, w64}
use Rattle.std.proofs.lemmas.Int.{ints}
use Rattle.bid_rules.specs.Cents.{cent_plan}
use Rattle.bid_rules.specs.Fractions.{IsQuotient, sum_of_fractions}
use Rattle.envy_check.specs.Envy.{IsAmount}
use Rattle.split_frac.specs.declared.frac.Frac.{Frac}
use Rattle.split_frac.specs.Frac.{fraction_of}
use Rattle.certificates.proofs.MemberPrices.{price_amounts, prices_listed, rooms_within}
use Rattle.certificates.proofs.payments.rent_pays.Goals as goal

pub prices_of_members-amounts-requires-clause-rooms : goal.prices_of_members-amounts-requires-clause-rooms
prices_of_members-amounts-requires-clause-rooms c =
    rooms_within c.args.case.now c.args.division.now c.as_slice-rooms.result.now c.as_slice-prices.result.now c.requires.division c.as_slice-rooms.ensures.value c.as_slice-prices.ensures.value

pub prices_of_members-amounts-requires-clause-amounts : goal.prices_of_members-amounts-requires-clause-amounts
prices_of_members-amounts-requires-clause-amounts c =
    let within = c.division_range_law.ensures.prices c.args.case.now c.args.division.now c.requires.case c.requires.division in
    subst (λ (xs : List Frac). All IsAmount xs) (sym c.as_slice-prices.ensures.value) (price_amounts c.args.division.now.prices.items within)

pub cent_plan-requires-clause-sum : goal.cent_plan-requires-clause-sum
cent_plan-requires-clause-sum c =
    let division = c.args.division.now in
    let case = c.args.case.now in
    let whole : to_z w64 (of_z w64 c.from.result) ≡ pos case.facts.rent = omega (arith, ints) in
    let listed = ap (λ (xs : List Frac). map fraction_of xs) c.as_slice.ensures.value
    ∙ prices_listed division c.as_slice-rooms.result.now c.as_slice-prices.result.now c.prices_of_members-amounts.result.items c.as_slice-rooms.ensures.value c.as_slice-prices.ensures.value c.prices_of_members-amounts.ensures.prices in
    let sum = c.best_rent_law.ensures.by_member case division.best.rooms.items (map fraction_of division.prices.items) c.requires.division.best in
    subst (λ z. IsQuotient (sum_of_fractions (map fraction_of c.as_slice.result.now)) z 1) (sym whole) (subst (λ fs. IsQuotient (sum_of_fractions fs) (pos case.facts.rent) 1) (sym listed) sum)

pub returns : goal.returns
returns c =
    let division = c.args.division.now in
    let case = c.args.case.now in
    let whole : to_z w64 (of_z w64 c.from.result) ≡ pos case.facts.rent = omega (arith, ints) in
    let listed = ap (λ (xs : List Frac). map fraction_of xs) c.as_slice.ensures.value
    ∙ prices_listed division c.as_slice-rooms.result.now c.as_slice-prices.result.now c.prices_of_members-amounts.result.items c.as_slice-rooms.ensures.value c.as_slice-prices.ensures.value c.prices_of_members-amounts.ensures.prices in
    c.cent_plan.ensures.plan ∙ ap (λ fs. cent_plan fs (to_z w64 (of_z w64 c.from.result))) listed ∙ ap (cent_plan _) whole
