use Rattle.std.proofs.Common.{rules, arith, ◌≡◌, ℤ, ◌*◌, ◌≤◌, ◌+ℤ◌, ◌-ℤ◌, ◌*ℤ◌, ◌∙◌, ap, pos, get_or, sym, unsigned_abs, FitsSigned}
use Rattle.std.specs.Int.{w128}
use Rattle.std.proofs.lemmas.Int.{ints, to_z-of_z}
use Rattle.split_frac.specs.declared.limits.TheConstants.{MOST_NUMERATOR}
use Rattle.bid_rules.specs.declared.limits.TheConstants.{MOST_MEMBERS}
use Rattle.bid_rules.specs.Rent.{room_count, value}
use Rattle.room_assignment.specs.declared.limits.TheConstants.{MOST_STEP}
use Rattle.rent_maximin.proofs.prices.part_of.Goals as goal

-- the part is small
small : (worth least walk : ℤ) → unsigned_abs worth ≤ MOST_MEMBERS * MOST_MEMBERS * MOST_STEP → unsigned_abs walk ≤ MOST_MEMBERS * MOST_MEMBERS * MOST_STEP → unsigned_abs least ≤ 200 * MOST_STEP → unsigned_abs (worth -ℤ (least +ℤ walk)) ≤ MOST_NUMERATOR
small worth least walk a b d = omega (arith, ints)

-- and so is what is taken from the value
small_sum : (least walk : ℤ) → unsigned_abs walk ≤ MOST_MEMBERS * MOST_MEMBERS * MOST_STEP → unsigned_abs least ≤ 200 * MOST_STEP → FitsSigned w128 (least +ℤ walk)
small_sum least walk b d = omega (arith, ints)

-- the part of equal numbers
same_part : (worth least walk worth' least' walk' : ℤ) → worth ≡ worth' → least ≡ least' → walk ≡ walk' → worth -ℤ (least +ℤ walk) ≡ worth' -ℤ (least' +ℤ walk')
same_part worth least walk worth' least' walk' a b d = omega (arith, ints)

pub overflow_sub-result : goal.overflow_sub-result
overflow_sub-result c = let a = c.times.ensures.small in let b = c.times-2.ensures.small in let d = c.requires.least.small in omega (arith, ints)

pub returns-clause-small : goal.returns-clause-small
returns-clause-small c =
    let fits_worth : FitsSigned w128 c.times.result = search rules in
    let fits_walk : FitsSigned w128 c.times-2.result = search rules in
    let fits_least = c.ranges.least in
    let fits_sum = small_sum c.args.least c.times-2.result c.times-2.ensures.small c.requires.least.small in
    let is = small c.times.result c.args.least c.times-2.result c.times.ensures.small c.times-2.ensures.small c.requires.least.small in
    let fits : FitsSigned w128 (c.times.result -ℤ (c.args.least +ℤ c.times-2.result)) = omega (arith, ints, is) in
    simp to_z-of_z is

pub returns-clause-value : goal.returns-clause-value
returns-clause-value c =
    let n = room_count c.args.case.now in
    let m = c.holder-member.result in
    let fits_value : FitsSigned w128 c.value_of.result = search rules in
    let fits_read : FitsSigned w128 (get_or c.args.walks.now m (pos 0)) = search rules in
    let first = simp to_z-of_z at c.times.ensures.value in
    let second = simp to_z-of_z at c.times-2.ensures.value in
    let holds = c.holder-member.ensures.holds in
    let worth : c.times.result ≡ pos n *ℤ value c.args.case.now m (get_or c.args.rooms.now m 0) = first ∙ ap (λ z. pos n *ℤ z) (c.value_of.ensures.value ∙ ap (value c.args.case.now m) (sym holds)) in
    let fits_worth : FitsSigned w128 c.times.result = search rules in
    let fits_walk : FitsSigned w128 c.times-2.result = search rules in
    let fits_least = c.ranges.least in
    let fits_sum = small_sum c.args.least c.times-2.result c.times-2.ensures.small c.requires.least.small in
    let short = small c.times.result c.args.least c.times-2.result c.times.ensures.small c.times-2.ensures.small c.requires.least.small in
    let fits : FitsSigned w128 (c.times.result -ℤ (c.args.least +ℤ c.times-2.result)) = omega (arith, ints, short) in
    let is = same_part c.times.result c.args.least c.times-2.result _ _ _ worth c.requires.least.is second in
    (m, omega (arith, c.holder-member.ensures.within, c.requires.walks.rooms_count), holds, simp to_z-of_z is)
