use Rattle.std.proofs.Common.{arith, rules, ◌≡◌, ◌∙◌, ◌↔◌, pos, ◌-◌, get_or, map, subst, ap, sym, FitsSigned, IsTrue, length, ◌<◌}
use Rattle.std.specs.Int.{w128}
use Rattle.std.proofs.lemmas.Int.{to_z-of_z}
use Rattle.std.proofs.lemmas.List.{get_or-map}
use Rattle.bid_rules.specs.Fractions.{Fraction, IsQuotient}
use Rattle.bid_rules.specs.Maximin.{price_in_parts}
use Rattle.bid_rules.specs.Rent.{room_count}
use Rattle.split_frac.specs.Frac.{fraction_of}
use Rattle.rent_rules.proofs.prices.is_price.Goals as goal

pub returns : goal.returns
returns c =
    let fits : FitsSigned w128 c.part_of-part.result = search rules in
    let within : c.room_at.result - 1 < length c.args.prices.now = (let high = c.room_at.ensures.high in let low = c.room_at.ensures.low in let each = c.requires.each_price in omega arith) in
    let at : get_or (map fraction_of c.args.prices.now) (c.room_at.result - 1) (pos 0, 1) ≡ fraction_of c.index-prices-room_at.result =
    get_or-map fraction_of c.args.prices.now (c.room_at.result - 1) c.index-prices-room_at.result (pos 0, 1) within ∙ ap fraction_of (sym c.index-prices-room_at.is) in
    let first : IsTrue c.is_quotient.result ↔ IsQuotient (fraction_of c.index-prices-room_at.result) c.part_of-part.result (room_count c.args.case.now) = simp to_z-of_z at c.is_quotient.ensures in
    subst (λ room. IsTrue c.is_quotient.result ↔ IsQuotient (get_or (map fraction_of c.args.prices.now) (room - 1) (pos 0, 1)) (price_in_parts c.args.case.now c.args.rooms.now c.args.walks.now c.args.member) (room_count c.args.case.now)) c.room_at.ensures.value
    (subst (λ (fraction : Fraction). IsTrue c.is_quotient.result ↔ IsQuotient fraction (price_in_parts c.args.case.now c.args.rooms.now c.args.walks.now c.args.member) (room_count c.args.case.now)) (sym at)
    (subst (λ whole. IsTrue c.is_quotient.result ↔ IsQuotient (fraction_of c.index-prices-room_at.result) whole (room_count c.args.case.now)) c.part_of-part.ensures.value first))
