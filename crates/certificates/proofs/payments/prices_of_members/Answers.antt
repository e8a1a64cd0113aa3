use Rattle.std.proofs.Common.{◌-◌, ◌<◌, ◌+◌, List, All, length, get_or, map, arith, sym, ap, ◌∙◌, subst}
use Rattle.std.proofs.lemmas.List.{length_push}
use Rattle.std.proofs.lemmas.List.Elements.{All-push}
use Rattle.envy_check.specs.Envy.{IsAmount}
use Rattle.split_frac.specs.declared.frac.Frac.{Frac}
use Rattle.split_frac.specs.Frac.{fraction_of}
use Rattle.certificates.proofs.MemberPrices.{price_more}
use Rattle.certificates.proofs.payments.prices_of_members.Goals as goal

pub loop-room-preserved : goal.loop-room-preserved
loop-room-preserved c =
    let rooms = c.args.rooms.now in
    let prices = c.args.prices.now in
    let i = c.loop-room.room-index in
    let price = c.index-prices-room.result in
    let amounts = c.loop-room.amounts.items in
    let here = c.requires.rooms i 0 c.loop-room-test.true in
    let within : get_or rooms i 0 - 1 < length prices = omega (arith, here.0, here.1) in
    record {
      count = ap length c.push.ensures.items ∙ length_push amounts price ∙ ap (λ n. n + 1) c.loop-room.invariant.count;
      so_far = ap (map fraction_of) c.push.ensures.items ∙ price_more prices rooms i amounts price c.loop-room-test.true c.requires.rooms c.index-prices-room.is c.loop-room.invariant.so_far;
      amounts = subst (λ (xs : List Frac). All IsAmount xs) (sym c.push.ensures.items)
          (All-push IsAmount amounts price c.loop-room.invariant.amounts (subst IsAmount (sym c.index-prices-room.is) (c.requires.amounts (get_or rooms i 0 - 1) price within)));
    }
