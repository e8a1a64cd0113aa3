use Rattle.std.proofs.Common.{arith, pos, ◌≡◌, ◌+◌, ◌∙◌, ap, length, map}
use Rattle.std.proofs.lemmas.List.{length_push, length-map}
use Rattle.bid_rules.specs.Rent.{room_count}
use Rattle.rent_maximin.specs.Prices.{IsPriceAt}
use Rattle.split_lemmas.proofs.ListPlaces.{push_at}
use Rattle.rent_maximin.proofs.PriceLaws.{prices_are}
use Rattle.split_frac.specs.Frac.{fraction_of}
use Rattle.rent_maximin.proofs.prices.prices_of.Goals as goal

pub loop-room-preserved : goal.loop-room-preserved
loop-room-preserved c =
    let pushed = c.push.ensures.items in
    let d = c.loop-room.invariant in
    record {
      count = ap length pushed ∙ length_push c.loop-room.prices.items c.price_of.result ∙ ap (λ n. n + 1) d.count;
      each = rw pushed (push_at fraction_of (pos 0, 1) (IsPriceAt c.args.case.now c.args.rooms.now c.args.walks.now) c.loop-room.room c.loop-room.prices.items c.price_of.result d.count d.each c.price_of.ensures);
    }

pub returns : goal.returns
returns c =
    let end : c.loop-room.room ≡ room_count c.args.case.now = (let few = c.loop-room.auto.room-end in omega (arith, c.loop-room-test.false)) in
    let d = c.loop-room.invariant in
    prices_are c.args.case.now c.args.rooms.now c.args.walks.now (map fraction_of c.loop-room.prices.items) c.requires.walks.assignment
    (length-map c.loop-room.prices.items fraction_of ∙ d.count ∙ end) (λ place l. d.each place (omega (arith, end)))
