use Rattle.std.proofs.Common.{arith}
use Rattle.goods_audit.proofs.RoomTests.{no_room_top, room_is}
use Rattle.goods_audit.proofs.walk.has_room.Goals as goal

pub returns-then-lanes-whole : goal.returns-then-lanes-whole
returns-then-lanes-whole c owners prefix whole long lanes =
    no_room_top c.search_order_law.ensures.length c.args.case.now owners prefix c.args.whole.now c.args.lanes.now long whole lanes (let t = c.if-lanes-whole.true in omega (arith, t))

pub returns : goal.returns
returns c owners prefix whole long lanes =
    room_is c.search_order_law.ensures.length c.args.case.now owners prefix c.args.whole.now c.args.lanes.now c.may_all_have.result c.requires.few long whole lanes (let t = c.if-lanes-whole.false in omega (arith, t))
    c.may_all_have.ensures.each c.may_all_have.ensures.some
