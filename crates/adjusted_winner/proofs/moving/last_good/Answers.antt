use Rattle.std.proofs.Common.{arith, rules}
use Rattle.adjusted_winner.proofs.LastGoods.{MovingFacts, moves_last, moves_whole, some_next}
use Rattle.adjusted_winner.proofs.moving.last_good.Goals as goal

pub greater_points-greater-requires-clause-low : goal.greater_points-greater-requires-clause-low
greater_points-greater-requires-clause-low c =
    some_next c.next_good_law.ensures.some c.args.case.now c.args.player c.goods.last c.goods.rich c.goods.poor c.next_good-good.result c.requires.case c.requires.two c.goods.invariant.now c.next_good-good.ensures

pub lesser_points-lesser-requires-clause-low : goal.lesser_points-lesser-requires-clause-low
lesser_points-lesser-requires-clause-low c =
    some_next c.next_good_law.ensures.some c.args.case.now c.args.player c.goods.last c.goods.rich c.goods.poor c.next_good-good.result c.requires.case c.requires.two c.goods.invariant.now c.next_good-good.ensures

pub returns-then-rich-poor-clause-last : goal.returns-then-rich-poor-clause-last
returns-then-rich-poor-clause-last c =
    let some = some_next c.next_good_law.ensures.some c.args.case.now c.args.player c.goods.last c.goods.rich c.goods.poor c.next_good-good.result c.requires.case c.requires.two c.goods.invariant.now c.next_good-good.ensures in
    let facts : MovingFacts = record { richer = c.next_to_move_law.ensures.richer; moves = c.next_to_move_law.ensures.moves; greater = c.next_to_move_law.ensures.greater; lesser = c.next_to_move_law.ensures.lesser } in
    moves_last facts c.args.case.now c.args.player c.goods.last c.goods.rich c.goods.poor c.next_good-good.result c.goods.invariant.now c.next_good-good.ensures some (search rules)

pub goods-smaller : goal.goods-smaller
goods-smaller c =
    let some = some_next c.next_good_law.ensures.some c.args.case.now c.args.player c.goods.last c.goods.rich c.goods.poor c.next_good-good.result c.requires.case c.requires.two c.goods.invariant.now c.next_good-good.ensures in
    let greater = c.next_to_move_law.ensures.some c.args.case.now c.args.player c.next_good-good.result (c.next_good-good.ensures.may some).0 in
    let more = c.goods.invariant.now.more in
    search rules

pub goods-preserved : goal.goods-preserved
goods-preserved c =
    let some = some_next c.next_good_law.ensures.some c.args.case.now c.args.player c.goods.last c.goods.rich c.goods.poor c.next_good-good.result c.requires.case c.requires.two c.goods.invariant.now c.next_good-good.ensures in
    let facts : MovingFacts = record { richer = c.next_to_move_law.ensures.richer; moves = c.next_to_move_law.ensures.moves; greater = c.next_to_move_law.ensures.greater; lesser = c.next_to_move_law.ensures.lesser } in
    record {
      now = rw (c.greater_points-greater.ensures.value, c.lesser_points-lesser.ensures.value) (moves_whole facts c.args.case.now c.args.player c.goods.last c.goods.rich c.goods.poor c.next_good-good.result
          c.goods.invariant.now c.next_good-good.ensures some (omega (arith, c.if-rich-poor.false, c.greater_points-greater.ensures.value, c.lesser_points-lesser.ensures.value)));
      small = omega (arith, c.goods.invariant.small);
    }
