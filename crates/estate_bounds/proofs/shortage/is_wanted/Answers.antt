use Rattle.std.proofs.Common.{nat_lt}
use Rattle.bid_rules.specs.Goods.{points}
use Rattle.estate_bounds.specs.Counts.{is_wanted}
use Rattle.estate_bounds.proofs.ListSteps.{any_here, any_later, any_none}
use Rattle.estate_bounds.proofs.Rows.{wants, wants_not}
use Rattle.estate_bounds.proofs.shortage.is_wanted.Goals as goal

pub returns-then-points-from-gt0 : goal.returns-then-points-from-gt0
returns-then-points-from-gt0 c good row =
    any_here (λ player. nat_lt 0 (points c.args.case.now player good)) c.args.players.now c.loop-player.player-index (is_wanted c.args.case.now c.args.players.now good) c.loop-player-test.true
    (wants c.args.case.now good c.args.row.now _ c.args.players.now c.loop-player.player-index c.from.result row c.as_array-points.ensures c.requires.named c.requires.few c.loop-player-test.true c.from.ensures c.if-points-from-gt0.true)
    (c.loop-player.invariant good row)

pub loop-player-preserved : goal.loop-player-preserved
loop-player-preserved c = λ good row.
    any_later (λ player. nat_lt 0 (points c.args.case.now player good)) c.args.players.now c.loop-player.player-index (is_wanted c.args.case.now c.args.players.now good) c.loop-player-test.true
    (wants_not c.args.case.now good c.args.row.now _ c.args.players.now c.loop-player.player-index c.from.result row c.as_array-points.ensures c.requires.named c.requires.few c.loop-player-test.true c.from.ensures c.if-points-from-gt0.false)
    (c.loop-player.invariant good row)

pub returns : goal.returns
returns c good row =
    any_none (λ player. nat_lt 0 (points c.args.case.now player good)) c.args.players.now c.loop-player.player-index (is_wanted c.args.case.now c.args.players.now good) c.loop-player-test.false
    (c.loop-player.invariant good row)
