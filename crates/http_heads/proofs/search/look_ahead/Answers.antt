use Rattle.std.proofs.Common.{◌≡◌, ◌+◌, ◌<◌, length, arith, subst}
use Rattle.http_heads.specs.declared.limits.TheConstants.{MAX_HEAD}
use Rattle.http_heads.specs.Search.{NeverHasOne}
use Rattle.http_heads.proofs.SearchLemmas.{bad_never, bad_never_left, bad_full_left}
use Rattle.http_heads.proofs.search.look_ahead.Goals as goal

pub returns-in-Never-clause-ahead : goal.returns-in-Never-clause-ahead
returns-in-Never-clause-ahead g c =
    let some : 0 < length c.args.carry.now = omega (arith, c.len.ensures.value, c.if-len-gt0.true) in
    bad_never _ _ some (subst (NeverHasOne g.K.HeadKind.IsText) c.as_slice.ensures.bytes c.in-Never.ensures)

pub returns-in-Never-find_head-clause-ahead : goal.returns-in-Never-find_head-clause-ahead
returns-in-Never-find_head-clause-ahead g c =
    let grew : length c.fill.new.self ≡ length c.loop-room.carry + c.in-Ok.field-0 = c.in-Ok.ensures.more in
    let more : 0 < c.in-Ok.field-0 = omega (arith, c.in-Ok.field-0-test) in
    let some : 0 < length c.fill.new.self = omega arith in
    bad_never _ _ some (subst (NeverHasOne g.K.HeadKind.IsText) c.as_slice-in-loop-room.ensures.bytes c.in-Never-find_head.ensures)

pub returns-in-Never-find_head-clause-says : goal.returns-in-Never-find_head-clause-says
returns-in-Never-find_head-clause-says g c =
    let grew : length c.fill.new.self ≡ length c.loop-room.carry + c.in-Ok.field-0 = c.in-Ok.ensures.more in
    let more : 0 < c.in-Ok.field-0 = omega (arith, c.in-Ok.field-0-test) in
    let some : 0 < length c.fill.new.self = omega arith in
    bad_never_left _ _ _ some (subst (NeverHasOne g.K.HeadKind.IsText) c.as_slice-in-loop-room.ensures.bytes c.in-Never-find_head.ensures)

pub returns-clause-says : goal.returns-clause-says
returns-clause-says g c =
    let size : length c.loop-room.carry ≡ MAX_HEAD = omega (arith, c.loop-room.invariant.room, c.loop-room-test.false) in
    bad_full_left _ _ _ size (c.loop-room.invariant.none (omega arith))
