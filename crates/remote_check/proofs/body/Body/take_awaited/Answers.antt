use Rattle.std.proofs.Common.{◌≢◌, ◌≤◌, length, arith, length-take-le}
use Rattle.std.proofs.lemmas.Bool.Decides.{nat_tests}
use Rattle.remote_check.proofs.BodyLemmas.{awaited_due}
use Rattle.remote_check.proofs.body.Body.take_awaited.Goals as goal

pub returns-in-Ok-clause-bytes : goal.returns-in-Ok-clause-bytes
returns-in-Ok-clause-bytes g c =
    let read = c.in-Ok.ensures.bytes in
    let some : c.in-Ok.read ≢ 0 = λ none. grind (arith, nat_tests, none, c.in-Ok.read-test) in
    let size : length c.read.new.into ≤ c.args.count = omega (arith, c.read.auto.into, c.min-room.ensures, length-take-le c.min-room.result c.args.into.now (omega (arith, c.min-room.ensures))) in
    awaited_due _ c.args.count c.in-Ok.read c.read.new.into _ _ _ c.requires.due some read.0 size read.1
