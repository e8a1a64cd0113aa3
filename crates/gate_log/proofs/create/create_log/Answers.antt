use Rattle.std.proofs.Common.{◌≡◌, ◌∙◌, [], ◌∷◌, length, arith, ap, length-append}
use Rattle.gate_log.specs.Records.{header}
use Rattle.gate_log.proofs.Crash.{length-header, fresh_bytes, fresh_stands}
use Rattle.gate_log.proofs.create.create_log.Goals as goal

pub returns-clause-bytes : goal.returns-clause-bytes
returns-clause-bytes g c honest =
    let none : length (g.D.Disk.seen c.size.new.self) ≡ 0 = omega (arith, ap length (c.in_ok-size.ensures.rests honest).same, c.in_ok-size.ensures.told (g.met.D.Disk.honest_tells c.args.disk.now honest)) in
    fresh_bytes c.args.secret.now (g.D.Disk.seen c.size.new.self) c.deref.result.now (g.D.Disk.seen c.write_synced.new.disk) none
    (c.deref.ensures.0 ∙ c.header_of.ensures) (c.in_ok-write_synced.ensures.written (c.in_ok-size.ensures.honest.0 honest))

pub returns-clause-stands : goal.returns-clause-stands
returns-clause-stands g c honest =
    let size : length c.args.secret.now ≡ 32 = omega arith in
    fresh_stands c.args.secret.now (g.D.Disk.seen c.write_synced.new.disk) size (returns-clause-bytes g c honest)

pub returns-clause-size : goal.returns-clause-size
returns-clause-size g c honest =
    let size : length c.args.secret.now ≡ 32 = omega arith in
    omega (arith, ap length (returns-clause-bytes g c honest), length-append (header 1 c.args.secret.now) (0 ∷ []), length-header 1 c.args.secret.now size)

pub returns-in_err-write_synced-clause-untouched : goal.returns-in_err-write_synced-clause-untouched
returns-in_err-write_synced-clause-untouched g c honest some =
    absurd (omega (arith, some, c.in_ok-size.ensures.told (g.met.D.Disk.honest_tells c.args.disk.now honest)))

pub returns-clause-untouched : goal.returns-clause-untouched
returns-clause-untouched g c honest some = absurd (omega (arith, some, c.in_ok-size.ensures.told (g.met.D.Disk.honest_tells c.args.disk.now honest)))

pub returns-in_err-write_synced-clause-still : goal.returns-in_err-write_synced-clause-still
returns-in_err-write_synced-clause-still g c tells some = absurd (omega (arith, some, c.in_ok-size.ensures.told tells))

pub returns-clause-still : goal.returns-clause-still
returns-clause-still g c tells some = absurd (omega (arith, some, c.in_ok-size.ensures.told tells))

pub returns-clause-empty : goal.returns-clause-empty
returns-clause-empty g c tells = omega (arith, c.in_ok-size.ensures.told tells)
