use Rattle.std.proofs.Common.{◌≡◌, ◌<◌, min, length, drop, ap, arith, ◌∙◌, length-append, length-drop, length-take-le}
use Rattle.std.proofs.lemmas.Bool.Decides.{nat_tests}
use Rattle.std.proofs.lemmas.Grind.{common_steps}
use Rattle.remote_check.proofs.BodyLemmas.{held_read}
use Rattle.remote_check.proofs.ahead.AheadSource.read.Goals as goal

pub returns-clause-bytes : goal.returns-clause-bytes
returns-clause-bytes g c =
    let n = c.min-count.result in
    let held = c.args.self.now.held.now in
    let into = c.args.into.now in
    let front = c.copy_from_slice.new.self in
    let least : n ≡ min (length held) (length into) = c.min-count.ensures in
    let some : 0 < length held = grind (arith, nat_tests, common_steps, c.if-is_empty.false, c.is_empty.ensures) in
    let size : length front ≡ n = ap length c.copy_from_slice.ensures.after ∙ length-take-le n held (omega (arith, least)) in
    held_read n held front (drop n into) _ (omega (arith, least)) c.copy_from_slice.ensures.after
    (λ zero. omega (arith, zero, least, some, size, length-append front (drop n into), length-drop n into))
