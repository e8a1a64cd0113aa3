use Rattle.std.proofs.Common.{◌≡◌, ◌-◌, ℤ, pos, get_or, ap, arith, to_z}
use Rattle.std.specs.Int.{w128}
use Rattle.fare_audit.specs.Parts.{part_at}
use Rattle.fare_audit.proofs.Kept.{sum_made}
use Rattle.fare_audit.proofs.parts.paid_by.Goals as goal

pub loop-rider-preserved : goal.loop-rider-preserved
loop-rider-preserved c =
    let parts = c.args.parts.now in
    let part : ℤ = get_or parts (c.from.result - 1) (pos 0) in
    let k = c.loop-rider.rider-index in
    let known = c.requires.riders k 0 c.loop-rider-test.true in
    let is = c.from.ensures in
    let small = c.requires.small (c.from.result - 1) (pos 0) (omega (arith, known, is)) in
    let value : part ≡ part_at parts (get_or c.args.riders.now k 0) = ap (λ n. get_or parts (n - 1) (pos 0)) is in
    let next = sum_made (part_at parts) c.args.riders.now k (to_z w128 c.loop-rider.paid-bits) part c.loop-rider-test.true c.requires.few c.loop-rider.invariant.size small value c.loop-rider.invariant.value in
    record { value = next.1; size = next.2 }
