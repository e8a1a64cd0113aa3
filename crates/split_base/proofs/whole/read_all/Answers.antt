use Rattle.std.proofs.Common.{arith, refl, ℕ, take, ◌++◌, length-append, length-take}
use Rattle.std.proofs.lemmas.List.{length-take-le}
use Rattle.std.proofs.KnownBytes.{Consumes-trans}
use Rattle.split_base.proofs.KnownBytes.{Consumes-over}
use Rattle.split_base.proofs.whole.read_all.Goals as goal

-- the bytes so far, and the piece for which there is no memory
pub returns-then-is_err-clause-taken : goal.returns-then-is_err-clause-taken
returns-then-is_err-clause-taken g c =
    let count = c.in-Ok.ensures.bytes.0 in
    let bytes = c.loop-bytes.bytes in (
      bytes.items ++ take c.in-Ok.count c.read.new.into,
      omega (arith, length-append {A = ℕ}, length-take {A = ℕ}, bytes.ok.0, c.read.auto.into),
      Consumes-trans _ _ _ _ _ c.loop-bytes.invariant.so_far c.in-Ok.ensures.bytes.1,
    )

-- the bytes so far, and one more
pub returns-in-Ok-read-clause-one_more : goal.returns-in-Ok-read-clause-one_more
returns-in-Ok-read-clause-one_more g c is =
    let count = c.in-Ok-read.ensures.bytes.0 in
    let bytes = c.loop-bytes.bytes in
    let more = length-take-le c.in-Ok-read.field-0 c.read-2.new.into count in (
      bytes.items ++ take c.in-Ok-read.field-0 c.read-2.new.into,
      omega (arith, length-append {A = ℕ}, length-take {A = ℕ}, bytes.ok.0, more, count, c.read-2.auto.into),
      Consumes-trans _ _ _ _ _ c.loop-bytes.invariant.so_far c.in-Ok-read.ensures.bytes.1,
    )

-- the same bytes, counted
pub returns-in-Ok-read-clause-taken : goal.returns-in-Ok-read-clause-taken
returns-in-Ok-read-clause-taken g c =
    let taken = returns-in-Ok-read-clause-one_more g c refl in
    (taken.0, omega (arith, taken.1), taken.2)

-- one byte more than `most` was taken, so there are more than `most`
pub returns-in-Ok-read-clause-too_long : goal.returns-in-Ok-read-clause-too_long
returns-in-Ok-read-clause-too_long g c is =
    let taken = returns-in-Ok-read-clause-one_more g c refl in
    Consumes-over _ _ taken.0 c.args.most taken.1 taken.2
