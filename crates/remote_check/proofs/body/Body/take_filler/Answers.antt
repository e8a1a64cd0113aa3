use Rattle.std.proofs.Common.{◌≡◌, length, replicate, ap, ◌∙◌, arith, length-take-le}
use Rattle.remote_check.proofs.BodyLemmas.{filler_due}
use Rattle.remote_check.proofs.body.Body.take_filler.Goals as goal

pub returns-clause-bytes : goal.returns-clause-bytes
returns-clause-bytes g c =
    let n = c.min-filled.result in
    let filled = c.fill.ensures.after (λ y is. is) in
    let size : length c.fill.new.self ≡ n = omega (arith, c.fill.auto.self, c.min-filled.ensures, length-take-le n c.args.into.now (omega (arith, c.min-filled.ensures))) in
    filler_due _ c.args.count n c.fill.new.self _ _ c.requires (omega (arith, c.min-filled.ensures)) (filled ∙ ap (λ k. replicate k 0) (omega (arith, c.fill.ensures.len, size)))
