use Rattle.std.proofs.Common.{◌*ℤ◌, pos, ◌∙◌, ap, subst, arith}
use Rattle.split_frac.specs.Frac.{HasValue}
use Rattle.bid_rules.specs.Orders.{factorial}
use Rattle.split_lemmas.proofs.OrderLaws.{factorial_pos}
use Rattle.split_lemmas.proofs.WideNumbers.{kept_whole}
use Rattle.shapley_core.proofs.FareRanges.{range_of}
use Rattle.shapley_core.proofs.division.mean.Goals as goal

pub make-requires-clause-den_low : goal.make-requires-clause-den_low
make-requires-clause-den_low c = let some = factorial_pos c.args.count in let orders = c.factorial.ensures.value in omega (arith, some, orders)

pub returns-clause-range : goal.returns-clause-range
returns-clause-range c =
    let fare = c.make.result in
    let n = c.args.count in
    let told = kept_whole c.args.sum (omega (arith, c.requires.fits)) in
    let value : HasValue fare c.args.sum (factorial n) = subst (λ k. HasValue fare c.args.sum k) c.factorial.ensures.value (c.make.ensures.value ∙ ap (λ s. s *ℤ pos fare.den) told) in
    range_of fare c.args.sum n c.requires.count value c.requires.small (c.value_law.ensures.divides fare c.args.sum (factorial n) value)
