use Rattle.std.proofs.Common.{rules, arith, ◌≡◌, pos, ◌-ℤ◌, ◌*ℤ◌, FitsSigned, ap, ◌∙◌, to_z, of_z}
use Rattle.std.specs.Int.{w128}
use Rattle.std.proofs.lemmas.Int.{to_z-of_z, ints}
use Rattle.split_frac.specs.Frac.{IsDifference}
use Rattle.split_frac.proofs.arithmetic.sub.Goals as goal

is_difference : (c : goal.After-reduced) → IsDifference c.args.a c.args.b c.reduced.result
is_difference c =
    let left : FitsSigned w128 c.scaled.result = search rules in
    let right : FitsSigned w128 c.scaled-2.result = search rules in
    let fits : FitsSigned w128 (c.scaled.result -ℤ c.scaled-2.result) = omega (arith, ints) in
    let fits_a : FitsSigned w128 c.args.a.num = search rules in
    let fits_b : FitsSigned w128 c.args.b.num = search rules in
    let first : c.scaled.result ≡ c.args.a.num *ℤ pos c.args.b.den = c.scaled.ensures.value ∙ ap (λ z. z *ℤ pos c.args.b.den) (to_z-of_z w128 c.args.a.num fits_a) in
    let second : c.scaled-2.result ≡ c.args.b.num *ℤ pos c.args.a.den = c.scaled-2.ensures.value ∙ ap (λ z. z *ℤ pos c.args.a.den) (to_z-of_z w128 c.args.b.num fits_b) in
    let total : to_z w128 (of_z w128 (to_z w128 (of_z w128 c.scaled.result) -ℤ to_z w128 (of_z w128 c.scaled-2.result))) ≡ c.scaled.result -ℤ c.scaled-2.result = omega (arith, ints) in
    c.reduced.ensures.value ∙ ap (λ z. z *ℤ pos c.reduced.result.den) total ∙ ap (λ z. (z -ℤ c.scaled-2.result) *ℤ pos c.reduced.result.den) first
    ∙ ap (λ z. (c.args.a.num *ℤ pos c.args.b.den -ℤ z) *ℤ pos c.reduced.result.den) second

pub returns-clause-value : goal.returns-clause-value
returns-clause-value c = is_difference c

pub returns-clause-within : goal.returns-clause-within
returns-clause-within c = c.requires.result c.reduced.result (is_difference c)
