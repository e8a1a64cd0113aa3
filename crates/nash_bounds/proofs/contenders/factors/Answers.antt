use Rattle.std.proofs.Common.{ℕ, List, max, get_or, ltb, replicate, w16, ap, ◌∙◌}
use Rattle.std.proofs.lemmas.Simd.{tops_compared}
use Rattle.nash_bounds.proofs.LanePlaces.{chosen_long, higher_at, splat_at, splat_long}
use Rattle.nash_bounds.proofs.contenders.factors.Goals as goal

pub widened-requires : goal.widened-requires
widened-requires c =
    let ones : List ℕ = replicate 16 1 in
    let entries = c.args.entries in
    rw (tops_compared w16 ltb entries ones) (chosen_long entries ones ones entries c.requires (splat_long 1) (splat_long 1) c.requires)

pub returns-clause-each : goal.returns-clause-each
returns-clause-each c = λ k l.
    let ones : List ℕ = replicate 16 1 in
    let entries = c.args.entries in
    (rw (tops_compared w16 ltb entries ones) at (c.widened.ensures.each k l))
    ∙ higher_at entries ones k c.requires (splat_long 1) l ∙ ap (max (get_or entries k 0)) (splat_at 1 k l)
