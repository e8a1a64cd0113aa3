use Rattle.std.proofs.Common.{min, get_or, ltb, replicate, w16, ap, ◌∙◌}
use Rattle.std.proofs.lemmas.Simd.{tops_compared}
use Rattle.nash_bounds.proofs.LanePlaces.{chosen_long, lower_at, splat_at, splat_long}
use Rattle.nash_bounds.proofs.contenders.limited.Goals as goal

pub returns-clause-each : goal.returns-clause-each
returns-clause-each c = λ k l.
    let limits = replicate 16 c.args.limit in
    rw (tops_compared w16 ltb c.args.numbers limits)
    (lower_at c.args.numbers limits k c.requires.numbers (splat_long c.args.limit) l ∙ ap (min (get_or c.args.numbers k 0)) (splat_at c.args.limit k l))

pub returns-clause-long : goal.returns-clause-long
returns-clause-long c =
    let limits = replicate 16 c.args.limit in
    rw (tops_compared w16 ltb c.args.numbers limits) (chosen_long c.args.numbers limits c.args.numbers limits c.requires.numbers (splat_long c.args.limit) c.requires.numbers (splat_long c.args.limit))
