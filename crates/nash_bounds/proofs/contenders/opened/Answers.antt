use Rattle.std.proofs.Common.{◌≡◌, ℕ, ◌+◌, ◌-◌, min, get_or, ltb, cond, replicate, w16, arith, ap, ◌∙◌}
use lib.Lanes.{sel_l, zip2}
use Rattle.std.proofs.lemmas.Bool.Decides.{nat_tests}
use Rattle.std.proofs.lemmas.Simd.{tops_compared}
use Rattle.nash_bounds.proofs.LanePlaces.{bit_at, chosen_long, lower_at, splat_at, splat_long}
use Rattle.nash_bounds.proofs.contenders.opened.Goals as goal

-- a lane with nothing, and with points for the good
opens : (high points : ℕ) → cond (ltb high (min points 1)) 1 0 ≡ min (high + points) 1 - min high 1
opens high points = grind (arith, nat_tests)

pub returns : goal.returns
returns c = λ k l.
    let ones = replicate 16 1 in
    let high = c.args.high in
    let points = c.args.points in
    let some = sel_l (zip2 ltb points ones) points ones in
    rw (tops_compared w16 ltb points ones, tops_compared w16 ltb high some)
    (bit_at ltb high some k c.requires.highs (chosen_long points ones points ones c.requires.points (splat_long 1) c.requires.points (splat_long 1)) l
    ∙ ap (λ n. cond (ltb (get_or high k 0) n) 1 0) (lower_at points ones k c.requires.points (splat_long 1) l ∙ ap (min (get_or points k 0)) (splat_at 1 k l))
    ∙ opens (get_or high k 0) (get_or points k 0))
