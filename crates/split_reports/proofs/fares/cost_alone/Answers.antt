use Rattle.std.proofs.Common.{arith, ◌<◌, ◌^◌, length, ℕ, sym, subst, ap, ◌∙◌}
use Rattle.bid_rules.specs.Coalitions.{riders_in}
use Rattle.bid_rules.specs.Fares.{coalition_cost}
use Rattle.split_reports.proofs.LoneRiders.{lone_bit, lone_rider, lone_set}
use Rattle.split_reports.proofs.fares.cost_alone.Goals as goal

pub cost_of-requires : goal.cost_of-requires
cost_of-requires c =
    let n = length c.args.costs.now.at.items in
    let P : ℕ → Type 0 = λ set. set < 2 ^ n in
    subst P (sym (lone_bit c.args.rider n c.requires.low (omega (arith, c.requires.few)) c.requires.high)) (lone_set c.args.rider n c.requires.low c.requires.high)

pub returns : goal.returns
returns c =
    let n = length c.args.costs.now.at.items in
    c.cost_of.ensures.value ∙ ap (coalition_cost c.args.costs.now) (ap riders_in (lone_bit c.args.rider n c.requires.low (omega (arith, c.requires.few)) c.requires.high) ∙ lone_rider c.coalition_law.ensures.riders c.args.rider c.requires.low)
