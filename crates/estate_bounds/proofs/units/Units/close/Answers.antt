use Rattle.std.proofs.Common.{◌≡◌, ◌&&◌, ◌||◌, Bool, List, ℕ, ap, ◌∙◌}
use Rattle.bid_rules.specs.declared.pair.Pair.{Pair}
use Rattle.bid_rules.specs.Goods.{utilities}
use Rattle.bid_rules.specs.Pairs.{is_less}
use Rattle.nash_bounds.specs.LeftOut.{is_same}
use Rattle.nash_bounds.specs.Levels.{bound_of}
use Rattle.nash_bounds.specs.Prefixes.{highest}
use Rattle.estate_bounds.specs.Units.{in_units, unit_bound, unit_pair, units_close}
use Rattle.estate_bounds.proofs.units.Units.close.Goals as goal

pub returns : goal.returns
unfolding units_close
returns c =
    let case = c.args.case.now in
    let owners = c.args.owners.now in
    let answer = c.args.answer.now in
    let unit = c.args.self.now.unit in
    let bound : c.bound-bound.result ≡ unit_bound case unit owners =
    c.bound-bound.ensures.value ∙ ap (λ (xs : List ℕ). bound_of xs c.prefix_in_units.result.high.items c.prefix_in_units.result.top) c.prefix_in_units.ensures.low
    ∙ ap (λ (xs : List ℕ). bound_of (in_units unit (utilities case owners)) xs c.prefix_in_units.result.top) c.prefix_in_units.ensures.high
    ∙ ap (bound_of (in_units unit (utilities case owners)) (in_units unit (highest case owners))) c.prefix_in_units.ensures.top in
    c.stays_below.ensures ∙ ap (λ (p : Pair). is_less p c.args.self.now.goal || (is_same p c.args.self.now.goal && c.args.after)) bound
    ∙ ap (λ (p : Pair). is_less (unit_bound case unit owners) p || (is_same (unit_bound case unit owners) p && c.args.after)) c.requires.goal
    ∙ ap (λ (b : Bool). is_less (unit_bound case unit owners) (unit_pair case unit answer) || (is_same (unit_bound case unit owners) (unit_pair case unit answer) && b)) c.requires.after
