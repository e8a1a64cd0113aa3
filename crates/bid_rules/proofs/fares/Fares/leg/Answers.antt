use Rattle.std.proofs.Common.{arith, ◌≡◌, ◌-◌, ◌≤◌, slice_index_or, subst, sym}
use Rattle.std.proofs.lemmas.Grind.{common_steps}
use Rattle.bid_rules.specs.declared.limits.TheConstants.{MOST_FARE_CENTS}
use Rattle.bid_rules.specs.Facts.{leg}
use Rattle.bid_rules.proofs.LegLimits.{leg_small}
use Rattle.bid_rules.proofs.fares.Fares.leg.Goals as goal

pub returns-clause-small : goal.returns-clause-small
returns-clause-small c =
    let is : slice_index_or c.deref-2.result.now (c.args.to - 1) 0 ≡ leg c.args.self.now c.args.from c.args.to = grind (arith, common_steps) in
    subst (λ n. n ≤ MOST_FARE_CENTS) (sym is) (leg_small c.args.self.now c.requires.facts.cents c.args.from c.args.to)
