use Rattle.std.proofs.Common.{◌≤◌, arith}
use Rattle.std.proofs.lemmas.List.Elements.{All-tail}
use Rattle.bid_rules.specs.declared.limits.TheConstants.{MOST_FARE_CENTS}
use Rattle.bid_rules.specs.Facts.{legs_in_order}
use Rattle.bid_rules.proofs.fares.check_fares.Goals as goal

pub returns-in-Some-clause-accepted : goal.returns-in-Some-clause-accepted
returns-in-Some-clause-accepted c =
    let first = c.in-Some.ensures.cases in
    let facts = c.args.facts.now in (
      (λ e. absurd (cc)),
      (λ h. absurd (
          let small = All-tail (λ n. n ≤ MOST_FARE_CENTS) facts.flag (legs_in_order facts) h.cents c.in-Some.place 0 first.stands in
          omega (arith, small, first.above))),
    )
