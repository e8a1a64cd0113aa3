use Rattle.std.proofs.Common.{arith, rules, ltb, replicate, w16, ◌≡◌, ◌≤◌, ◌∙◌}
use Rattle.bid_rules.specs.Pairs.{positives}
use Rattle.std.proofs.lemmas.Simd.{tops_compared}
use Rattle.nash_bounds.proofs.FarOwners.{few_positive}
use Rattle.nash_bounds.proofs.LaneVectors.{positives_chosen}
use Rattle.nash_bounds.proofs.vectors.count_positive.Goals as goal
use Rattle.nash_bounds.specs.declared.limits.TheConstants.{LANES}

pub total-requires : goal.total-requires
total-requires c =
    let few = few_positive c.args.numbers in
    rw (tops_compared w16 ltb c.args.numbers (replicate 16 1)) (let e = positives_chosen 16 c.args.numbers c.fits-numbers.0 in let l = c.fits-numbers.0 in omega arith)

counted : (c : goal.After-total) → c.total.result ≡ positives c.args.numbers
counted c = (rw (tops_compared w16 ltb c.args.numbers (replicate 16 1)) at c.total.ensures) ∙ positives_chosen 16 c.args.numbers c.fits-numbers.0

few : (c : goal.After-total) → c.total.result ≤ LANES
few c = let e = counted c in let f = few_positive c.args.numbers in let l = c.fits-numbers.0 in omega arith

pub overflow_cast-result : goal.overflow_cast-result
overflow_cast-result c = let h = few c in search rules

pub returns-clause-value : goal.returns-clause-value
returns-clause-value c = counted c

pub returns-clause-few : goal.returns-clause-few
returns-clause-few c = few c
