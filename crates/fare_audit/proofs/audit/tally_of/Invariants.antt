use Rattle.std.proofs.Common.{◌≡◌, ◌+◌, ◌*◌, ◌≤◌, ◌<◌, unsigned_abs}
use Rattle.bid_rules.specs.declared.limits.TheConstants.{MOST_RIDERS}
use Rattle.bid_rules.specs.FareLimits.{most_sum}
use Rattle.fare_audit.specs.Parts.{IsFirstGreatest, count_below, excess_in_parts}
use Rattle.fare_audit.proofs.audit.tally_of.Given as goal

abbrev pub invariant-loop-set : goal.invariant-loop-set
invariant-loop-set l = record {
  groups : l.groups ≡ count_below (excess_in_parts l.costs l.parts l.denominator) l.set;
  few : l.groups < l.set;
  greatest : IsFirstGreatest (excess_in_parts l.costs l.parts l.denominator) l.set l.worst l.most;
  size : unsigned_abs l.most ≤ most_sum * (MOST_RIDERS + 1);
}
