use Rattle.std.proofs.Common.{◌≡◌, ℕ, ◌<◌, ◌≤◌, length, get_or}
use Rattle.nash_bounds.proofs.lanes.laned.Given as goal
use Rattle.nash_bounds.specs.declared.limits.TheConstants.{LANES}

abbrev pub invariant-loop-k : goal.invariant-loop-k
invariant-loop-k l = record {
  long : length l.lanes ≡ LANES;
  before : (j : ℕ) → j < l.k → get_or l.lanes j 0 ≡ get_or l.numbers j 0;
  after : (j : ℕ) → l.k ≤ j → get_or l.lanes j 0 ≡ 0;
}
