use Rattle.std.proofs.Common.{◌-◌, ◌≤◌, List, All, drop, length}
use Rattle.estate_checker.specs.Rules.{IsInRange}
use Rattle.estate_texts.specs.Given.{GivenLine}
use Rattle.estate_texts.specs.Steps.{BeginsWithAllGiven}
use Rattle.estate_checker.proofs.ranges.are_in_range.Given as goal

abbrev pub invariant-loop-taken : goal.invariant-loop-taken
invariant-loop-taken l = record {
  within : l.next ≤ length l.given;
  lines : (read : List GivenLine) × BeginsWithAllGiven l.players l.given read (drop l.next l.given) × All (IsInRange l.players) read;
}

abbrev pub decreases-loop-taken : goal.decreases-loop-taken
decreases-loop-taken l = length l.given - l.next
