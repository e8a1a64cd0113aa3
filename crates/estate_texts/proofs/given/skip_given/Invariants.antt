use Rattle.std.proofs.Common.{◌≡◌, ◌+◌, ◌-◌, ◌≤◌, List, drop, length}
use Rattle.estate_texts.specs.Given.{GivenLine}
use Rattle.estate_texts.specs.Steps.{BeginsWithAllGiven}
use Rattle.estate_texts.proofs.given.skip_given.Given as goal

abbrev pub invariant-loop-taken : goal.invariant-loop-taken
invariant-loop-taken l = record {
  within : l.next ≤ length l.text;
  given : (given : List GivenLine) × (length given ≡ l.count) × BeginsWithAllGiven l.players (drop l.at l.text) given (drop l.next l.text);
  few : l.count + l.at ≤ l.next;
}

abbrev pub decreases-loop-taken : goal.decreases-loop-taken
decreases-loop-taken l = length l.text - l.next
