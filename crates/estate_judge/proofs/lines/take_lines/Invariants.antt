use Rattle.std.proofs.Common.{◌≡◌, ◌≤◌, List, None, drop, length}
use Rattle.estate_judge.specs.Nodes.{TakesLines, TakesPrices, TakesWeights}
use Rattle.estate_texts.specs.Given.{GivenLine}
use Rattle.estate_texts.specs.Steps.{BeginsWithAllGiven}
use Rattle.estate_judge.proofs.lines.take_lines.Given as goal

abbrev pub invariant-loop-line : goal.invariant-loop-line
invariant-loop-line l = record {
  within : l.next ≤ length l.given;
  lines : (lines : List GivenLine) × (length lines ≡ l.line) × BeginsWithAllGiven l.players (drop l.from l.given) lines (drop l.next l.given) × TakesLines TakesWeights None lines l.weights × TakesLines TakesPrices None lines l.prices;
}
