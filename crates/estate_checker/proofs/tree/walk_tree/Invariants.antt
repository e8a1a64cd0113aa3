use Rattle.std.proofs.Common.{◌≡◌, ◌-◌, ◌≤◌, List, All, drop, length, map}
use Rattle.estate_checker.specs.Said.{IsSaid}
use Rattle.estate_checker.proofs.TakenNodes.{AreTaken}
use Rattle.estate_judge.specs.declared.node.Node.{Node}
use Rattle.estate_judge.specs.Leaves.{KeepsRule}
use Rattle.estate_judge.specs.Nodes.{IsInner}
use Rattle.estate_texts.specs.Given.{CanGive, GivenLine, given_content}
use Rattle.estate_texts.specs.Lines.{lines_text}
use Rattle.prefix_trees.specs.Ahead.{IsWalk, IsWalked}
use Rattle.estate_checker.proofs.tree.walk_tree.Given as goal

abbrev pub invariant-nodes : goal.invariant-nodes
invariant-nodes l = record {
  within : l.at ≤ length l.text.marks.now;
  lines_within : l.from ≤ length l.text.given.now;
  walk : IsWalk l.ground.case l.walk;
  taken : (given : List GivenLine) → IsSaid l.text given
      → (nodes : List Node) × (more : List GivenLine) × AreTaken l.text.players l.text.marks.now given nodes (drop l.at l.text.marks.now) more × All (CanGive l.text.players) more
      × (drop l.from l.text.given.now ≡ lines_text (map given_content more)) × IsWalked IsInner (KeepsRule l.ground.case l.ground.owners.items) l.ground.case nodes l.walk;
}

abbrev pub decreases-nodes : goal.decreases-nodes
decreases-nodes l = length l.text.marks.now - l.at
