use Rattle.estate_judge.proofs.NodesOnce.{first_once, node_some, nodes_once}
use Rattle.estate_judge.proofs.laws.nodes_law.Goals as goal

pub returns-clause-first : goal.returns-clause-first
returns-clause-first c = first_once

pub returns-clause-some : goal.returns-clause-some
returns-clause-some c = node_some

pub returns-clause-nodes : goal.returns-clause-nodes
returns-clause-nodes c = nodes_once
