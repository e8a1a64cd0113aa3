use Rattle.estate_texts.specs.Steps.{view_of_text}
use Rattle.estate_checker.proofs.WalkedTrees.{knows_tree}
use Rattle.estate_checker.proofs.judging.tree_of.Goals as goal

pub returns-then-has_tree : goal.returns-then-has_tree
returns-then-has_tree c given h g =
    let (nodes, are, walked) = c.in-Some.ensures given h in
    let knows = knows_tree c.nodes_law.ensures.nodes (view_of_text c.args.text.now given) c.args.ground.now c.in-Some.walk nodes h.can.players.1 g are
    (λ number.
    record {
      walked = c.walked_law.ensures.last c.args.ground.now c.args.ground.now.case nodes c.in-Some.walk number walked;
      ruled = c.leaves_law.ensures.rules c.args.ground.now c.args.ground.now.case number nodes;
    }) in
    let yes = c.if-has_tree.true in
    let test = c.has_tree.ensures in
    ((knows 3).0 (cc), knows)

pub returns-else-has_tree : goal.returns-else-has_tree
returns-else-has_tree c given h g has =
    let (nodes, are, walked) = c.in-Some.ensures given h in
    let knows = knows_tree c.nodes_law.ensures.nodes (view_of_text c.args.text.now given) c.args.ground.now c.in-Some.walk nodes h.can.players.1 g are
    (λ number.
    record {
      walked = c.walked_law.ensures.last c.args.ground.now c.args.ground.now.case nodes c.in-Some.walk number walked;
      ruled = c.leaves_law.ensures.rules c.args.ground.now c.args.ground.now.case number nodes;
    }) in
    let no_tree = c.if-has_tree.false in
    let test = c.has_tree.ensures in
    let yes = (knows 3).1 has in
    cc
