-- What a walk through the printed tree says of the rules on it.
use Rattle.std.proofs.Common.{◌≡◌, ◌↔◌, ℕ, zero, suc, ◌≤◌, List, IsTrue, arith, sym, subst}
use Rattle.bid_rules.specs.declared.goods.GoodsCase.{GoodsCase}
use Rattle.bid_rules.specs.Goods.{player_count}
use Rattle.estate_checker.specs.Printed.{printed_answer, printed_case}
use Rattle.estate_checker.specs.Rules.{estate_rule}
use Rattle.estate_checker.specs.Said.{IsGroundOf, KnowsTree}
use Rattle.estate_judge.specs.declared.ground.Ground.{Ground}
use Rattle.estate_judge.specs.declared.node.Node.{Node}
use Rattle.estate_judge.specs.Leaves.{KeepsRule}
use Rattle.estate_judge.specs.Nodes.{AreNodes, IsInner}
use Rattle.estate_texts.specs.Given.{GivenLine}
use Rattle.estate_texts.specs.Texts.{EstateView}
use Rattle.prefix_trees.specs.declared.walk.Walk.{Walk}
use Rattle.prefix_trees.specs.Ahead.{has_tree}
use Rattle.prefix_trees.specs.Leaves.{AnyLeaf, HasLeaf}
use Rattle.prefix_trees.specs.Tree.{IsTree}

-- what the walk and the leaves of its tree come to, for one rule
pub record TestsTree (case : GoodsCase) (answer : List ℕ) (walk : Walk Node) (nodes : List Node) (number : ℕ) : Type 0 where
  pub walked : IsTrue (has_tree walk number) ↔ IsTree IsInner (KeepsRule case answer number) (player_count case) case.facts.goods nodes
  pub ruled : IsTree IsInner (KeepsRule case answer number) (player_count case) case.facts.goods nodes
      ↔ IsTree IsInner AnyLeaf (player_count case) case.facts.goods nodes
      × ((owners : List ℕ) (above : List Node) (node : Node) → HasLeaf IsInner case nodes owners above node → KeepsRule case answer number owners above node)

-- it knows each rule
pub knows_tree : ((players : ℕ) (marks : List ℕ) (lines : List GivenLine) (nodes others : List Node) → players ≤ 12 → AreNodes players marks lines nodes → AreNodes players marks lines others → nodes ≡ others)
    → (view : EstateView) (ground : Ground) (walk : Walk Node) (nodes : List Node) → view.players ≤ 12 → IsGroundOf view ground → AreNodes view.players view.marks view.given nodes
    → ((number : ℕ) → TestsTree ground.case ground.owners.items walk nodes number) → KnowsTree view walk
knows_tree once view ground walk nodes few g are tests number =
    let here : TestsTree (printed_case view) (printed_answer view) walk nodes number =
    subst (λ (xs : List ℕ). TestsTree (printed_case view) xs walk nodes number) g.is_answer (subst (λ (case : GoodsCase). TestsTree case ground.owners.items walk nodes number) g.is_case (tests number)) in (
      (λ yes. let both = here.ruled.0 (here.walked.0 yes) in record { nodes = nodes; are_nodes = are; tree = both.0; leaves = both.1 }),
      λ h.
          let same : h.nodes ≡ nodes = once view.players view.marks view.given h.nodes nodes few h.are_nodes are in
          here.walked.1
          (here.ruled.1 (
            subst (λ (ns : List Node). IsTree IsInner AnyLeaf (player_count (printed_case view)) view.goods ns) same h.tree,
            λ owners above node leads. h.leaves owners above node (subst (λ (ns : List Node). HasLeaf IsInner (printed_case view) ns owners above node) (sym same) leads),
          )),
    )

-- the rules on leaves are the last four
pub leaf_rules : (view : EstateView) (walk : Walk Node) → KnowsTree view walk → (number : ℕ) → 6 ≤ number → number ≤ 9 → IsTrue (has_tree walk number) ↔ estate_rule view number
leaf_rules view walk knows zero low high = absurd (omega arith)
leaf_rules view walk knows (suc zero) low high = absurd (omega arith)
leaf_rules view walk knows (suc (suc zero)) low high = absurd (omega arith)
leaf_rules view walk knows (suc (suc (suc zero))) low high = absurd (omega arith)
leaf_rules view walk knows (suc (suc (suc (suc zero)))) low high = absurd (omega arith)
leaf_rules view walk knows (suc (suc (suc (suc (suc zero))))) low high = absurd (omega arith)
leaf_rules view walk knows (suc (suc (suc (suc (suc (suc zero)))))) low high = knows 6
leaf_rules view walk knows (suc (suc (suc (suc (suc (suc (suc zero))))))) low high = knows 7
leaf_rules view walk knows (suc (suc (suc (suc (suc (suc (suc (suc zero)))))))) low high = knows 8
leaf_rules view walk knows (suc (suc (suc (suc (suc (suc (suc (suc (suc zero))))))))) low high = knows 9
leaf_rules view walk knows (suc (suc (suc (suc (suc (suc (suc (suc (suc (suc number)))))))))) low high = absurd (omega arith)
