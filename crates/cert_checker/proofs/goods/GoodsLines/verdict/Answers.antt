use Rattle.std.proofs.Common.{ℕ, List, subst, sym}
use Rattle.goods_rules.specs.State.{StandsFor}
use Rattle.cert_checker.proofs.TreeParts.{no_tree_yet, tree_begins}
use Rattle.cert_checker.proofs.goods.GoodsLines.verdict.Goals as goal

pub unreachable-requires : goal.unreachable-requires
unreachable-requires c = no_tree_yet c.requires.0 c.in-Head.field-0.items c.requires.1 (rw c.in-Head.is at c.requires.2)

pub returns : goal.returns
returns c said goes at =
    let tree = rw c.in-Tree.is at at in
    let cut = tree_begins said tree.lines tree.taken _ goes tree.is in
    c.end_goods.ensures goes.view (subst (λ (marks : List ℕ). StandsFor goes.view marks c.in-Tree.state) (sym cut.marks) (tree.stands goes.view goes.whole cut.before))
