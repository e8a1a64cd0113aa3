use Rattle.std.proofs.Common.{◌∙◌, ◌++◌, ◌∷◌, [], ap, subst, sym}
use Rattle.cert_checker.specs.GoodsLines.{HasNoTree}
use Rattle.cert_reader.specs.Reading.{with_mark}
use Rattle.cert_checker.proofs.TreeParts.{mark_more}
use Rattle.cert_checker.proofs.goods.GoodsLines.take_mark.Goals as goal

pub begin_tree-requires-clause-head : goal.begin_tree-requires-clause-head
begin_tree-requires-clause-head c = subst HasNoTree (sym c.in-Head.is) tt

pub returns-in-Tree : goal.returns-in-Tree
returns-in-Tree c said rest goes known =
    let tree = rw c.in-Tree.is at known in
    record {
      lines = tree.lines;
      taken = tree.taken ++ c.args.mark ∷ [];
      sound = c.take_mark.ensures.state;
      is = ap (λ s. with_mark s c.args.mark) tree.is ∙ mark_more tree.lines tree.taken c.args.mark;
      stands = λ view whole head. c.take_mark.ensures.stands view tree.taken (tree.stands view whole head);
    }
