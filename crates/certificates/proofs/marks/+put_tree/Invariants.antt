use Rattle.std.proofs.Common.{◌≡◌, ◌+◌, ◌-◌, ◌∷◌, length}
use Rattle.cert_reader.specs.declared.marks.TheConstants.{INNER_NODE}
use Rattle.certificates.specs.Puts.{Puts}
use Rattle.certificates.proofs.TreeMarks.{children_marks}
use Rattle.certificates.proofs.marks.+put_tree.Given as goal

abbrev pub decreases-put_tree : goal.decreases-put_tree
decreases-put_tree l = l.case.now.facts.goods - length l.node.now.owners.items

abbrev pub invariant-loop-k : goal.invariant-loop-k
invariant-loop-k l = record {
  owners : l.node.owners.items ≡ l.fn.node.owners.items;
  marks : Puts (INNER_NODE ∷ children_marks l.case l.answer.owners.items (l.case.facts.goods - (length l.fn.node.owners.items + 1)) l.fn.node.owners.items l.k)
      l.used l.fn.text l.text l.end;
}
