use Rattle.std.proofs.Common.{◌≡◌, [], ℕ, List, false, sym, subst}
use Rattle.nash_bounds.specs.LeftOut.{may_be_left}
use Rattle.certificates.specs.GoodsLines.{answer_of}
use Rattle.certificates.proofs.BestAnswer.{best_answer, root_open}
use Rattle.certificates.proofs.marks.put_marks.Goals as goal

pub put_tree-requires-clause-open : goal.put_tree-requires-clause-open
put_tree-requires-clause-open c =
    let case = c.args.case.now in
    let answer : List ℕ = answer_of case c.args.division.now in
    let best = best_answer c.owners_by_good_law.ensures.in_order_again case c.args.division.now c.requires.division.best in
    let root = root_open case answer (c.bound_law.ensures.below case [] answer c.requires.case best.best.allocation) (c.open_prefixes_law.ensures.left case answer []).0 in
    subst (λ (xs : List ℕ). may_be_left case c.answer_of-answer.result.owners.items xs ≡ false) (sym c.root_of-root.ensures.none)
    (subst (λ (xs : List ℕ). may_be_left case xs [] ≡ false) (sym c.answer_of-answer.ensures.owners) root)
