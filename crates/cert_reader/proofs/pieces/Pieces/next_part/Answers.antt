use Rattle.std.proofs.Common.{◌<◌, subst}
use Rattle.std.proofs.lemmas.Result.{err_from_is_err_and}
use Rattle.cert_reader.specs.Reading.{with_numbers}
use Rattle.cert_reader.proofs.TreeSteps.{answer_behind_tree, mark_piece}
use Rattle.cert_reader.proofs.pieces.Pieces.next_part.Goals as goal

pub returns-in_err-mark-clause-piece : goal.returns-in_err-mark-clause-piece
returns-in_err-mark-clause-piece g c =
    let p = err_from_is_err_and c.from_residual.result c.from_residual.ensures.1 in
    rw (p.1, p.2) c.in_err-mark.ensures.mark

pub returns-in-Some-clause-piece : goal.returns-in-Some-clause-piece
returns-in-Some-clause-piece g c =
    let tree = rw c.in-Some.is at c.in_ok-mark.ensures in
    mark_piece c.args.self.now c.next_in_tree.new.self _ _ c.in-Some.mark (subst (λ n. 0 < n) tree.same.0 tree.some) tree.mark

pub returns-in-None-clause-piece : goal.returns-in-None-clause-piece
returns-in-None-clause-piece g c =
    let tree = rw c.in-None.is at c.in_ok-mark.ensures in
    answer_behind_tree c.args.self.now c.next_in_tree.new.self c.next_at_line.new.self _ _ _ (with_numbers c.next_at_line.result c.next_at_line.new.numbers) tree.same.0 tree.same.1 tree.mark c.next_at_line.ensures.piece
