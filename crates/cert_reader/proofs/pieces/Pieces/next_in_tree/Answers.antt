use Rattle.std.proofs.Common.{◌∙◌, ap, subst, sym}
use Rattle.std.proofs.lemmas.Result.{err_from_is_err_and}
use Rattle.std.specs.Prelude.{Ok}
use Rattle.cert_reader.specs.Reading.{IsTreeRead, ReadsOn}
use Rattle.cert_reader.proofs.PieceSteps.{reading_at}
use Rattle.cert_reader.proofs.TreeSteps.{next_read_at, tree_unread_at}
use Rattle.cert_reader.proofs.pieces.Pieces.next_in_tree.Goals as goal

pub returns-in_err-mark-clause-mark : goal.returns-in_err-mark-clause-mark
returns-in_err-mark-clause-mark g c =
    let p = err_from_is_err_and c.from_residual.result c.from_residual.ensures.1 in
    rw (p.1, p.2)
    (tree_unread_at c.args.self.now c.self.inside.text.bytes c.next_mark.new.bytes _ _ c.self.inside.text.lines c.self.inside.text.counts c.self.inside.in_tree c.in_err-mark.field-0.0 c.self.view_is c.requires
    (c.self.invariant.2 (ap (λ r. r.in_tree) c.self.view_is ∙ c.requires)) c.in_err-mark.ensures.few c.in_err-mark.ensures.mark)

pub returns-clause-mark : goal.returns-clause-mark
returns-clause-mark g c =
    subst (λ t. ReadsOn c.args.self.now (g.S.Source.left c.args.source.now) (g.S.Source.left c.next_mark.new.source) (λ taken said.
    IsTreeRead c.args.self.now (reading_at c.next_mark.new.bytes c.self.inside.text.lines c.self.inside.text.counts t) (g.S.Source.left c.next_mark.new.source) taken said (Ok c.in_ok-mark.mark))) (sym c.is_some-self-inside.ensures)
    (next_read_at c.args.self.now c.self.inside.text.bytes c.next_mark.new.bytes _ _ c.self.inside.text.lines c.self.inside.text.counts c.self.inside.in_tree c.in_ok-mark.mark c.self.view_is c.requires
    (c.self.invariant.2 (ap (λ r. r.in_tree) c.self.view_is ∙ c.requires)) c.in_ok-mark.ensures.mark)
