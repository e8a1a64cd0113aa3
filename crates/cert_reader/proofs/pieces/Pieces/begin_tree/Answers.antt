use Rattle.std.proofs.Common.{arith, ◌≡◌, subst, sym}
use Rattle.std.proofs.lemmas.Result.{err_from_is_err_and}
use Rattle.cert_reader.specs.Forms.{Tree}
use Rattle.cert_reader.specs.Order.{form_in}
use Rattle.cert_reader.specs.Reading.{HasLineToCome, Reading}
use Rattle.cert_reader.specs.Forms.{Certificates}
use Rattle.cert_reader.proofs.Agreeing.{in_range}
use Rattle.cert_reader.proofs.FormPlaces.{lines_few}
use Rattle.cert_reader.proofs.TreePlaces.{behind_tree}
use Rattle.cert_reader.proofs.TreeSteps.{first_read_at, first_unread_at}
use Rattle.cert_reader.proofs.pieces.Pieces.begin_tree.Goals as goal

pub overflow_add-self-inside : goal.overflow_add-self-inside
overflow_add-self-inside g c = let few = lines_few c.self.inside.text.counts (in_range Certificates c.self.inside.text.counts c.self.invariant.0) in let within = c.self.invariant.1 in omega arith

pub overflow_add-self : goal.overflow_add-self
overflow_add-self g c = let few = lines_few c.self.inside.text.counts (in_range Certificates c.self.inside.text.counts c.self.invariant.0) in let within = c.self.invariant.1 in omega arith

pub returns-in_err-mark-clause-mark : goal.returns-in_err-mark-clause-mark
returns-in_err-mark-clause-mark g c =
    let p = err_from_is_err_and c.from_residual.result c.from_residual.ensures.1 in
    rw (p.1, p.2)
    (first_unread_at c.args.self.now c.self.inside.text.bytes c.first_mark.new.bytes _ _ c.self.inside.text.lines c.self.inside.text.counts c.self.inside.in_tree c.in_err-mark.field-0.0 c.self.view_is c.requires.whole c.in_err-mark.ensures.few
    (subst HasLineToCome (sym c.self.view_is) c.requires.open) (subst (λ (r : Reading). form_in r.counts r.lines ≡ Tree) (sym c.self.view_is) c.requires.tree) c.in_err-mark.ensures.mark)

pub returns-clause-mark : goal.returns-clause-mark
returns-clause-mark g c =
    first_read_at c.args.self.now c.self.inside.text.bytes c.first_mark.new.bytes _ _ c.self.inside.text.lines c.self.inside.text.counts c.self.inside.in_tree c.in_ok-mark.mark c.self.view_is c.requires.whole
    (subst HasLineToCome (sym c.self.view_is) c.requires.open) (subst (λ (r : Reading). form_in r.counts r.lines ≡ Tree) (sym c.self.view_is) c.requires.tree) c.in_ok-mark.ensures.mark

pub returns-clause-open : goal.returns-clause-open
returns-clause-open g c =
    let last = behind_tree c.self.inside.text.counts c.self.inside.text.lines (subst HasLineToCome (sym c.self.view_is) c.requires.open) (subst (λ (r : Reading). form_in r.counts r.lines ≡ Tree) (sym c.self.view_is) c.requires.tree) in
    omega arith
