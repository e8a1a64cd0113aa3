use Rattle.std.proofs.Common.{arith, ◌≡◌, ◌∙◌, ap, refl, subst, sym}
use Rattle.std.proofs.lemmas.Result.{err_from_is_err_and}
use Rattle.std.specs.Prelude.{Err, Ok}
use Rattle.cert_reader.specs.Forms.{Certificates}
use Rattle.cert_reader.specs.Kinds.{kind_number}
use Rattle.cert_reader.specs.Reading.{IsLineRead, Reading, as_reading}
use Rattle.cert_reader.proofs.Agreeing.{in_range}
use Rattle.cert_reader.proofs.FormPlaces.{lines_some}
use Rattle.cert_reader.proofs.PieceSteps.{of_lines}
use Rattle.cert_reader.proofs.TreePlaces.{first_lines}
use Rattle.cert_reader.proofs.HeadAndEnd.{kind_read, kind_unread}
use Rattle.cert_reader.proofs.pieces.Pieces.next_kind.Goals as goal

pub next_line-requires : goal.next_line-requires
next_line-requires g c =
    let some = lines_some c.self.inside.text.counts in
    let none = subst (λ (r : Reading). r.lines ≡ 0) (sym c.self.view_is) c.requires.lines in
    record { range = in_range Certificates c.self.inside.text.counts c.self.invariant.0; «open» = omega arith; line = first_lines c.self.inside.text.counts c.self.inside.text.lines (omega arith) }

pub returns-in_err-next_line-clause-piece : goal.returns-in_err-next_line-clause-piece
returns-in_err-next_line-clause-piece g c =
    let p = err_from_is_err_and c.from_residual.result c.from_residual.ensures.1 in
    rw (p.1, p.2)
    (of_lines {series = Certificates} c.args.self.now c.self.inside.text c.next_line.new.self _ _ c.self.inside.in_tree
    (λ a b taken said. IsLineRead Certificates a b (g.S.Source.left c.next_line.new.source) taken said (Err c.in_err-next_line.field-0.0)) c.self.view_is c.requires.whole (c.in_err-next_line.ensures.line Certificates))

pub next_line-requires-2 : goal.next_line-requires-2
next_line-requires-2 g c =
    let some = lines_some c.next_line.new.self.counts in
    let none = subst (λ (r : Reading). r.lines ≡ 0) (sym c.self.view_is) c.requires.lines in
    let one = c.in_ok-next_line.ensures.lines in
    record {
      range = in_range Certificates c.next_line.new.self.counts (c.in_ok-next_line.ensures.series Certificates c.self.invariant.0);
      «open» = omega arith;
      line = first_lines c.next_line.new.self.counts c.next_line.new.self.lines (omega arith);
    }

pub returns-in_err-next_line-2-clause-piece : goal.returns-in_err-next_line-2-clause-piece
returns-in_err-next_line-2-clause-piece g c =
    let p = err_from_is_err_and c.from_residual-in_err-next_line-2.result c.from_residual-in_err-next_line-2.ensures.1 in
    let tree = c.self.inside.in_tree in
    let whole = ap (λ (r : Reading). r.in_tree) c.self.view_is ∙ c.requires.whole in
    let one = as_reading c.next_line.new.self tree in
    let two = as_reading c.next_line-2.new.self tree in
    rw (p.1, p.2)
    (kind_unread c.args.self.now one two _ _ _ c.next_line.new.numbers c.in_err-next_line-2.field-0.0
    (of_lines {series = Certificates} c.args.self.now c.self.inside.text c.next_line.new.self _ _ tree (λ a b taken said. IsLineRead Certificates a b (g.S.Source.left c.next_line.new.source) taken said (Ok c.next_line.new.numbers))
    c.self.view_is c.requires.whole (c.in_ok-next_line.ensures.line Certificates))
    (of_lines {series = Certificates} one c.next_line.new.self c.next_line-2.new.self _ _ tree (λ a b taken said. IsLineRead Certificates a b (g.S.Source.left c.next_line-2.new.source) taken said (Err c.in_err-next_line-2.field-0.0))
    refl whole (c.in_err-next_line-2.ensures.line Certificates)))

pub returns-clause-piece : goal.returns-clause-piece
returns-clause-piece g c =
    let tree = c.self.inside.in_tree in
    let whole = ap (λ (r : Reading). r.in_tree) c.self.view_is ∙ c.requires.whole in
    let one = as_reading c.next_line.new.self tree in
    let two = as_reading c.next_line-2.new.self tree in
    kind_read c.args.self.now one two _ _ _ c.next_line.new.numbers c.next_line-2.new.numbers (kind_number c.kind.result) c.requires.lines
    (let none = subst (λ (r : Reading). r.lines ≡ 0) (sym c.self.view_is) c.requires.lines in let first = c.in_ok-next_line.ensures.lines in let second = c.in_ok-next_line-2.ensures.lines in omega arith)
    (c.kind.result, c.kind.ensures, refl)
    (of_lines {series = Certificates} c.args.self.now c.self.inside.text c.next_line.new.self _ _ tree (λ a b taken said. IsLineRead Certificates a b (g.S.Source.left c.next_line.new.source) taken said (Ok c.next_line.new.numbers))
    c.self.view_is c.requires.whole (c.in_ok-next_line.ensures.line Certificates))
    (of_lines {series = Certificates} one c.next_line.new.self c.next_line-2.new.self _ _ tree (λ a b taken said. IsLineRead Certificates a b (g.S.Source.left c.next_line-2.new.source) taken said (Ok c.next_line-2.new.numbers))
    refl whole (c.in_ok-next_line-2.ensures.line Certificates))

pub returns-clause-more : goal.returns-clause-more
returns-clause-more g c =
    let some = lines_some c.next_line-2.new.self.counts in
    let none = subst (λ (r : Reading). r.lines ≡ 0) (sym c.self.view_is) c.requires.lines in
    let one = c.in_ok-next_line.ensures.lines in
    let two = c.in_ok-next_line-2.ensures.lines in
    omega arith

pub invariant_of-self-in_err-next_line-2 : goal.invariant_of-self-in_err-next_line-2
invariant_of-self-in_err-next_line-2 g c = (
  c.in_err-next_line-2.ensures.series Certificates (c.in_ok-next_line.ensures.series Certificates c.self.invariant.0),
  c.in_err-next_line-2.ensures.within,
  λ t. absurd (let whole = ap (λ (r : Reading). r.in_tree) c.self.view_is ∙ c.requires.whole in cc),
)

pub invariant_of-self-2 : goal.invariant_of-self-2
invariant_of-self-2 g c = (
  c.in_ok-next_line-2.ensures.series Certificates (c.in_ok-next_line.ensures.series Certificates c.self.invariant.0),
  c.in_ok-next_line-2.ensures.within,
  λ t. absurd (let whole = ap (λ (r : Reading). r.in_tree) c.self.view_is ∙ c.requires.whole in cc),
)
