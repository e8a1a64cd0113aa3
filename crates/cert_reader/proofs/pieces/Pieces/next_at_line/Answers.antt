use Rattle.std.proofs.Common.{arith, ◌≡◌, ◌<◌, ◌≤◌, ◌∙◌, ap, length, refl, ⊎_elim}
use Rattle.std.proofs.lemmas.Result.{err_from_is_err_and}
use Rattle.std.proofs.lemmas.Bool.{cases_lt}
use Rattle.std.specs.Prelude.{Err, Ok}
use Rattle.cert_reader.specs.declared.pieces.Piece.TheVariants.{Line, Mark}
use Rattle.cert_reader.specs.Forms.{Certificates, forms_of}
use Rattle.cert_reader.specs.Reading.{IsFinished, IsLineRead, IsMarkRead, IsPiece, Reading, as_reading}
use Rattle.cert_reader.proofs.Agreeing.{in_range}
use Rattle.cert_reader.proofs.HeadAndEnd.{done_read, done_unread}
use Rattle.cert_reader.proofs.PieceSteps.{goes_so, of_lines}
use Rattle.cert_reader.proofs.pieces.Pieces.next_at_line.Goals as goal

pub returns-in_err-mark-clause-piece : goal.returns-in_err-mark-clause-piece
returns-in_err-mark-clause-piece g c =
    let p = err_from_is_err_and c.from_residual.result c.from_residual.ensures.1 in
    rw (p.1, p.2) c.in_err-mark.ensures.mark

pub returns-in_err-next_line-clause-piece : goal.returns-in_err-next_line-clause-piece
returns-in_err-next_line-clause-piece g c =
    let p = err_from_is_err_and c.from_residual-in_err-next_line.result c.from_residual-in_err-next_line.ensures.1 in
    rw (p.1, p.2)
    (of_lines {series = Certificates} c.args.self.now c.self.inside.text c.next_line.new.self _ _ c.self.inside.in_tree
    (λ a b taken said. IsLineRead Certificates a b (g.S.Source.left c.next_line.new.source) taken said (Err c.in_err-next_line.field-0.0)) c.self.view_is c.requires.whole (c.in_err-next_line.ensures.line Certificates))

pub returns-then-is_at_tree-clause-piece : goal.returns-then-is_at_tree-clause-piece
returns-then-is_at_tree-clause-piece g c =
    goes_so c.args.self.now _ _ (λ taken said. IsMarkRead c.args.self.now c.begin_tree.new.self (g.S.Source.left c.begin_tree.new.source) taken said (Ok c.in_ok-mark.mark))
    (λ taken said. IsPiece c.args.self.now c.begin_tree.new.self (g.S.Source.left c.begin_tree.new.source) taken said (Mark c.in_ok-mark.mark)) (λ taken said h. (c.requires.some, h.0, h.1)) c.in_ok-mark.ensures.mark

pub returns-then-is_open-clause-piece : goal.returns-then-is_open-clause-piece
returns-then-is_open-clause-piece g c =
    let after = as_reading c.next_line.new.self c.self.inside.in_tree in
    goes_so c.args.self.now _ _ (λ taken said. IsLineRead Certificates c.args.self.now after (g.S.Source.left c.next_line.new.source) taken said (Ok c.next_line.new.numbers)) (λ taken said. IsPiece c.args.self.now after (g.S.Source.left c.next_line.new.source) taken said (Line c.next_line.new.numbers))
    (λ taken said h. (c.requires.some, h.0, h.1, h.2))
    (of_lines {series = Certificates} c.args.self.now c.self.inside.text c.next_line.new.self _ _ c.self.inside.in_tree (λ a b taken said. IsLineRead Certificates a b (g.S.Source.left c.next_line.new.source) taken said (Ok c.next_line.new.numbers))
    c.self.view_is c.requires.whole (c.in_ok-next_line.ensures.line Certificates))

pub returns-clause-piece : goal.returns-clause-piece
returns-clause-piece g c =
    let counts = ap (λ counts. length (forms_of counts)) c.in_ok-finish.ensures.same.1 in
    let next = c.in_ok-next_line.ensures.lines in
    let within = c.in_ok-next_line.ensures.within in
    let all : c.next_line.new.self.lines ≡ length (forms_of c.next_line.new.self.counts) = ⊎_elim
    (λ (l : c.next_line.new.self.lines < length (forms_of c.next_line.new.self.counts)). absurd (let told = c.if-is_open.ensures.1 l in let test = c.if-is_open.false in cc))
    (λ (h : length (forms_of c.next_line.new.self.counts) ≤ c.next_line.new.self.lines). omega arith)
    (cases_lt c.next_line.new.self.lines (length (forms_of c.next_line.new.self.counts))) in
    let lines = ap (λ (r : Reading). r.lines) c.self.view_is in
    done_read c.args.self.now (as_reading c.next_line.new.self c.self.inside.in_tree) (as_reading c.finish.new.self c.self.inside.in_tree) _ _ _ c.next_line.new.numbers (omega arith) c.in_ok-finish.ensures.same.1
    (of_lines {series = Certificates} c.args.self.now c.self.inside.text c.next_line.new.self _ _ c.self.inside.in_tree (λ a b taken said. IsLineRead Certificates a b (g.S.Source.left c.next_line.new.source) taken said (Ok c.next_line.new.numbers))
    c.self.view_is c.requires.whole (c.in_ok-next_line.ensures.line Certificates))
    (of_lines {series = Certificates} (as_reading c.next_line.new.self c.self.inside.in_tree) c.next_line.new.self c.finish.new.self _ _ c.self.inside.in_tree
    (λ a b taken said. IsFinished Certificates b (g.S.Source.left c.finish.new.source) taken said (Ok tt)) refl (ap (λ (r : Reading). r.in_tree) c.self.view_is ∙ c.requires.whole) (c.in_ok-finish.ensures.finish Certificates))

pub returns-in_err-finish-clause-piece : goal.returns-in_err-finish-clause-piece
returns-in_err-finish-clause-piece g c =
    let p = err_from_is_err_and c.from_residual-in_err-finish.result c.from_residual-in_err-finish.ensures.1 in
    rw (p.1, p.2)
    (done_unread c.args.self.now (as_reading c.next_line.new.self c.self.inside.in_tree) _ _ _ c.next_line.new.numbers c.in_err-finish.field-0.0
    (of_lines {series = Certificates} c.args.self.now c.self.inside.text c.next_line.new.self _ _ c.self.inside.in_tree (λ a b taken said. IsLineRead Certificates a b (g.S.Source.left c.next_line.new.source) taken said (Ok c.next_line.new.numbers))
    c.self.view_is c.requires.whole (c.in_ok-next_line.ensures.line Certificates))
    (of_lines {series = Certificates} (as_reading c.next_line.new.self c.self.inside.in_tree) c.next_line.new.self c.finish.new.self _ _ c.self.inside.in_tree
    (λ a b taken said. IsFinished Certificates b (g.S.Source.left c.finish.new.source) taken said (Err c.in_err-finish.field-0.0)) refl (ap (λ (r : Reading). r.in_tree) c.self.view_is ∙ c.requires.whole) (c.in_err-finish.ensures.finish Certificates)))

pub is_open-requires : goal.is_open-requires
is_open-requires g c = in_range Certificates c.next_line.new.self.counts (c.in_ok-next_line.ensures.series Certificates c.self.invariant.0)

pub finish-requires-clause-range : goal.finish-requires-clause-range
finish-requires-clause-range g c = in_range Certificates c.next_line.new.self.counts (c.in_ok-next_line.ensures.series Certificates c.self.invariant.0)
