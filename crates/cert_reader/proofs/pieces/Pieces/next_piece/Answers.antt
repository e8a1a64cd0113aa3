use Rattle.std.proofs.Common.{◌≡◌, ◌≤◌, ◌<◌, ◌∙◌, ap, subst, sym, IfOk}
use Rattle.cert_reader.specs.declared.pieces.Piece.TheVariants.{Done}
use Rattle.cert_reader.specs.Reading.{ReadsOn, IsAnswer, HasLineToCome, ends_by_piece}
use Rattle.cert_reader.specs.Stream.{faults_after_reading}
use Rattle.cert_reader.proofs.Parts.{same_faults, same_more}
use Rattle.cert_reader.proofs.pieces.Pieces.next_piece.Goals as goal

pub returns-clause-piece : goal.returns-clause-piece
returns-clause-piece g c =
    subst (λ answer. ReadsOn c.args.self.now (g.S.Source.left c.args.source.now) (g.S.Source.left c.next_part-answer.new.source) (λ taken said. IsAnswer c.args.self.now c.next_part-answer.new.self (g.S.Source.left c.next_part-answer.new.source) taken said answer)) (sym c.with_numbers.ensures.same) c.next_part-answer.ensures.piece

pub returns-clause-more : goal.returns-clause-more
returns-clause-more g c =
    subst (λ answer. IfOk answer (λ piece. (piece ≡ Done → ⊥) → HasLineToCome c.next_part-answer.new.self × (c.args.self.now.given < c.next_part-answer.new.self.given))) (sym c.with_numbers.ensures.same)
    (same_more c.next_part-answer.result c.next_part-answer.new.numbers (HasLineToCome c.next_part-answer.new.self × (c.args.self.now.given < c.next_part-answer.new.self.given)) c.next_part-answer.ensures.more)

pub returns-clause-faults : goal.returns-clause-faults
returns-clause-faults g c =
    c.next_part-answer.ensures.faults ∙ sym (same_faults (g.S.Source.faults c.args.source.now) c.next_part-answer.result c.next_part-answer.new.numbers) ∙ sym (ap (λ answer. faults_after_reading (g.S.Source.faults c.args.source.now) answer) c.with_numbers.ensures.same)

pub returns-clause-empty : goal.returns-clause-empty
returns-clause-empty g c =
    subst (λ answer. g.S.Source.empty_reads c.next_part-answer.new.source ≤ ends_by_piece (g.S.Source.empty_reads c.args.source.now) answer) (sym c.with_numbers.ensures.same) c.next_part-answer.ensures.empty
