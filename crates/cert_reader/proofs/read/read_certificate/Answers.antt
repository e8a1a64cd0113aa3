use Rattle.std.proofs.Common.{refl, arith, ◌≡◌, ◌∙◌, ◌++◌, ◌∷◌, [], inl, inr, Ok, Err, sym, ap, subst}
use Rattle.std.specs.Prelude.{List}
use Rattle.cert_reader.specs.Forms.{AreCounts, forms_of}
use Rattle.cert_reader.specs.Gathered.{Gathered, whole_said}
use Rattle.cert_reader.specs.declared.certificate.Certificate.{Certificate}
use Rattle.cert_reader.specs.declared.pieces.Piece.{Piece}
use Rattle.cert_reader.specs.Stream.{faults_after_reading}
use Rattle.cert_reader.specs.Text.{CanSayAll}
use Rattle.cert_reader.specs.Whole.{IsGathering}
use Rattle.cert_reader.proofs.Gathering.{answer_is, gathering_done, gathering_end, gathering_full, gathering_kind, gathering_line, gathering_mark, stopped_faults, whole_full, whole_read}
use Rattle.cert_reader.proofs.read.read_certificate.Goals as goal
use Rattle.cert_reader.proofs.read.read_certificate.Goals.{in-Ok, in-Err-certificate_of}

pub returns-in-Err-clause-read : goal.returns-in-Err-clause-read
returns-in-Err-clause-read g c =
    let inv = c.pieces.invariant in
    gathering_end c.pieces.pieces c.next_piece.new.self _ _ _ inv.taken c.pieces.lines.items c.pieces.marks.items c.in-Err.end _ c.from.ensures inv.took inv.gathering c.in-Err.ensures.piece

pub returns-in-Err-clause-faults : goal.returns-in-Err-clause-faults
returns-in-Err-clause-faults g c =
    inl (Err c.in-Err.end, ap Err c.from.ensures, c.in-Err.ensures.faults ∙ stopped_faults Piece _ c.in-Err.end ∙ ap (λ n. faults_after_reading {T = Certificate} n (Err c.in-Err.end)) c.pieces.invariant.faults)

pub returns-in-Err-clause-empty : goal.returns-in-Err-clause-empty
returns-in-Err-clause-empty g c = inl (Err c.in-Err.end, ap Err c.from.ensures, omega (arith, c.in-Err.ensures.empty, c.pieces.invariant.empty))

pub pieces-preserved-in-Ok-Kind : goal.pieces-preserved-in-Ok-Kind
pieces-preserved-in-Ok-Kind g c =
    let inv = c.pieces.invariant in
    let next = rw c.in-Ok-Kind.field-0-is at c.in-Ok-Kind.ensures in
    let all = gathering_kind c.pieces.pieces c.next_piece.new.self _ _ _ inv.taken c.pieces.lines.items c.pieces.marks.items c.in-Ok-Kind.field-0-0 inv.took inv.gathering next.piece in
    record {
      taken = all.0;
      took = all.1;
      gathering = all.2;
      to_come = (next.more (λ e. absurd (cc))).0;
      faults = next.faults ∙ inv.faults;
      empty = omega (arith, next.empty, inv.empty);
      beside = next.beside ∙ inv.beside;
    }

pub returns-then-is_err-clause-read : goal.returns-then-is_err-clause-read
returns-then-is_err-clause-read g c =
    let inv = c.pieces.invariant in
    let next = rw c.in-Ok-Line.field-0-is at c.in-Ok-Line.ensures in
    gathering_full c.next_piece.new.self _ _ (c.pieces.lines.items ++ c.in-Ok-Line.numbers ∷ []) c.pieces.marks.items next.held
    (gathering_line c.pieces.pieces c.next_piece.new.self _ _ _ inv.taken c.pieces.lines.items c.pieces.marks.items c.in-Ok-Line.numbers (next.more (λ e. absurd (cc))).0 inv.took inv.gathering next.piece)

pub pieces-preserved-else-is_err : goal.pieces-preserved-else-is_err
pieces-preserved-else-is_err g c =
    let inv = c.pieces.invariant in
    let next = rw c.in-Ok-Line.field-0-is at c.in-Ok-Line.ensures in
    let all = gathering_line c.pieces.pieces c.next_piece.new.self _ _ _ inv.taken c.pieces.lines.items c.pieces.marks.items c.in-Ok-Line.numbers (next.more (λ e. absurd (cc))).0 inv.took inv.gathering next.piece in
    let pushed : c.push.new.self.items ≡ c.pieces.lines.items ++ c.in-Ok-Line.numbers ∷ [] = rw c.if-is_err.ensures.negation at c.push.ensures.items in
    record {
      taken = all.0;
      took = all.1;
      gathering = subst (λ (lines : List Gathered). IsGathering c.next_piece.new.self all.0 lines c.pieces.marks.items) (sym pushed) all.2;
      to_come = (next.more (λ e. absurd (cc))).0;
      faults = next.faults ∙ inv.faults;
      empty = omega (arith, next.empty, inv.empty);
      beside = next.beside ∙ inv.beside;
    }

pub returns-then-is_err-2-clause-read : goal.returns-then-is_err-2-clause-read
returns-then-is_err-2-clause-read g c =
    let inv = c.pieces.invariant in
    let next = rw c.in-Ok-Mark.field-0-is at c.in-Ok-Mark.ensures in
    gathering_full c.next_piece.new.self _ _ c.pieces.lines.items (c.pieces.marks.items ++ c.in-Ok-Mark.mark ∷ []) next.held
    (gathering_mark c.pieces.pieces c.next_piece.new.self _ _ _ inv.taken c.pieces.lines.items c.pieces.marks.items c.in-Ok-Mark.mark (next.more (λ e. absurd (cc))).0 inv.took inv.gathering next.piece)

pub pieces-preserved : goal.pieces-preserved
pieces-preserved g c =
    let inv = c.pieces.invariant in
    let next = rw c.in-Ok-Mark.field-0-is at c.in-Ok-Mark.ensures in
    let all = gathering_mark c.pieces.pieces c.next_piece.new.self _ _ _ inv.taken c.pieces.lines.items c.pieces.marks.items c.in-Ok-Mark.mark (next.more (λ e. absurd (cc))).0 inv.took inv.gathering next.piece in
    let pushed : c.push-in-Ok-Mark.new.self.items ≡ c.pieces.marks.items ++ c.in-Ok-Mark.mark ∷ [] = rw c.if-is_err-2.ensures.negation at c.push-in-Ok-Mark.ensures.items in
    record {
      taken = all.0;
      took = all.1;
      gathering = subst (λ marks. IsGathering c.next_piece.new.self all.0 c.pieces.lines.items marks) (sym pushed) all.2;
      to_come = (next.more (λ e. absurd (cc))).0;
      faults = next.faults ∙ inv.faults;
      empty = omega (arith, next.empty, inv.empty);
      beside = next.beside ∙ inv.beside;
    }

pub certificate_of-requires-clause-counts : goal.certificate_of-requires-clause-counts
certificate_of-requires-clause-counts g c =
    let inv = c.pieces.invariant in
    let next = rw c.in-Ok-Done.field-0-is at c.in-Ok-Done.ensures in
    let all = gathering_done c.pieces.pieces c.next_piece.new.self _ _ _ inv.taken c.pieces.lines.items c.pieces.marks.items inv.took inv.gathering next.piece in
    subst AreCounts (sym c.counts.ensures) all.2.0.are_counts

pub certificate_of-requires-clause-lines : goal.certificate_of-requires-clause-lines
certificate_of-requires-clause-lines g c =
    let inv = c.pieces.invariant in
    let next = rw c.in-Ok-Done.field-0-is at c.in-Ok-Done.ensures in
    let all = gathering_done c.pieces.pieces c.next_piece.new.self _ _ _ inv.taken c.pieces.lines.items c.pieces.marks.items inv.took inv.gathering next.piece in
    subst (λ counts. CanSayAll (forms_of counts) (whole_said c.deref.result.now c.pieces.marks.items)) (sym c.counts.ensures)
    (subst (λ (lines : List Gathered). CanSayAll (forms_of c.next_piece.new.self.counts) (whole_said lines c.pieces.marks.items)) (sym c.deref.ensures.value) all.2.0.fits)

pub returns-in-Ok-Done-clause-read : goal.returns-in-Ok-Done-clause-read
returns-in-Ok-Done-clause-read g c =
    let inv = c.pieces.invariant in
    let next = rw c.in-Ok-Done.field-0-is at c.in-Ok-Done.ensures in
    let all = gathering_done c.pieces.pieces c.next_piece.new.self _ _ _ inv.taken c.pieces.lines.items c.pieces.marks.items inv.took inv.gathering next.piece in
    elim c.match-certificate_of.branch [
      | in-Ok w ↦ answer_is _ _ c.match-certificate_of.result _ w.result-is
          (whole_read _ _ c.next_piece.new.self.counts (whole_said c.pieces.lines.items c.pieces.marks.items) w.in-Ok.certificate (w.in-Ok.ensures.counts ∙ c.counts.ensures)
          (w.in-Ok.ensures.said ∙ ap (λ (lines : List Gathered). whole_said lines c.pieces.marks.items) c.deref.ensures.value) all)
      | in-Err-certificate_of w ↦ answer_is _ _ c.match-certificate_of.result _ w.result-is (whole_full _ _ c.next_piece.new.self.counts (whole_said c.pieces.lines.items c.pieces.marks.items) all)
    ]

pub returns-in-Ok-Done-clause-faults : goal.returns-in-Ok-Done-clause-faults
returns-in-Ok-Done-clause-faults g c =
    let next = rw c.in-Ok-Done.field-0-is at c.in-Ok-Done.ensures in
    let same = next.faults ∙ c.pieces.invariant.faults in
    elim c.match-certificate_of.branch [
      | in-Ok w ↦ inl (Ok w.in-Ok.certificate, w.result-is, same)
      | in-Err-certificate_of w ↦ inr (w.result-is, same)
    ]

pub returns-in-Ok-Done-clause-empty : goal.returns-in-Ok-Done-clause-empty
returns-in-Ok-Done-clause-empty g c =
    let next = rw c.in-Ok-Done.field-0-is at c.in-Ok-Done.ensures in
    elim c.match-certificate_of.branch [
      | in-Ok w ↦ inl (Ok w.in-Ok.certificate, w.result-is, omega (arith, next.empty, c.pieces.invariant.empty))
      | in-Err-certificate_of w ↦ inr (w.result-is, omega (arith, next.empty, c.pieces.invariant.empty))
    ]

pub returns-then-is_err-clause-empty : goal.returns-then-is_err-clause-empty
returns-then-is_err-clause-empty g c =
    let next = rw c.in-Ok-Line.field-0-is at c.in-Ok-Line.ensures in
    inr (refl, omega (arith, next.empty, c.pieces.invariant.empty))

pub returns-then-is_err-2-clause-empty : goal.returns-then-is_err-2-clause-empty
returns-then-is_err-2-clause-empty g c =
    let next = rw c.in-Ok-Mark.field-0-is at c.in-Ok-Mark.ensures in
    inr (refl, omega (arith, next.empty, c.pieces.invariant.empty))
