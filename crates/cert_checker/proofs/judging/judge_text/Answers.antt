use Rattle.std.proofs.Common.{pos, Some, ap, arith, ◌≡◌, ◌∙◌, ◌++◌, ◌∷◌, [], subst, sym, length-append, map}
use Rattle.std.proofs.lemmas.Result.{err_from_is_err_and}
use Rattle.std.proofs.KnownBytes.{Consumes-trans}
use Rattle.split_frac.specs.Frac.{fraction_of}
use Rattle.cert_reader.specs.Reading.{with_mark}
use Rattle.cert_reader.specs.Text.{Numbers}
use Rattle.cert_reader.specs.Views.{says}
use Rattle.rule_verdicts.specs.declared.verdict.Verdict.TheVariants.{Yes}
use Rattle.cert_checker.specs.Judged.{IsCertificate, IsJudged}
use Rattle.cert_checker.proofs.LineSteps.{end_goes, judged_so, kind_stays, line_goes, some_lines, told_lines}
use Rattle.cert_checker.proofs.MarkSteps.{next_mark_goes, up_to_mark}
use Rattle.cert_checker.proofs.judging.judge_text.Goals as goal

pub unreachable-requires-in-Done : goal.unreachable-requires-in-Done
unreachable-requires-in-Done g c =
    let next = rw c.in-Done.is at c.in_ok-kind.ensures in
    let told = next.piece.2 [] [] c.new-pieces.ensures.read in
    let all = told.0 in
    let none = c.new-pieces.ensures.start in
    let some = some_lines c.next_part.new.self.counts in
    omega (arith, all, none, some)

pub returns-in_err-next_part-clause-judged : goal.returns-in_err-next_part-clause-judged
returns-in_err-next_part-clause-judged g c =
    let inv = c.lines.invariant in
    let e = err_from_is_err_and c.from_residual-in_err-next_part.result c.from_residual-in_err-next_part.ensures.1 in
    let p = c.in_err-next_part.ensures.piece in
    rw (e.1, e.2) (inv.taken ++ p.0, Consumes-trans _ _ _ inv.taken p.0 inv.took p.1, p.2 inv.taken inv.up_to.said inv.up_to.read)

pub take-requires : goal.take-requires
take-requires g c =
    let inv = c.lines.invariant in
    let next = rw c.in-Line-2.is at c.in_ok-next_part.ensures in
    let p = next.piece in
    let told = p.2 inv.taken inv.up_to.said inv.up_to.read in
    let last = Numbers (map fraction_of c.next_part-in-lines.new.numbers.items) in
    let rest = c.text_law.ensures.completed c.next_part-in-lines.new.self (inv.taken ++ p.0) (inv.up_to.said ++ last ∷ []) told.3 in
    let goes = line_goes c.lines.lines c.lines.pieces c.next_part-in-lines.new.self inv.up_to.said rest.0 last (inv.taken ++ p.0) inv.up_to.knows inv.up_to.kind inv.up_to.some inv.up_to.long told.1 told.2 told.3 (next.more (λ e. absurd (cc))).0 rest.1 in
    (inv.up_to.said, goes.0, goes.1, goes.2)

pub lines-preserved-in-Line-2 : goal.lines-preserved-in-Line-2
lines-preserved-in-Line-2 g c =
    let inv = c.lines.invariant in
    let next = rw c.in-Line-2.is at c.in_ok-next_part.ensures in
    let p = next.piece in
    let told = p.2 inv.taken inv.up_to.said inv.up_to.read in
    let last = Numbers (map fraction_of c.next_part-in-lines.new.numbers.items) in
    let rest = c.text_law.ensures.completed c.next_part-in-lines.new.self (inv.taken ++ p.0) (inv.up_to.said ++ last ∷ []) told.3 in
    let goes = line_goes c.lines.lines c.lines.pieces c.next_part-in-lines.new.self inv.up_to.said rest.0 last (inv.taken ++ p.0) inv.up_to.knows inv.up_to.kind inv.up_to.some inv.up_to.long told.1 told.2 told.3 (next.more (λ e. absurd (cc))).0 rest.1 in
    record {
      taken = inv.taken ++ p.0;
      took = Consumes-trans _ _ _ inv.taken p.0 inv.took p.1;
      up_to = record {
        said = inv.up_to.said ++ last ∷ [];
        read = told.3;
        kind = kind_stays c.lines.pieces.lines c.lines.pieces.counts c.next_part-in-lines.new.self.counts inv.up_to.some told.2 ∙ inv.up_to.kind ∙ ap Some (sym c.take.ensures.kind);
        knows = c.take.ensures.knows inv.up_to.said goes.0 goes.1 goes.2;
        to_come = (next.more (λ e. absurd (cc))).0;
        some = (let one = told.1 in let some = inv.up_to.some in omega arith);
        long = length-append inv.up_to.said (last ∷ []) ∙ (let one = told.1 in let long = inv.up_to.long in omega arith);
      };
      faults = next.faults ∙ inv.faults;
      empty = omega (arith, next.empty, inv.empty);
      beside = next.beside ∙ inv.beside;
    }

pub take_mark-requires : goal.take_mark-requires
take_mark-requires g c =
    let inv = c.lines.invariant in
    let next = rw c.in-Mark-2.is at c.in_ok-next_part.ensures in
    let p = next.piece in
    let told = p.2 inv.taken inv.up_to.said inv.up_to.read in
    let mark = c.in-Mark-2.mark in
    let rest = c.text_law.ensures.completed c.next_part-in-lines.new.self (inv.taken ++ p.0) (with_mark inv.up_to.said mark) told.2 in
    (inv.up_to.said, next_mark_goes c.lines.lines c.lines.pieces c.next_part-in-lines.new.self inv.taken p.0 rest.0 mark inv.up_to told.1 told.2 rest.1)

pub take_marks-requires-clause-known : goal.take_marks-requires-clause-known
take_marks-requires-clause-known g c =
    let inv = c.lines.invariant in
    let next = rw c.in-Mark-2.is at c.in_ok-next_part.ensures in
    let p = next.piece in
    let told = p.2 inv.taken inv.up_to.said inv.up_to.read in
    let mark = c.in-Mark-2.mark in
    let new = c.next_part-in-lines.new.self in
    let rest = c.text_law.ensures.completed new (inv.taken ++ p.0) (with_mark inv.up_to.said mark) told.2 in
    let goes = next_mark_goes c.lines.lines c.lines.pieces new inv.taken p.0 rest.0 mark inv.up_to told.1 told.2 rest.1 in
    let up_to = up_to_mark c.lines.lines c.take_mark.new.self c.lines.pieces new inv.taken p.0 mark inv.up_to told.1 told.2 (next.more (λ e. absurd (cc))).0 c.take_mark.ensures.kind (c.take_mark.ensures.knows inv.up_to.said goes) in
    (inv.taken ++ p.0, up_to)

pub returns-in_err-take_marks-in-Mark-2-clause-judged : goal.returns-in_err-take_marks-in-Mark-2-clause-judged
returns-in_err-take_marks-in-Mark-2-clause-judged g c =
    let inv = c.lines.invariant in
    let next = rw c.in-Mark-2.is at c.in_ok-next_part.ensures in
    let p = next.piece in
    let told = p.2 inv.taken inv.up_to.said inv.up_to.read in
    let mark = c.in-Mark-2.mark in
    let new = c.next_part-in-lines.new.self in
    let rest = c.text_law.ensures.completed new (inv.taken ++ p.0) (with_mark inv.up_to.said mark) told.2 in
    let goes = next_mark_goes c.lines.lines c.lines.pieces new inv.taken p.0 rest.0 mark inv.up_to told.1 told.2 rest.1 in
    let up_to = up_to_mark c.lines.lines c.take_mark.new.self c.lines.pieces new inv.taken p.0 mark inv.up_to told.1 told.2 (next.more (λ e. absurd (cc))).0 c.take_mark.ensures.kind (c.take_mark.ensures.knows inv.up_to.said goes) in
    let e = err_from_is_err_and c.from_residual-in_err-take_marks-in-Mark-2.result c.from_residual-in_err-take_marks-in-Mark-2.ensures.1 in
    let q = c.in_err-take_marks-in-Mark-2.ensures.marks in
    rw (e.1, e.2) ((inv.taken ++ p.0) ++ q.0, Consumes-trans _ _ _ (inv.taken ++ p.0) q.0 (Consumes-trans _ _ _ inv.taken p.0 inv.took p.1) q.1, q.2 (inv.taken ++ p.0) up_to)

pub lines-preserved : goal.lines-preserved
lines-preserved g c =
    let inv = c.lines.invariant in
    let next = rw c.in-Mark-2.is at c.in_ok-next_part.ensures in
    let p = next.piece in
    let told = p.2 inv.taken inv.up_to.said inv.up_to.read in
    let mark = c.in-Mark-2.mark in
    let new = c.next_part-in-lines.new.self in
    let rest = c.text_law.ensures.completed new (inv.taken ++ p.0) (with_mark inv.up_to.said mark) told.2 in
    let goes = next_mark_goes c.lines.lines c.lines.pieces new inv.taken p.0 rest.0 mark inv.up_to told.1 told.2 rest.1 in
    let up_to = up_to_mark c.lines.lines c.take_mark.new.self c.lines.pieces new inv.taken p.0 mark inv.up_to told.1 told.2 (next.more (λ e. absurd (cc))).0 c.take_mark.ensures.kind (c.take_mark.ensures.knows inv.up_to.said goes) in
    let marks = c.in_ok-take_marks-in-Mark-2.ensures in
    let q = marks.marks in
    record {
      taken = (inv.taken ++ p.0) ++ q.0;
      took = Consumes-trans _ _ _ (inv.taken ++ p.0) q.0 (Consumes-trans _ _ _ inv.taken p.0 inv.took p.1) q.1;
      up_to = q.2 (inv.taken ++ p.0) up_to;
      faults = marks.faults ∙ next.faults ∙ inv.faults;
      empty = omega (arith, marks.empty, next.empty, inv.empty);
      beside = marks.beside ∙ next.beside ∙ inv.beside;
    }

pub returns-in-Done-2-clause-judged : goal.returns-in-Done-2-clause-judged
returns-in-Done-2-clause-judged g c =
    let inv = c.lines.invariant in
    let next = rw c.in-Done-2.is at c.in_ok-next_part.ensures in
    let p = next.piece in
    let told = p.2 inv.taken inv.up_to.said inv.up_to.read in
    let counts = c.next_part-in-lines.new.self.counts in
    let goes = end_goes c.lines.lines c.lines.pieces c.next_part-in-lines.new.self inv.up_to.said (inv.taken ++ p.0) inv.up_to.knows inv.up_to.kind inv.up_to.some told.1 told.2 in (
      inv.taken ++ p.0,
      Consumes-trans _ _ _ inv.taken p.0 inv.took p.1,
      (judged_so (inv.taken ++ p.0) counts (inv.up_to.said ++ says [] ∷ []) c.verdict.result told.2 (c.verdict.ensures inv.up_to.said goes), told.3, told.4),
    )

pub returns-in-Done-2-clause-best : goal.returns-in-Done-2-clause-best
returns-in-Done-2-clause-best g c agreed =
    let inv = c.lines.invariant in
    let next = rw c.in-Done-2.is at c.in_ok-next_part.ensures in
    let p = next.piece in
    let told = p.2 inv.taken inv.up_to.said inv.up_to.read in
    let counts = c.next_part-in-lines.new.self.counts in
    let goes = end_goes c.lines.lines c.lines.pieces c.next_part-in-lines.new.self inv.up_to.said (inv.taken ++ p.0) inv.up_to.knows inv.up_to.kind inv.up_to.some told.1 told.2 in
    let same : c.verdict.result ≡ Yes = cc in
    let certificate : IsCertificate (inv.taken ++ p.0) =
    subst (IsJudged (inv.taken ++ p.0)) same (judged_so (inv.taken ++ p.0) counts (inv.up_to.said ++ says [] ∷ []) c.verdict.result told.2 (c.verdict.ensures inv.up_to.said goes)) in (
      inv.taken ++ p.0,
      Consumes-trans _ _ _ inv.taken p.0 inv.took p.1,
      certificate,
      c.certificate_verdict_law.ensures.best (inv.taken ++ p.0) certificate,
    )

pub returns-in_err-kind-clause-judged : goal.returns-in_err-kind-clause-judged
returns-in_err-kind-clause-judged g c =
    let e = err_from_is_err_and c.from_residual.result c.from_residual.ensures.1 in
    let p = c.in_err-kind.ensures.piece in
    rw (e.1, e.2) (p.0, p.1, p.2 [] [] c.new-pieces.ensures.read)

pub unreachable-requires : goal.unreachable-requires
unreachable-requires g c =
    let next = rw c.in-Line.is at c.in_ok-kind.ensures in
    let told = next.piece.2 [] [] c.new-pieces.ensures.read in
    let some = told.0 in
    let none = c.new-pieces.ensures.start in
    omega (arith, some, none)

pub unreachable-requires-in-Mark : goal.unreachable-requires-in-Mark
unreachable-requires-in-Mark g c =
    let next = rw c.in-Mark.is at c.in_ok-kind.ensures in
    let told = next.piece.2 [] [] c.new-pieces.ensures.read in
    let some = told.0 in
    let none = c.new-pieces.ensures.start in
    omega (arith, some, none)

pub lines-init : goal.lines-init
lines-init g c =
    let next = rw c.in-Kind.is at c.in_ok-kind.ensures in
    let p = next.piece in
    let told = p.2 [] [] c.new-pieces.ensures.read in
    record {
      taken = p.0;
      took = p.1;
      up_to = record {
        said = says (pos 1 ∷ []) ∷ says [] ∷ [];
        read = told.3;
        kind = told_lines c.in-Kind.kind c.next_part.new.self.counts (record { taken = c.new.result; rows = c.new-2.result }) told.2 c.new.ensures.kind;
        knows = c.new.ensures.knows _;
        to_come = (next.more (λ e. absurd (cc))).0;
        some = (let two = told.1 in omega (arith, two));
        long = sym told.1;
      };
      faults = next.faults;
      empty = omega (arith, next.empty);
      beside = next.beside;
    }

pub verdict-requires : goal.verdict-requires
verdict-requires g c =
    let inv = c.lines.invariant in
    let next = rw c.in-Done-2.is at c.in_ok-next_part.ensures in
    let p = next.piece in
    let told = p.2 inv.taken inv.up_to.said inv.up_to.read in
    (inv.up_to.said, end_goes c.lines.lines c.lines.pieces c.next_part-in-lines.new.self inv.up_to.said (inv.taken ++ p.0) inv.up_to.knows inv.up_to.kind inv.up_to.some told.1 told.2)

pub unreachable-requires-in-Kind-2 : goal.unreachable-requires-in-Kind-2
unreachable-requires-in-Kind-2 g c =
    let inv = c.lines.invariant in
    let next = rw c.in-Kind-2.is at c.in_ok-next_part.ensures in
    let told = next.piece.2 inv.taken inv.up_to.said inv.up_to.read in
    let none = told.0 in
    let some = inv.up_to.some in
    omega (arith, none, some)
