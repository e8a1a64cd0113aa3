use Rattle.std.proofs.Common.{arith, ◌∙◌, ◌++◌, [], append-nil, append_assoc, refl, subst, sym}
use Rattle.std.proofs.lemmas.Result.{err_from_is_err_and}
use Rattle.std.proofs.KnownBytes.{Consumes-nil, Consumes-trans}
use Rattle.cert_reader.specs.Reading.{IsEnd, with_mark}
use Rattle.cert_checker.specs.Lines.{IsUpTo}
use Rattle.cert_checker.proofs.MarkSteps.{next_mark_goes, still_open, up_to_end, up_to_mark}
use Rattle.cert_checker.proofs.judging.take_marks.Goals as goal

pub marks-init : goal.marks-init
marks-init g c = record {
  more = [];
  took = Consumes-nil _;
  goes = λ taken up_to. subst (IsUpTo c.args.pieces.now c.args.lines.now) (sym (append-nil taken)) up_to;
  later = omega arith;
  few = c.requires.few;
  faults = refl;
  empty = omega arith;
  beside = refl;
}

pub returns-in_err-mark-clause-marks : goal.returns-in_err-mark-clause-marks
returns-in_err-mark-clause-marks g c =
    let inv = c.marks.invariant in
    let e = err_from_is_err_and c.from_residual.result c.from_residual.ensures.1 in
    let p = c.in_err-mark.ensures.mark in rw (e.1, e.2) (
      inv.more ++ p.0,
      Consumes-trans _ _ _ inv.more p.0 inv.took p.1,
      λ taken up_to. (let up = inv.goes taken up_to in subst (IsEnd c.in_err-mark.field-0.0 (g.S.Source.left c.next_in_tree.new.source)) (append_assoc taken inv.more p.0) (p.2 (taken ++ inv.more) up.said up.read)),
    )

pub take_mark-requires : goal.take_mark-requires
take_mark-requires g c =
    let known = c.requires.known in
    let inv = c.marks.invariant in
    let up = inv.goes known.0 known.1 in
    let next = rw c.in-Some.is at c.in_ok-mark.ensures in
    let p = next.mark in
    let mark = c.in-Some.mark in
    let told = p.2 (known.0 ++ inv.more) up.said up.read in
    let rest = c.text_law.ensures.completed c.next_in_tree.new.self ((known.0 ++ inv.more) ++ p.0) (with_mark up.said mark) told.1 in
    (up.said, next_mark_goes c.marks.lines c.marks.pieces c.next_in_tree.new.self (known.0 ++ inv.more) p.0 rest.0 mark up told.0 told.1 rest.1)

pub marks-preserved-in-Some : goal.marks-preserved-in-Some
marks-preserved-in-Some g c =
    let inv = c.marks.invariant in
    let next = rw c.in-Some.is at c.in_ok-mark.ensures in
    let p = next.mark in
    let mark = c.in-Some.mark in
    let new = c.next_in_tree.new.self in
    record {
      more = inv.more ++ p.0;
      took = Consumes-trans _ _ _ inv.more p.0 inv.took p.1;
      goes = λ taken up_to. (
          let up = inv.goes taken up_to in
          let told = p.2 (taken ++ inv.more) up.said up.read in
          let rest = c.text_law.ensures.completed new ((taken ++ inv.more) ++ p.0) (with_mark up.said mark) told.1 in
          let goes = next_mark_goes c.marks.lines c.marks.pieces new (taken ++ inv.more) p.0 rest.0 mark up told.0 told.1 rest.1 in
          subst (IsUpTo new c.take_mark.new.self) (append_assoc taken inv.more p.0)
          (up_to_mark c.marks.lines c.take_mark.new.self c.marks.pieces new (taken ++ inv.more) p.0 mark up told.0 told.1 (still_open c.marks.pieces new next.same.0 next.same.1 up.to_come) c.take_mark.ensures.kind (c.take_mark.ensures.knows up.said goes))
          );
      later = (let later = inv.later in let takes = next.takes in omega (arith, later, takes));
      few = next.few;
      faults = next.faults ∙ inv.faults;
      empty = omega (arith, next.empty, inv.empty);
      beside = next.beside ∙ inv.beside;
    }

pub marks-preserved : goal.marks-preserved
marks-preserved g c =
    let inv = c.marks.invariant in
    let next = rw c.in_default.is at c.in_ok-mark.ensures in
    let p = next.mark in
    let new = c.next_in_tree.new.self in
    record {
      more = inv.more ++ p.0;
      took = Consumes-trans _ _ _ inv.more p.0 inv.took p.1;
      goes = λ taken up_to. (
          let up = inv.goes taken up_to in
          subst (IsUpTo new c.marks.lines) (append_assoc taken inv.more p.0)
          (up_to_end c.marks.lines c.marks.pieces new (taken ++ inv.more) p.0 up next.same.0 next.same.1 (p.2 (taken ++ inv.more) up.said up.read))
          );
      later = (let later = inv.later in let takes = next.takes in omega (arith, later, takes));
      few = next.few;
      faults = next.faults ∙ inv.faults;
      empty = omega (arith, next.empty, inv.empty);
      beside = next.beside ∙ inv.beside;
    }
