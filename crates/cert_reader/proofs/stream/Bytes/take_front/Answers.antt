use Rattle.std.proofs.Common.{arith, ◌∙◌, ◌++◌, ◌∷◌, [], ap, take, refl, subst, sym}
use Rattle.std.proofs.lemmas.Result.{err_from_is_err_and}
use Rattle.std.proofs.lemmas.List.{take_more}
use Rattle.cert_reader.specs.Stream.{Hands}
use Rattle.cert_reader.proofs.Handed.{hands_none, hands_trans, stops_after}
use Rattle.cert_reader.proofs.stream.Bytes.take_front.Goals as goal

pub loop-expected-init : goal.loop-expected-init
loop-expected-init g c = record { handed = hands_none _ _ _ refl refl; few = λ some. absurd (omega arith); faults = refl; empty = omega arith; beside = refl }

pub returns-in_err-byte-clause-stopped : goal.returns-in_err-byte-clause-stopped
returns-in_err-byte-clause-stopped g c =
    let p = err_from_is_err_and c.from_residual.result c.from_residual.ensures.1 in
    rw (p.1, p.2) (stops_after _ _ _ _ _ (take c.loop-expected.expected-index c.args.front.now) c.in_err-byte.field-0.0 c.loop-expected.invariant.handed (c.in_err-byte.ensures).stopped)

pub returns-then-byte-expected-clause-front : goal.returns-then-byte-expected-clause-front
returns-then-byte-expected-clause-front g c =
    let next = rw c.in-Some.is at c.in_ok-byte.ensures in
    let low = c.loop-expected-test.true in
    let end = c.loop-expected.auto.expected-index-end in (
      c.loop-expected.expected-index,
      c.in-Some.byte,
      omega arith,
      c.if-byte-expected.true,
      hands_trans _ _ _ _ _ _ (take c.loop-expected.expected-index c.args.front.now) (c.in-Some.byte ∷ []) c.loop-expected.invariant.handed next.byte,
    )

pub loop-expected-preserved : goal.loop-expected-preserved
loop-expected-preserved g c =
    let next = rw c.in-Some.is at c.in_ok-byte.ensures in
    let low = c.loop-expected-test.true in
    record {
      handed = subst (Hands _ _ _ _)
          (ap (λ b. take c.loop-expected.expected-index c.args.front.now ++ b ∷ []) c.if-byte-expected.false ∙ sym (take_more c.args.front.now c.loop-expected.expected-index 0 (omega arith)))
          (hands_trans _ _ _ _ _ _ (take c.loop-expected.expected-index c.args.front.now) (c.in-Some.byte ∷ []) c.loop-expected.invariant.handed next.byte);
      few = λ _. next.few;
      faults = next.faults ∙ c.loop-expected.invariant.faults;
      empty = omega (arith, next.empty, c.loop-expected.invariant.empty);
      beside = next.beside ∙ c.loop-expected.invariant.beside;
    }
