use Rattle.std.proofs.Common.{arith, ◌∙◌, ◌++◌, ◌∷◌, []}
use Rattle.std.proofs.lemmas.Result.{err_from_is_err_and}
use Rattle.cert_reader.proofs.Handed.{hands_trans, stops_after}
use Rattle.cert_reader.proofs.stream.Bytes.drain.Goals as goal

pub returns-in_err-next_byte-clause-stopped : goal.returns-in_err-next_byte-clause-stopped
returns-in_err-next_byte-clause-stopped g c =
    let p = err_from_is_err_and c.from_residual.result c.from_residual.ensures.1 in
    rw (p.1, p.2) (stops_after _ _ _ _ _ c.bytes.invariant.text c.in_err-next_byte.field-0.0 c.bytes.invariant.handed c.in_err-next_byte.ensures.stopped)

pub returns-in-None-clause-end : goal.returns-in-None-clause-end
returns-in-None-clause-end g c =
    let next = rw c.in-None.is at c.in_ok-next_byte.ensures in
    (c.bytes.invariant.text ++ [], hands_trans _ _ _ _ _ _ c.bytes.invariant.text [] c.bytes.invariant.handed next.byte, next.end.0, next.end.1)

pub bytes-preserved : goal.bytes-preserved
bytes-preserved g c =
    let next = rw c.in-Some.is at c.in_ok-next_byte.ensures in
    record {
      text = c.bytes.invariant.text ++ c.in-Some.field-0 ∷ [];
      handed = hands_trans _ _ _ _ _ _ c.bytes.invariant.text (c.in-Some.field-0 ∷ []) c.bytes.invariant.handed next.byte;
      faults = next.faults ∙ c.bytes.invariant.faults;
      empty = omega (arith, next.empty, c.bytes.invariant.empty);
      beside = next.beside ∙ c.bytes.invariant.beside;
    }
