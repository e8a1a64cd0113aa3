use Rattle.std.proofs.Common.{◌∷◌, []}
use Rattle.cert_reader.specs.TreeLines.{GoesNotOn}
use Rattle.cert_reader.proofs.Settled.{refused_after}
use Rattle.cert_reader.proofs.tree_line.next_mark.Goals as goal

pub returns-clause-mark : goal.returns-clause-mark
returns-clause-mark g c =
    let next = rw c.in-Some.is at c.in_ok-byte.ensures in
    refused_after _ _ _ _ _ _ c.args.line (c.in-Some.byte ∷ []) (λ _. Unit {0}) GoesNotOn c.refuse.result next.byte (λ rest _. ((λ is. absurd (let mark = c.if-is_mark.ensures.1 is in cc)), c.if-byte-eq10.false)) c.refuse.ensures.end
