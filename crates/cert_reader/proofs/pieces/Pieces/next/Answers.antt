use Rattle.cert_reader.proofs.pieces.Pieces.next.Goals as goal

pub returns-clause-piece : goal.returns-clause-piece
returns-clause-piece g c =
    let says = c.next_piece.ensures.piece in
    (says.0, says.1, λ taken said read. (c.next_piece.result, c.read_answer.ensures.same, says.2 taken said read))
