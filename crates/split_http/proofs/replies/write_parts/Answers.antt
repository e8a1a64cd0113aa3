use Rattle.std.proofs.Common.{subst, OnOk, OnErr}
use Rattle.std.specs.Io.KnownBytes.{Appends}
use Rattle.split_http.specs.Pieces.{AppendsProperPart}
use Rattle.split_http.proofs.ReplyLemmas.{joined-pieces}
use Rattle.split_http.proofs.replies.write_parts.Goals as goal

pub returns-clause-whole : goal.returns-clause-whole
returns-clause-whole g c =
    subst (λ bytes. OnOk c.write_pieces.result (Appends (g.S.Sink.written c.args.sink.now) (g.S.Sink.written c.write_pieces.new.sink) bytes))
    (joined-pieces c.args.digits.now c.args.phrase.now c.args.date.now c.args.kind.now c.args.size.now c.args.allow.now c.args.close.now c.args.body.now)
    c.write_pieces.ensures.whole

pub returns-clause-part : goal.returns-clause-part
returns-clause-part g c =
    subst (λ bytes. OnErr c.write_pieces.result (AppendsProperPart (g.S.Sink.written c.args.sink.now) (g.S.Sink.written c.write_pieces.new.sink) bytes))
    (joined-pieces c.args.digits.now c.args.phrase.now c.args.date.now c.args.kind.now c.args.size.now c.args.allow.now c.args.close.now c.args.body.now)
    c.write_pieces.ensures.part
