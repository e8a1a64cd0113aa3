use Rattle.std.proofs.Common.{arith, length-take}
use Rattle.split_http.proofs.FramingLemmas.{request_of, never_of, full_of, open_of}
use Rattle.split_http.proofs.framing.framing_of.Goals as goal

pub returns-in-Found : goal.returns-in-Found
returns-in-Found c = request_of _ _ _ c.request_at.ensures

pub returns-in-Never : goal.returns-in-Never
returns-in-Never c = never_of _ _ c.in-Never.ensures

pub returns-else-bytes-lt-MAX_HEAD : goal.returns-else-bytes-lt-MAX_HEAD
returns-else-bytes-lt-MAX_HEAD c =
    full_of c.min.result c.args.bytes.now (omega (arith, length-take c.min.result c.args.bytes.now, c.min.ensures, c.if-bytes-lt-MAX_HEAD.false)) c.in-NotYet.ensures.0

pub returns-then-bytes-lt-MAX_HEAD : goal.returns-then-bytes-lt-MAX_HEAD
returns-then-bytes-lt-MAX_HEAD c =
    open_of c.min.result c.args.bytes.now (omega (arith, c.min.ensures, c.if-bytes-lt-MAX_HEAD.true)) c.if-bytes-lt-MAX_HEAD.true c.in-NotYet.ensures
