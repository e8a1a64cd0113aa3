use Rattle.split_http.proofs.StatusLemmas.{reason_phrase-code}
use Rattle.split_http.proofs.replies.phrase.Goals as goal

pub unreachable-requires-in-Err : goal.unreachable-requires-in-Err
unreachable-requires-in-Err c = c.in-Err.ensures (reason_phrase-code c.args.status c.requires)
