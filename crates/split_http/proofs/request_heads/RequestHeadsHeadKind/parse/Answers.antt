use Rattle.std.proofs.Common.{arith}
use Rattle.split_http.proofs.HeadLemmas.{asks_partial, asks_room, many_fields}
use Rattle.split_http.proofs.request_heads.RequestHeadsHeadKind.parse.Goals as goal

pub returns-clause-many : goal.returns-clause-many
returns-clause-many c = many_fields _ _ _ c.parse_request.ensures.complete c.parse_request.ensures.within

pub returns-clause-more : goal.returns-clause-more
returns-clause-more c = asks_partial _ _ c.parse_request.ensures.partial c.parse_request.ensures.unfinished

pub returns-clause-more_room : goal.returns-clause-more_room
returns-clause-more_room c = asks_room _ _ _ (omega arith) c.parse_request.ensures.too_many
