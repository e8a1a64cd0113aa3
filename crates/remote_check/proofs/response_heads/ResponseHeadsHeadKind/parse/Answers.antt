use Rattle.std.proofs.Common.{arith}
use Rattle.remote_check.proofs.HeadLemmas.{asks_partial, asks_room, many_fields}
use Rattle.remote_check.proofs.response_heads.ResponseHeadsHeadKind.parse.Goals as goal

pub returns-clause-many : goal.returns-clause-many
returns-clause-many c = many_fields _ _ _ c.parse_response.ensures.complete c.parse_response.ensures.within

pub returns-clause-more : goal.returns-clause-more
returns-clause-more c = asks_partial _ _ c.parse_response.ensures.partial c.parse_response.ensures.unfinished

pub returns-clause-more_room : goal.returns-clause-more_room
returns-clause-more_room c = asks_room _ _ _ (omega arith) c.parse_response.ensures.too_many
