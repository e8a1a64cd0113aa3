use Rattle.std.proofs.Common.{arith, rules}
use Rattle.split_http.proofs.BodyLemmas.{consumed_more}
use Rattle.split_http.proofs.bodies.next_body.Goals as goal

-- the first bytes of the carry go after the body
pub pieces-preserved : goal.pieces-preserved
pieces-preserved g c = record {
  took = rw (c.move_front.ensures.items, c.move_front.ensures.rest)
      (consumed_more _ _ _ _ _ c.min-count.result c.pieces.invariant.took c.in-Ok-ready.ensures.same);
  within = omega (arith, c.move_front.ensures.size, c.min-count.ensures, c.len-in-pieces-2.ensures, c.pieces.invariant.within);
  room = omega (arith, c.move_front.ensures.capacity, c.pieces.invariant.room);
  beside = search rules;
  reads = search rules;
}
