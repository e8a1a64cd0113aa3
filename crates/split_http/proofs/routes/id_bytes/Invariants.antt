-- What is left before the slash, after the bytes so far.
use Rattle.std.proofs.Common.{length, ◌-◌, ◌≡◌, ◌+◌, ◌≤◌, drop}
use Rattle.split_http.specs.Places.{id_len}
use Rattle.split_http.proofs.routes.id_bytes.Given as goal

abbrev pub invariant-loop-size : goal.invariant-loop-size
invariant-loop-size l = record {
  within : l.size ≤ length l.rest;
  so_far : l.size + id_len (drop l.size l.rest) ≡ id_len l.rest;
}

abbrev pub decreases-loop-size : goal.decreases-loop-size
decreases-loop-size l = length l.rest - l.size
