-- The body so far is what the link's bytes began with, and the interim line is in the link.
use Rattle.std.proofs.Common.{◌≡◌, ◌≤◌, ◌-◌, vec_len, vec_capacity}
use Rattle.std.specs.Io.KnownBytes.{Consumes, prepend_known}
use Rattle.split_http.proofs.bodies.next_body.Given as goal

abbrev pub invariant-pieces : goal.invariant-pieces
invariant-pieces g l = record {
  took : Consumes (prepend_known l.initial.carry (g.L.Source.left l.initial.link)) (prepend_known l.carry (g.L.Source.left l.link)) l.body.items;
  within : vec_len l.body ≤ l.«length»;
  room : l.«length» ≤ vec_capacity l.body;
  beside : g.L.Source.beside l.link ≡ g.L.Source.beside l.initial.link;
  reads : g.L.Source.faults l.link ≡ g.L.Source.faults l.initial.link;
}

abbrev pub decreases-pieces : goal.decreases-pieces
decreases-pieces g l = l.«length» - vec_len l.body
