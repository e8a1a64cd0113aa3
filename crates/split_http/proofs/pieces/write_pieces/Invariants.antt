-- The pieces so far are written or wait, and no write has failed.
use Rattle.std.proofs.Common.{◌≡◌, ℕ, List, ◌++◌, take}
use Rattle.std.specs.Io.KnownBytes.{Appends}
use Rattle.std.specs.List.{flat_map}
use Rattle.split_http.proofs.pieces.write_pieces.Given as goal

abbrev pub invariant-loop-piece : goal.invariant-loop-piece
invariant-loop-piece g l = record {
  written : (out : List ℕ) × Appends (g.S.Sink.written l.initial.sink) (g.S.Sink.written l.sink) out
      × (flat_map (λ p. p.now) (take l.piece-index l.pieces) ≡ out ++ l.held.items);
  count : g.S.Sink.faults l.sink ≡ g.S.Sink.faults l.initial.sink;
  empty : g.S.Sink.empty_writes l.sink ≡ g.S.Sink.empty_writes l.initial.sink;
  beside : g.S.Sink.beside l.sink ≡ g.S.Sink.beside l.initial.sink;
}
