use Rattle.std.proofs.Common.{◌≡◌, ◌+◌, [], All, length}
use Rattle.search_workers.specs.Crews.{IsReady}
use Rattle.search_workers.specs.Views.{desk_view}
use Rattle.search_workers.proofs.crew.seat_workers.Given as goal

abbrev pub invariant-seats : goal.invariant-seats
invariant-seats l = record {
  seat : (l.seat.table_id ≡ l.desk.shared.table_id) × (l.seat.me.1 ≡ []);
  view : l.seat.me.0 ≡ desk_view [] 0 l.seat.me.0.allot 0 l.left l.workers;
  allot : l.seat.me.0.allot + l.counter ≡ l.workers;
  ready : All (IsReady l.desk.shared.table_id l.left l.workers) l.crew.items;
  count : length l.crew.items ≡ l.counter;
}
