use Rattle.std.proofs.Common.{◌≡◌, length, replicate}
use Rattle.split_json.proofs.heads.free_fares.Given as goal

abbrev pub invariant-loop : goal.invariant-loop
invariant-loop l = record {
  rows : l.legs.items ≡ replicate l.counter (record { items = replicate l.places 0 });
  count : length l.legs.items ≡ l.counter;
}
