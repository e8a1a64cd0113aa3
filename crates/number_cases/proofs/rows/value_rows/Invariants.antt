-- The rows so far.
use Rattle.std.proofs.Common.{◌≡◌, ◌*◌, length, map, take, drop}
use Rattle.std.specs.List.{range_with_len}
use Rattle.number_cases.proofs.rows.value_rows.Given as goal

abbrev pub invariant-loop-k : goal.invariant-loop-k
invariant-loop-k l = record {
  count : length l.rows.items ≡ l.k;
  items : l.rows.items ≡ map (λ k. record { items = take l.size (drop (k * l.size) l.amounts) }) (range_with_len 0 l.k);
}
