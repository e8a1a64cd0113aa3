-- The option that is being read has no comma so far, and none before it is `close`.
use Rattle.std.proofs.Common.{◌≡◌, ℕ, ◌<◌, ◌≤◌, ◌==◌, false, drop, get_or}
use Rattle.split_http.specs.Fields.{lists_close}
use Rattle.split_http.proofs.fields.closes_in.Given as goal

abbrev pub invariant-loop-at : goal.invariant-loop-at
invariant-loop-at l = record {
  within : l.start ≤ l.at;
  uncut : (i : ℕ) → l.start ≤ i → i < l.at → (get_or l.value i 0 == 44) ≡ false;
  so_far : lists_close (drop l.start l.value) ≡ lists_close l.value;
}
