use Rattle.std.proofs.Common.{◌≡◌, ◌+◌, ◌∷◌, length, map, pos, take}
use Rattle.best_laws.specs.Entries.{costs_from}
use Rattle.certificates.proofs.sets.set_numbers.Given as goal

abbrev pub invariant-loop-at : goal.invariant-loop-at
invariant-loop-at l = record {
  count : length l.numbers.items ≡ l.at-index + 1;
  items : map pos l.numbers.items ≡ pos l.set ∷ map (λ at. pos (costs_from l.costs at l.set)) (take l.at-index l.at-items);
}
