use Rattle.std.proofs.Common.{◌≡◌, ◌-◌, length, map, take}
use Rattle.estate_judge.proofs.marks.players_of.Given as goal

abbrev pub invariant-loop-k : goal.invariant-loop-k
invariant-loop-k l = record {
  count : length l.list.items ≡ l.k;
  items : l.list.items ≡ map (λ mark. mark - 64) (take l.k l.letters);
}
