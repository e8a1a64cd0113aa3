use Rattle.std.proofs.Common.{◌≡◌, ◌++◌, ◌+◌, length, take}
use Rattle.estate_judge.proofs.leaf.with_last.Given as goal

abbrev pub invariant-loop-k : goal.invariant-loop-k
invariant-loop-k l = record {
  count : length l.list.items ≡ l.k;
  items : l.list.items ≡ take l.k l.owners;
}

abbrev pub invariant-twin : goal.invariant-twin
invariant-twin l = record {
  count : length l.list.items ≡ l.front + l.k;
  items : l.list.items ≡ take l.front l.owners ++ take l.k l.last;
}
