-- The words so far are the arguments before this place, except for the program's own path.
use Rattle.std.proofs.Common.{◌≡◌, ◌-◌, ◌≤◌, IfSome, map, string_bytes, take, drop}
use Rattle.adapters.proofs.words.words_of.Given as goal

abbrev pub invariant-loop-place : goal.invariant-loop-place
invariant-loop-place g l = record {
  begun : 1 ≤ l.place;
  words : IfSome (g.A.Arguments.told l.arguments) (λ all. map string_bytes l.words.items ≡ take (l.place - 1) (drop 1 all));
}
